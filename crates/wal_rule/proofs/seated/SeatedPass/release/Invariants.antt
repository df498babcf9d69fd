use Rattle.machine_state.specs.Steps.{release}
use Rattle.wal_rule.proofs.seated.SeatedPass.release.Given as goal

abbrev pub ghosts-stores : goal.ghosts-stores
ghosts-stores g a = record { kind = release (a.operands).first }
