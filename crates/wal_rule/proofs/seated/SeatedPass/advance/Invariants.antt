use Rattle.machine_state.specs.Steps.{advance}
use Rattle.wal_rule.proofs.seated.SeatedPass.advance.Given as goal

abbrev pub ghosts-stores : goal.ghosts-stores
ghosts-stores g a = record { kind = advance (a.operands).first (a.operands).second }
