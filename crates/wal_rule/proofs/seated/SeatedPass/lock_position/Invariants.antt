use Rattle.machine_state.specs.Steps.{lock_position}
use Rattle.wal_rule.proofs.seated.SeatedPass.lock_position.Given as goal

abbrev pub ghosts-exchanges : goal.ghosts-exchanges
ghosts-exchanges g a = record { kind = lock_position a.expected }
