use Rattle.machine_state.specs.Steps.{take_lock}
use Rattle.wal_rule.proofs.seated.SeatedPass.take_lock.Given as goal

abbrev pub ghosts-exchanges : goal.ghosts-exchanges
ghosts-exchanges g a = record { kind = take_lock (a.operands).first }
