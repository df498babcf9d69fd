use Rattle.machine_state.specs.Steps.{load_lock}
use Rattle.wal_rule.proofs.seated.SeatedPass.load_lock.Given as goal

abbrev pub ghosts-loads : goal.ghosts-loads
ghosts-loads g a = record { kind = load_lock (a.operands).first (a.operands).second }
