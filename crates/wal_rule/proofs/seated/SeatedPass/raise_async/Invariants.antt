use Rattle.machine_state.specs.Steps.{raise_async}
use Rattle.wal_rule.proofs.seated.SeatedPass.raise_async.Given as goal

abbrev pub ghosts-exchanges : goal.ghosts-exchanges
ghosts-exchanges g a = record { kind = raise_async (a.operands).first (a.operands).second }
