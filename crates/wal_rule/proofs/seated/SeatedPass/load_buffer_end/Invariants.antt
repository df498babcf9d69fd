use Rattle.machine_state.specs.Steps.{load_buffer_end}
use Rattle.wal_rule.proofs.seated.SeatedPass.load_buffer_end.Given as goal

abbrev pub ghosts-loads : goal.ghosts-loads
ghosts-loads g a = record { kind = load_buffer_end (a.operands).first }
