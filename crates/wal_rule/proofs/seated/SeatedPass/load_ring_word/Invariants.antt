use Rattle.machine_state.specs.Steps.{load_ring_word}
use Rattle.wal_rule.proofs.seated.SeatedPass.load_ring_word.Given as goal

abbrev pub ghosts-loads_at : goal.ghosts-loads_at
ghosts-loads_at g a = record { kind = load_ring_word (a.operands).first }
