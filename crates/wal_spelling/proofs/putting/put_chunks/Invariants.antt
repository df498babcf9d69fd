use Rattle.std.proofs.Common.{◌≡◌, ℕ, ◌<◌, [], get_or}
use Rattle.std.specs.Int.{w64, from_le_bytes}
use Rattle.wal_spelling.proofs.putting.put_chunks.Given as goal

-- the words as far as the loop has come
abbrev pub invariant-loop-n : goal.invariant-loop-n
invariant-loop-n l = (k : ℕ) → k < l.n → get_or l.words k 0 ≡ from_le_bytes w64 (get_or l.chunks k [])
