use Rattle.std.proofs.Common.{◌≡◌, ℕ, ◌+◌, ◌<◌, get_or}
use Rattle.wal_spelling.specs.Spelling.{filled, word_at}
use Rattle.wal_spelling.proofs.body.Body.put_each.Given as goal

-- the words as far as the loop has come
abbrev pub invariant-loop-k : goal.invariant-loop-k
invariant-loop-k l = (k : ℕ) → k < l.k → get_or l.words k 0 ≡ word_at (filled l.self l.prev.0) (l.n + k)
