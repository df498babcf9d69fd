use Rattle.std.proofs.Common.{◌≡◌, ◌+◌, ◌*◌, ◌==◌, ℕ, length, not, count_by}
use Rattle.wal_redo.proofs.lines.nonzero.Given as goal

-- the bytes before the rest are counted, and the rest has whole pieces
abbrev pub invariant-loop-piece : goal.invariant-loop-piece
invariant-loop-piece l = record {
  counted : l.count + count_by (λ byte. not (byte == 0)) l.rest ≡ count_by (λ byte. not (byte == 0)) l.page;
  pieces : (n : ℕ) × (length l.rest ≡ 128 * n);
}

abbrev pub decreases-loop-piece : goal.decreases-loop-piece
decreases-loop-piece l = length l.rest
