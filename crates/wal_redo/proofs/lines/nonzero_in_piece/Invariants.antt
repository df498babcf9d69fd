use Rattle.std.proofs.Common.{◌≡◌, ◌==◌, not, count_by, take}
use Rattle.wal_redo.proofs.lines.nonzero_in_piece.Given as goal

-- the bytes so far are counted
abbrev pub invariant-loop-byte : goal.invariant-loop-byte
invariant-loop-byte l = l.count ≡ count_by (λ byte. not (byte == 0)) (take l.byte-index l.piece)
