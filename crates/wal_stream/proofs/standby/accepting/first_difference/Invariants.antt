-- The words so far are the same.
use Rattle.std.proofs.Common.{◌≡◌, ℕ, ◌<◌}
use Rattle.segment_disk.specs.DiskImage.{word_of}
use Rattle.wal_stream.proofs.standby.accepting.first_difference.Given as goal

abbrev pub invariant-loop-word : goal.invariant-loop-word
invariant-loop-word l = (k : ℕ) → k < l.word → word_of l.one k ≡ word_of l.other k
