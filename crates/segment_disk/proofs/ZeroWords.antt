-- The words of pages of zeros.
use Rattle.std.proofs.Common.{◌≡◌, ℕ, ◌+◌, ◌-◌, ◌*◌, ◌<◌, ◌≤◌, take, drop, replicate, ap, ◌∙◌, arith}
use Rattle.std.proofs.lemmas.List.{drop-replicate, take-replicate}
use Rattle.segment_disk.specs.Tape.{zero_page}
use Rattle.segment_disk.specs.DiskImage.{word_of}

pub word_of-zeros : (m k : ℕ) → k + 8 ≤ m → take 8 (drop k (replicate {A = ℕ} m 0)) ≡ replicate {A = ℕ} 8 0
word_of-zeros m k within = ap (take 8) (drop-replicate {X = ℕ} k m 0) ∙ take-replicate {X = ℕ} 8 (m - k) 0 (omega arith)

pub word_of-zero_page : (n : ℕ) → n < 1024 → word_of zero_page n ≡ replicate {A = ℕ} 8 0
word_of-zero_page n low = word_of-zeros 8192 (8 * n) (omega arith)
