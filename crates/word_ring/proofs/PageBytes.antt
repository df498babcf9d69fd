-- A page's words, one of which is put at its place.
use Rattle.std.proofs.Common.{◌≡◌, ℕ, ◌+◌, ◌-◌, ◌*◌, ◌<◌, ◌≤◌, List, length, take, drop, sym, ap, ◌∙◌, arith}
use Rattle.std.proofs.lemmas.Slice.{between_is, between-put_mid, take-put_mid_below}
use borrow.Rule.Slice.PartMut.{put_mid}
use Rattle.segment_disk.specs.DiskImage.{word_of}

module _ (n : ℕ) (into piece : List ℕ) (long : length piece ≡ 8)
    (within : 8 * n + 8 ≤ length into) where
  pub word_of-put_below : (k : ℕ) → k < n → word_of (put_mid (8 * n) 8 into piece) k ≡ word_of into k
  word_of-put_below k less =
      let width : 8 * k + 8 - 8 * k ≡ 8 = omega arith in
      let after = put_mid (8 * n) 8 into piece in
      let as_between = λ (bytes : List ℕ).
      ap (λ (w : ℕ). take w (drop (8 * k) bytes)) (sym width)
      ∙ between_is bytes (8 * k) (8 * k + 8) in
      as_between after ∙ ap (drop (8 * k))
      (take-put_mid_below (8 * n) 8 into piece (8 * k + 8) (omega arith) (omega arith))
      ∙ sym (as_between into)

  pub word_of-put_at : word_of (put_mid (8 * n) 8 into piece) n ≡ piece
  word_of-put_at =
      let width : 8 * n + 8 - 8 * n ≡ 8 = omega arith in
      ap (λ (w : ℕ). take w (drop (8 * n) (put_mid (8 * n) 8 into piece))) (sym width)
      ∙ between-put_mid (8 * n) 8 into piece (8 * n + 8) (omega arith) (omega arith)
