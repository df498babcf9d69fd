-- What was promised is left by a crash of a standby's disk.
use Rattle.std.proofs.Common.{◌≡◌, ℕ, ◌+◌, ◌-◌, ◌*◌, ◌/◌, ◌%◌, ◌<◌, ◌≤◌, inl, inr, List, ap, subst, ◌∙◌, arith}
use Rattle.std.proofs.lemmas.Bool.{cases_lt}
use Rattle.std.proofs.lemmas.Nat.{le-div}
use Rattle.std.proofs.Math.Nat.{div-mul-le_self}
use Rattle.byte_position.specs.Geometry.{IsSegmentSize, pages_of}
use Rattle.byte_position.proofs.SegmentSizes.{segment_size_in_pages}
use Rattle.segment_disk.specs.Assured.{DiskImageFits, IsMadeUpto, SegmentFits}
use Rattle.segment_disk.specs.DiskImage.{DiskImage}
use Rattle.segment_disk.specs.ImageWords.{HasPageAt, image_word}
use Rattle.flush_core.specs.Lawful.{IsLawful}
use Rattle.flush_core.specs.Left.{IsKeptWord}
use Rattle.flush_core.specs.Pages.{PutPages}
use Rattle.flush_core.proofs.LawfulLaws.{no_owner_before, no_word_before, word_fits, word_stands_at}
use Rattle.wal_page.specs.Order.{Entry, IsChained}
use Rattle.wal_page.specs.Log.{IsLawfulWord, log_word_bytes}
use Rattle.wal_stream.specs.Following.{HaveLogBelow}

module _ (size sysid : ℕ) (valid : IsSegmentSize size) (es : List Entry) (chained : IsChained size es) (image : DiskImage) where
  module _ (upto : ℕ) (whole : upto % 8 ≡ 0) (pages : PutPages) (log : HaveLogBelow size sysid es upto pages) (fits : DiskImageFits size (IsMadeUpto size upto) (IsKeptWord upto pages) image) where
    -- the segment of a word below the address
    segment_made : (k : ℕ) → 8 * k < upto → size ≤ 8 * k → IsMadeUpto size upto (8 * k / size)
    segment_made k below begun =
        let pages = segment_size_in_pages size valid in
        let positive : 0 < size = omega (arith, pages.0, pages.1) in
        let some : 1 ≤ 8 * k / size = le-div 1 (8 * k) size positive (omega (arith, begun)) in
        let product : 8 * k / size * size ≤ 8 * k = div-mul-le_self (8 * k) size in
        let last : 8 * k / size ≤ (upto - 1) / size = le-div (8 * k / size) (upto - 1) size positive (omega (arith, below, product)) in
        (some, last)

    -- it is left, and its page is there
    word_left : (k : ℕ) → 8 * k < upto → size ≤ 8 * k → (image_word size image (8 * k) ≡ log_word_bytes size sysid es (8 * k)) × HasPageAt size image (8 * k)
    word_left k below begun =
        let segment = 8 * k / size in
        let offset = 8 * k % size in
        let at = word_stands_at size valid k in
        let page = segment * pages_of size + offset / 8192 in
        let word = offset % 8192 / 8 in
        elim (word_fits size (IsMadeUpto size upto) (IsKeptWord upto pages) segment offset (image segment) at.within at.low (fits segment)) [
          | inl none ↦ absurd (subst (SegmentFits size (IsMadeUpto size upto) (IsKeptWord upto pages) segment) none.0 (fits segment) (segment_made k below begun))
          | inr there ↦ (
            there.1 (omega (arith, at.at, below, whole)) ∙ log page word at.low (omega (arith, at.at, below)) ∙ ap (log_word_bytes size sysid es) at.at,
            there.0,
          )
        ]

    word_before : (k : ℕ) → 8 * k < size → IsLawfulWord size sysid es (8 * k) (image_word size image (8 * k)) → image_word size image (8 * k) ≡ log_word_bytes size sysid es (8 * k)
    word_before k low (inl zero) = zero ∙ no_word_before size sysid valid es chained k low
    word_before k low (inr own) = own

    pub lawful_upto : ((k : ℕ) → IsLawfulWord size sysid es (8 * k) (image_word size image (8 * k))) → IsLawful size sysid image es upto
    lawful_upto words = record {
      words = words;
      below = λ k below. elim (cases_lt (8 * k) size) [ inl low ↦ word_before k low (words k) | inr begun ↦ (word_left k below begun).0 ];
      there = λ k below owned. elim (cases_lt (8 * k) size) [ inl low ↦ absurd (no_owner_before size sysid valid es chained k low owned) | inr begun ↦ (word_left k below begun).1 ];
    }
