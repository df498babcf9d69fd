-- Where the words of an image stand, and what it holds below a log's first segment.
use Rattle.std.proofs.Common.{◌≡◌, ℕ, ◌+◌, ◌*◌, ◌/◌, ◌%◌, ◌<◌, ◌⊎◌, inl, inr, List, Option, Some, None, IsSome, refl, sym, ap, subst, if◌then◌else◌, arith}
use Rattle.std.specs.Int.{w64, to_le_bytes}
use Rattle.std.specs.Option.{IsSomeAnd}
use Rattle.std.proofs.lemmas.Bool.{lt-ltb}
use Rattle.std.proofs.Math.Nat.{div-add-mod}
use Rattle.byte_position.specs.Geometry.{IsSegmentSize, pages_of}
use Rattle.byte_position.proofs.SegmentSizes.{segment_size_in_pages}
use Rattle.segment_disk.specs.DiskImage.{ImageSegment, word_of}
use Rattle.segment_disk.specs.ImageWords.{segment_word, zero_word}
use Rattle.segment_disk.specs.Assured.{SegmentFits}
use Rattle.wal_page.specs.Order.{Entry, IsChained}
use Rattle.wal_page.specs.Log.{log_word_bytes, owner_at}
use Rattle.wal_page.proofs.LogWordLaws.{log_word-unowned}
use Rattle.wal_page.proofs.OwnerLaws.{owner_at-none_before}

-- where the k-th word stands: its segment, its page there, and its number in the page
pub record IsWordAt (size k segment page word : ℕ) : Type 0 where
  pub within : page < pages_of size
  pub low : word < 1024
  pub at : (segment * pages_of size + page) * 8192 + 8 * word ≡ 8 * k

pub word_stands_at : (size : ℕ) → IsSegmentSize size → (k : ℕ) → IsWordAt size k (8 * k / size) (8 * k % size / 8192) (8 * k % size % 8192 / 8)
word_stands_at size valid k =
    let count = pages_of size in
    let whole = segment_size_in_pages size valid in
    let parts = div-add-mod (8 * k) size in
    let product : size * (8 * k / size) ≡ 8192 * count * (8 * k / size) = ap (λ (m : ℕ). m * (8 * k / size)) whole.0 in
    record {
      within = omega (arith, whole.0, whole.1);
      low = omega arith;
      at = omega (arith, whole.0, whole.1);
    }

-- a word of an image is zero where its segment is not there, and fits where it is
module _ (size : ℕ) (IsThere : ℕ → Type 0) (Fits : ℕ → ℕ → List ℕ → Type 0) (segment offset : ℕ) where
  pub word_fits : (i : Option ImageSegment) → offset / 8192 < pages_of size → offset % 8192 / 8 < 1024 → SegmentFits size IsThere Fits segment i
      → ((i ≡ None) × (segment_word i offset ≡ zero_word)) ⊎ (IsSomeAnd i (λ s. offset / 8192 < s.pages) × Fits (segment * pages_of size + offset / 8192) (offset % 8192 / 8) (segment_word i offset))
  word_fits None within low fits = inl (refl, refl)
  word_fits (Some i) within low fits =
      let there : offset / 8192 < i.pages = omega (arith, fits.0) in
      let is : segment_word (Some i) offset ≡ word_of (i.page (offset / 8192)) (offset % 8192 / 8) = ap (λ b. if b then word_of (i.page (offset / 8192)) (offset % 8192 / 8) else zero_word) (lt-ltb (offset / 8192) i.pages there) in
      inr (there, subst (Fits (segment * pages_of size + offset / 8192) (offset % 8192 / 8)) (sym is) (fits.1 (offset / 8192) (offset % 8192 / 8) within low))

module _ (size sysid : ℕ) (valid : IsSegmentSize size) (es : List Entry) (chained : IsChained size es) where
  -- below segment 1 a log has no words
  pub no_word_before : (k : ℕ) → 8 * k < size → zero_word ≡ log_word_bytes size sysid es (8 * k)
  no_word_before k low = ap (to_le_bytes w64) (sym (log_word-unowned size sysid valid es chained (8 * k) (omega arith) (owner_at-none_before size valid es chained (8 * k) low)))

  pub no_owner_before : (k : ℕ) → 8 * k < size → IsSome (owner_at size es (8 * k)) → ⊥
  no_owner_before k low owned = let none : IsSome {T = Entry} None = subst (λ (o : Option Entry). IsSome o) (owner_at-none_before size valid es chained (8 * k) low) owned in cc
