-- A disk's image as it is read.
use Rattle.std.proofs.Common.{◌≡◌, ℕ, ◌+◌, ◌*◌, ◌/◌, ◌%◌, ◌<◌, List, Option, Some, None, inl, inr, refl, sym, ap, subst, ◌∙◌, arith}
use Rattle.std.specs.Prelude.{IfSome}
use Rattle.std.specs.Option.{IsSomeAnd}
use Rattle.std.proofs.lemmas.Bool.{cond-true, lt-ltb}
use Rattle.byte_position.specs.Geometry.{IsSegmentSize, pages_of}
use Rattle.byte_position.proofs.SegmentSizes.{segment_size_in_pages}
use Rattle.segment_disk.specs.Assured.{DiskImageFits, SegmentAssures, SegmentFits, StateAssures}
use Rattle.segment_disk.specs.DiskImage.{DiskImage, ImageSegment, image_as_read, word_of}
use Rattle.segment_disk.specs.ImageWords.{image_word}
use Rattle.segment_disk.specs.Tape.{DiskState, Segment, page_as_read}
use Rattle.wal_page.specs.Order.{Entry}
use Rattle.wal_page.specs.Log.{IsLawfulWord}
use Rattle.flush_core.specs.Settled.{IsAsRead}
use Rattle.flush_core.specs.SettledLog.{IsZeroOrLogWord}
use Rattle.flush_core.proofs.LawfulLaws.{word_fits, word_stands_at}
use Rattle.flush_core.proofs.LeftLaws.{read_word}
use Rattle.wal_reader.specs.Pages.{page_of_image}
use Rattle.written_log_laws.specs.FoundLog.{HasAllPages}
use Rattle.written_log_laws.proofs.LawfulPages.{page_word, word_in}

module _ (size : ℕ) (IsThere : ℕ → Type 0) (Fits : ℕ → ℕ → List ℕ → Type 0) where
  segment_read_fits : (segment : ℕ) (s : Option Segment) → SegmentAssures size IsThere Fits segment s → SegmentFits size IsThere Fits segment (image_as_read (λ (n : ℕ). s) segment)
  segment_read_fits segment None assures = assures
  segment_read_fits segment (Some s) assures = (
    assures.0,
    λ page word within low. assures.1 page word within low (word_of (page_as_read s page) word) (read_word s.writes page word (s.durable page) (word_of (page_as_read s page) word) refl),
  )

  -- what a state assures holds of it as it is read
  pub as_read_fits : (state : DiskState) → StateAssures size IsThere Fits state → DiskImageFits size IsThere Fits (image_as_read state)
  as_read_fits state assures = λ n. segment_read_fits n (state n) (assures n)

  segment_whole : (segment : ℕ) (i : Option ImageSegment) → SegmentFits size IsThere Fits segment i → IfSome i (λ i. i.pages ≡ pages_of size)
  segment_whole segment None fits = tt
  segment_whole segment (Some i) fits = fits.0

  -- its segments have all their pages
  pub fits_whole : (image : DiskImage) → DiskImageFits size IsThere Fits image → HasAllPages size image
  fits_whole image fits segment = segment_whole segment (image segment) (fits segment)

-- an image of which each word is 0 or the log's
pub fits_lawful : (size sysid : ℕ) (es : List Entry) (IsThere : ℕ → Type 0) (image : DiskImage) → IsSegmentSize size → DiskImageFits size IsThere (IsZeroOrLogWord size sysid es) image → (k : ℕ) → IsLawfulWord size sysid es (8 * k) (image_word size image (8 * k))
fits_lawful size sysid es IsThere image valid fits k =
    let place = word_stands_at size valid k in
    elim (word_fits size IsThere (IsZeroOrLogWord size sysid es) (8 * k / size) (8 * k % size) (image (8 * k / size)) place.within place.low (fits (8 * k / size))) [
      | inl none ↦ inl none.1
      | inr there ↦ subst (λ (a : ℕ). IsLawfulWord size sysid es a (image_word size image (8 * k))) place.at there.1
    ]

-- ---- a word that is read is that of the image

read_here : (n page word : ℕ) (bytes : List ℕ) (segment : ℕ) (s : Option Segment) → IfSome (image_as_read (λ (m : ℕ). s) segment) (λ i. i.pages ≡ n) → page < n → IsSomeAnd s (λ s. bytes ≡ word_of (page_as_read s page) word)
    → bytes ≡ word_in (page_of_image (image_as_read (λ (m : ℕ). s) segment) page) word
read_here n page word bytes segment None whole within read = absurd read
read_here n page word bytes segment (Some s) whole within read =
    read ∙ sym (ap (λ (o : Option (List ℕ)). word_in o word) (cond-true _ (Some (page_as_read s page)) None (lt-ltb page s.pages (omega (arith, whole, within)))))

pub read_is : (size : ℕ) (state : DiskState) (number word : ℕ) (bytes : List ℕ) → IsSegmentSize size → HasAllPages size (image_as_read state) → word < 1024 → IsAsRead size state number word bytes → bytes ≡ image_word size (image_as_read state) (8 * (number * 1024 + word))
read_is size state number word bytes valid whole low read =
    let n = pages_of size in
    let pages = segment_size_in_pages size valid in
    read_here n (number % n) word bytes (number / n) (state (number / n)) (whole (number / n)) (omega (arith, pages.1)) read ∙ sym (page_word size (image_as_read state) valid number word low)
