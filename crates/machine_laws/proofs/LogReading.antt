-- What a call of the device does to the log, as a disk is read: a create of a segment that lies
-- above it nothing, a write of a page that holds the log's words goes on with it, a sync nothing.
use Rattle.std.proofs.Common.{◌≡◌, ◌≢◌, ℕ, ◌+◌, ◌*◌, ◌/◌, ◌%◌, ◌<◌, ◌≤◌, Bool, true, false, List, [], ◌∷◌, ◌++◌, Option, Some, None, IsSomeAnd, refl, sym, ap, ◌∙◌, subst, nat_lt, if◌then◌else◌, arith, div-lt_iff_lt-mul}
use Rattle.std.proofs.Math.Nat.{div-add-mod, mul_comm}
use Rattle.std.proofs.lemmas.Bool.{lt-ltb}
use Rattle.std.proofs.lemmas.Nat.{div-mul-add}
use mathlib.Core.Logic.{dite}
use native.Mathlib.Decide.{ℕ_discrete}
use Rattle.byte_position.specs.Geometry.{IsSegmentSize, pages_of}
use Rattle.byte_position.proofs.SegmentSizes.{segment_size_in_pages}
use Rattle.segment_disk.specs.declared.disk.Call.{Call}
use Rattle.segment_disk.specs.declared.disk.CallKind.TheVariants.{Create, Write, Sync}
use Rattle.segment_disk.specs.declared.disk.PageBytes.{PageBytes}
use Rattle.segment_disk.specs.Tape.{Segment, DiskState, page_as_read, segment_after, after_call}
use Rattle.segment_disk.specs.DiskImage.{image_as_read, word_of}
use Rattle.segment_disk.proofs.Reading.{kept_write, kept_other_write}
use Rattle.flush_core.proofs.StateLaws.{after_each}
use Rattle.wal_page.specs.Order.{Entry}
use Rattle.segment_disk.specs.ImageWords.{segment_word, zero_word}
use Rattle.machine_state.specs.Positioned.{ReadsBelow}
use Rattle.machine_state.specs.Ringed.{log_bytes_of}
use Rattle.machine_state.specs.Words.{Opening}

-- ---- a page of a segment, read behind a write

pub read_here : (s : Segment) (page size : ℕ) (done : Bool) (bytes : PageBytes)
    → page_as_read (record s { writes = s.writes ++ (page, bytes.bytes) ∷ [] }) page ≡ bytes.bytes
read_here s page size done bytes = (kept_write page s.pages
    (Some (record { ref_ptr = (0, 0); now = record { bytes = page_as_read s page } })) (Some s)
    size done (record { ref_ptr = (0, 0); now = bytes }) (refl, refl)).1

pub read_elsewhere : (s : Segment) (page other size : ℕ) (done : Bool) (bytes : PageBytes)
    → other ≢ page
    → page_as_read (record s { writes = s.writes ++ (other, bytes.bytes) ∷ [] }) page
    ≡ page_as_read s page
read_elsewhere s page other size done bytes differ = (kept_other_write page s.pages
    (Some (record { ref_ptr = (0, 0); now = record { bytes = page_as_read s page } })) (Some s)
    size done other bytes differ (refl, refl)).1

-- ---- the word at an address hangs on its segment alone

abbrev pub word_in : ℕ → Option Segment → ℕ → List ℕ
word_in size s address = segment_word (image_as_read (λ (n : ℕ). s) 0) (address % size)

module _ (size geometry page : ℕ) (bytes : PageBytes) (done : Bool) (address : ℕ) where
  word_written : (s : Option Segment) → IsSomeAnd s (λ (t : Segment). t.pages ≡ pages_of size)
      → address % size / 8192 ≡ page → page < pages_of size
      → word_in size (segment_after (Write page bytes) geometry done s) address
      ≡ word_of bytes.bytes (address % size % 8192 / 8)
  word_written None there at within = absurd there
  word_written (Some s) there at within =
      let now : Segment = record s { writes = s.writes ++ (page, bytes.bytes) ∷ [] } in
      let n : ℕ = address % size / 8192 in
      let w : ℕ = address % size % 8192 / 8 in
      ap (λ (b : Bool). if b then word_of (page_as_read now n) w else zero_word)
      (lt-ltb n s.pages (omega (arith, there, at, within)))
      ∙ ap (λ (p : ℕ). word_of (page_as_read now p) w) at
      ∙ ap (λ (p : List ℕ). word_of p w) (read_here s page geometry done bytes)

  pub word_unwritten : (s : Option Segment) → page ≢ address % size / 8192
      → word_in size (segment_after (Write page bytes) geometry done s) address
      ≡ word_in size s address
  word_unwritten None other = refl
  word_unwritten (Some s) other =
      let n : ℕ = address % size / 8192 in
      ap (λ (p : List ℕ). if nat_lt n s.pages then word_of p (address % size % 8192 / 8)
      else zero_word) (read_elsewhere s n page geometry done bytes other)

pub word_synced : (size geometry address : ℕ) (done : Bool) (s : Option Segment)
    → word_in size (segment_after Sync geometry done s) address ≡ word_in size s address
word_synced size geometry address done None = refl
word_synced size geometry address true (Some s) = refl
word_synced size geometry address false (Some s) = refl

-- ---- where an address lies

module _ (size : ℕ) (valid : IsSegmentSize size) (address : ℕ) where
  abbrev in_segment : ℕ
  in_segment = address % size / 8192

  pub page_of_address : (address / size * pages_of size + in_segment ≡ address / 8192)
      × (in_segment < pages_of size) × (address % size % 8192 ≡ address % 8192)
  page_of_address =
      let count : ℕ = pages_of size in
      let whole = segment_size_in_pages size valid in
      let parts = div-add-mod address size in
      let product : size * (address / size) ≡ 8192 * (address / size * count) =
      ap (λ (m : ℕ). m * (address / size)) whole.0
      ∙ omega (arith, mul_comm count (address / size)) in (
        omega (arith, parts, product, whole.0, whole.1),
        omega (arith, whole.0, whole.1),
        omega (arith, parts, product),
      )

  page_is : (segment page : ℕ) → page < pages_of size
      → address / 8192 ≡ segment * pages_of size + page
      → (address / size ≡ segment) × (in_segment ≡ page)
  page_is segment page within at =
      let here = page_of_address in
      let same : address / size ≡ segment =
      sym (div-mul-add (address / size) (pages_of size) in_segment here.1)
      ∙ ap (λ (n : ℕ). n / pages_of size) (here.0 ∙ at)
      ∙ div-mul-add segment (pages_of size) page within in
      (same, omega (arith, here.0, at, ap (λ (n : ℕ). n * pages_of size) same))

  below_segment : (segment : ℕ) → address < segment * size → address / size ≢ segment
  below_segment segment below same =
      let whole = segment_size_in_pages size valid in
      let lower : address / size < segment =
      (div-lt_iff_lt-mul {k = size} {x = address} {y = segment}
      (omega (arith, whole.0, whole.1))).1 below in
      omega (arith, lower, same)

-- ---- the log below an address, behind a call

abbrev pub creating : ℕ → ℕ → Bool → Bool → Call
creating geometry segment made done =
    record { geometry = geometry; segment = segment; kind = Create made; done = done }

abbrev pub syncing : ℕ → ℕ → Bool → Call
syncing geometry segment done =
    record { geometry = geometry; segment = segment; kind = Sync; done = done }

abbrev pub writing : ℕ → ℕ → ℕ → PageBytes → Bool → Call
writing geometry segment page bytes done =
    record { geometry = geometry; segment = segment; kind = Write page bytes; done = done }

module _ (opening : Opening) (valid : IsSegmentSize opening.setup.seg_size) (order : List Entry)
    (state : DiskState) where
  abbrev IsLogIn : ℕ → Option Segment → Type 0
  IsLogIn address s = word_in opening.setup.seg_size s address
      ≡ log_bytes_of opening order address

  behind_call : (high : ℕ) (call : Call)
      → ((k : ℕ) → 8 * k < high → 8 * k / opening.setup.seg_size ≡ call.segment
      → IsLogIn (8 * k) (segment_after call.kind call.geometry call.done
      (state (8 * k / opening.setup.seg_size))))
      → ((k : ℕ) → 8 * k < high → 8 * k / opening.setup.seg_size ≢ call.segment
      → IsLogIn (8 * k) (state (8 * k / opening.setup.seg_size)))
      → ReadsBelow opening order high (after_call state call)
  behind_call high call here elsewhere k below =
      after_each state call (IsLogIn (8 * k)) (8 * k / opening.setup.seg_size) (here k below)
      (elsewhere k below)

  pub ReadsBelow-create : (upto segment geometry : ℕ) (made done : Bool)
      → upto ≤ segment * opening.setup.seg_size → ReadsBelow opening order upto state
      → ReadsBelow opening order upto (after_call state (creating geometry segment made done))
  ReadsBelow-create upto segment geometry made done above reads =
      behind_call upto (creating geometry segment made done)
      (λ k below same. absurd (below_segment opening.setup.seg_size valid (8 * k) segment
      (omega (arith, below, above)) same))
      (λ k below other. reads k below)

  pub ReadsBelow-sync : (upto segment geometry : ℕ) (done : Bool)
      → ReadsBelow opening order upto state
      → ReadsBelow opening order upto (after_call state (syncing geometry segment done))
  ReadsBelow-sync upto segment geometry done reads =
      behind_call upto (syncing geometry segment done)
      (λ k below same. word_synced opening.setup.seg_size geometry (8 * k) done
      (state (8 * k / opening.setup.seg_size)) ∙ reads k below)
      (λ k below other. reads k below)

  -- a page of the log is written: the words below an address on it, and those before it, are the
  -- log's
  module _ (segment page number low high geometry : ℕ) (bytes : PageBytes) (done : Bool)
      (within : page < pages_of opening.setup.seg_size)
      (number_is : segment * pages_of opening.setup.seg_size + page ≡ number)
      (there : IsSomeAnd (state segment)
      (λ (s : Segment). s.pages ≡ pages_of opening.setup.seg_size))
      (reaches : number * 8192 ≤ low) (ends : high ≤ (number + 1) * 8192)
      (words : (n : ℕ) → n < 1024 → number * 8192 + 8 * n < high → word_of bytes.bytes n
      ≡ log_bytes_of opening order (number * 8192 + 8 * n))
      (reads : ReadsBelow opening order low state) where
    abbrev size : ℕ
    size = opening.setup.seg_size

    on_page : (k : ℕ) → 8 * k < high → 8 * k / 8192 ≡ number
        → IsLogIn (8 * k) (segment_after (Write page bytes) geometry done (state (8 * k / size)))
    on_page k below at =
        let place = page_is size valid (8 * k) segment page within (at ∙ sym number_is) in
        let parts = page_of_address size valid (8 * k) in
        let n : ℕ = 8 * k % size % 8192 / 8 in
        let is : number * 8192 + 8 * n ≡ 8 * k = omega (arith, at, parts.2) in
        word_written size geometry page bytes done (8 * k) (state (8 * k / size))
        (subst (λ (m : ℕ). IsSomeAnd (state m) (λ (s : Segment). s.pages ≡ pages_of size))
        (sym place.0) there) place.1 within
        ∙ words n (omega (arith, parts.2)) (omega (arith, is, below))
        ∙ ap (λ (a : ℕ). log_bytes_of opening order a) is

    before : (k : ℕ) → 8 * k < high → 8 * k / 8192 ≢ number → 8 * k < low
    before k below apart = omega (arith, apart, below, ends, reaches)

    pub ReadsBelow-write : ReadsBelow opening order high
        (after_call state (writing geometry segment page bytes done))
    ReadsBelow-write = behind_call high (writing geometry segment page bytes done)
        (λ k below same. dite (ℕ_discrete (8 * k / 8192) number)
        (λ at. on_page k below at)
        (λ apart. word_unwritten size geometry page bytes done (8 * k) (state (8 * k / size))
        (λ at. apart (let parts = page_of_address size valid (8 * k) in
        omega (arith, parts.0, number_is, at, ap (λ (m : ℕ). m * pages_of size) same)))
        ∙ reads k (before k below apart)))
        (λ k below other. dite (ℕ_discrete (8 * k / 8192) number)
        (λ at. absurd (other
        (page_is size valid (8 * k) segment page within (at ∙ sym number_is)).0))
        (λ apart. reads k (before k below apart)))
