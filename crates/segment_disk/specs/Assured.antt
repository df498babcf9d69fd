-- What may be asked of a disk: of each segment whether it is there, and of each word what it may
-- be; and that each image that a crash leaves from a moment on, and each call since, answers it.
use Rattle.std.specs.Prelude.{◌≡◌, ℕ, ◌+◌, ◌-◌, ◌*◌, ◌/◌, ◌<◌, ◌≤◌, ◌⊎◌, All, List, drop, Option, Some, None}
use Rattle.byte_position.specs.Geometry.{pages_of}
use Rattle.segment_disk.specs.declared.disk.Call.{Call}
use Rattle.segment_disk.specs.declared.disk.CallKind.{CallKind}
use Rattle.segment_disk.specs.declared.disk.CallKind.TheVariants.{Create, Write, Sync}
use Rattle.segment_disk.specs.Tape.{Segment, DiskState, Tape, state_now, zero_page}
use Rattle.segment_disk.specs.DiskImage.{DiskImage, ImageSegment, word_of, IsWritten, LeftAt}

-- of each segment whether it is there, and of each word what it may be, by its page's number in the
-- log and its own in the page
abbrev pub SegmentFits : ℕ → (ℕ → Type 0) → (ℕ → ℕ → List ℕ → Type 0) → ℕ → Option ImageSegment
    → Type 0
SegmentFits size IsThere Fits segment None = IsThere segment → ⊥
SegmentFits size IsThere Fits segment (Some i) =
    (i.pages ≡ pages_of size)
    × ((page word : ℕ) → page < pages_of size → word < 1024
    → Fits (segment * pages_of size + page) word (word_of (i.page page) word))

abbrev pub DiskImageFits : ℕ → (ℕ → Type 0) → (ℕ → ℕ → List ℕ → Type 0) → DiskImage → Type 0
DiskImageFits size IsThere Fits image =
    (segment : ℕ) → SegmentFits size IsThere Fits segment (image segment)

-- a disk's state assures it: so is each word that is durable or of a write since the last sync
abbrev pub SegmentAssures : ℕ → (ℕ → Type 0) → (ℕ → ℕ → List ℕ → Type 0) → ℕ → Option Segment
    → Type 0
SegmentAssures size IsThere Fits segment None = IsThere segment → ⊥
SegmentAssures size IsThere Fits segment (Some s) =
    (s.pages ≡ pages_of size)
    × ((page word : ℕ) → page < pages_of size → word < 1024 → (bytes : List ℕ)
    → (bytes ≡ word_of (s.durable page) word) ⊎ IsWritten s.writes page word bytes
    → Fits (segment * pages_of size + page) word bytes)

abbrev pub StateAssures : ℕ → (ℕ → Type 0) → (ℕ → ℕ → List ℕ → Type 0) → DiskState → Type 0
StateAssures size IsThere Fits state =
    (segment : ℕ) → SegmentAssures size IsThere Fits segment (state segment)

-- a call leaves nothing else: so is each word of the page that it writes, and each zero of the
-- segment that it makes
abbrev pub KindFits : ℕ → (ℕ → ℕ → List ℕ → Type 0) → ℕ → ℕ → CallKind → Type 0
KindFits size Fits geometry segment (Create made) = (geometry ≡ size)
    × ((page word : ℕ) → page < pages_of size → word < 1024
    → Fits (segment * pages_of size + page) word (word_of zero_page word))
KindFits size Fits geometry segment (Write page bytes) = (geometry ≡ size)
    × (page < pages_of size) × ((word : ℕ) → word < 1024
    → Fits (segment * pages_of size + page) word (word_of bytes.bytes word))
KindFits size Fits geometry segment Sync = Unit {0}

abbrev pub CallFits : ℕ → (ℕ → ℕ → List ℕ → Type 0) → Call → Type 0
CallFits size Fits call = KindFits size Fits call.geometry call.segment call.kind

-- each call from a moment on leaves nothing else, every crash from it on has left an image of which
-- it holds, and a disk's state assures it now
pub record TapeAssures (size : ℕ) (IsThere : ℕ → Type 0) (Fits : ℕ → ℕ → List ℕ → Type 0)
    (moment : ℕ) (tape : Tape) : Type 0 where
  pub calls : All (CallFits size Fits) (drop moment tape.calls)
  pub now : StateAssures size IsThere Fits (state_now tape)
  pub left : (m : ℕ) → moment ≤ m → (image : DiskImage) → LeftAt tape m image
      → DiskImageFits size IsThere Fits image

-- ---- which segments

-- no segment need be there
abbrev pub IsNowhere : ℕ → Type 0
IsNowhere segment = ⊥

-- how many segments, from segment 1 on, are made where all below a position is written: up to that
-- of the last byte below it
abbrev pub made_upto : ℕ → ℕ → ℕ
made_upto size written = (written - 1) / size

-- the segments that have bytes below the position
abbrev pub IsMadeUpto : ℕ → ℕ → ℕ → Type 0
IsMadeUpto size position segment = (1 ≤ segment) × (segment ≤ made_upto size position)
