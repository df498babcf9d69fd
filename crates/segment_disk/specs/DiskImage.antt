-- What a crash leaves of a disk.
use Rattle.std.specs.Prelude.{◌≡◌, ℕ, ◌*◌, ◌<◌, ◌⊎◌, true, List, [], ◌∷◌, length, take, drop, Option, Some, None, slice_get}
use Rattle.std.specs.Option.{IsSomeAnd}
use Rattle.segment_disk.specs.declared.disk.Call.{Call}
use Rattle.segment_disk.specs.declared.disk.CallKind.{CallKind}
use Rattle.segment_disk.specs.declared.disk.CallKind.TheVariants.{Create, Write, Sync}
use Rattle.segment_disk.specs.Tape.{Segment, DiskState, Tape, state_at, after_call, page_as_read}

-- a segment of an image: how many pages it has, and their bytes
pub record ImageSegment : Type 0 where
  pub pages : ℕ
  pub page : ℕ → List ℕ

-- the segments that an image has, by their numbers
abbrev pub DiskImage : Type 0
DiskImage = ℕ → Option ImageSegment

-- the k-th word of a page: eight bytes, which a disk writes whole
abbrev pub word_of : List ℕ → ℕ → List ℕ
word_of page k = take 8 (drop (8 * k) page)

-- the word is that of a write to the page
abbrev pub IsWritten : List (ℕ × List ℕ) → ℕ → ℕ → List ℕ → Type 0
IsWritten [] page k word = ⊥
IsWritten (w ∷ ws) page k word = ((w.0 ≡ page) × (word ≡ word_of w.1 k)) ⊎ IsWritten ws page k word

-- each word of a page is the durable one, or that of a write since the last sync
pub record MayLeavePage (s : Segment) (page : ℕ) (bytes : List ℕ) : Type 0 where
  pub length : length bytes ≡ 8192
  pub words : (k : ℕ) → k < 1024
      → (word_of bytes k ≡ word_of (s.durable page) k) ⊎ IsWritten s.writes page k (word_of bytes k)

abbrev pub MayLeaveSegment : Option Segment → Option ImageSegment → Type 0
MayLeaveSegment None None = Unit {0}
MayLeaveSegment (Some s) (Some i) =
    (i.pages ≡ s.pages) × ((page : ℕ) → page < s.pages → MayLeavePage s page (i.page page))
MayLeaveSegment None (Some i) = ⊥
MayLeaveSegment (Some s) None = ⊥

-- an image that a crash in this state may leave, word by word
abbrev pub MayLeave : DiskState → DiskImage → Type 0
MayLeave state image = (segment : ℕ) → MayLeaveSegment (state segment) (image segment)

-- a create or a write, with that call done
abbrev pub when_done : Call → Option Call
when_done call = cut_short call.kind
  where
    cut_short : CallKind → Option Call
    cut_short (Create made) = Some (record call { kind = Create true; done = true })
    cut_short (Write page bytes) = Some (record call { done = true })
    cut_short Sync = None

-- what a crash at a moment leaves: what the state then may leave, or what it may leave with the
-- next call done, which the crash cut short
abbrev pub LeftAt : Tape → ℕ → DiskImage → Type 0
LeftAt tape moment image =
    MayLeave (state_at tape moment) image
    ⊎ IsSomeAnd (slice_get tape.calls moment) (λ call. IsSomeAnd (when_done call)
    (λ done. MayLeave (after_call (state_at tape moment) done) image))

-- the image of a disk as it is read
abbrev pub image_as_read : DiskState → DiskImage
image_as_read state segment = as_read (state segment)
  where
    as_read : Option Segment → Option ImageSegment
    as_read None = None
    as_read (Some s) = Some (record { pages = s.pages; page = page_as_read s })
