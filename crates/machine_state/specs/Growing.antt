-- Calls of a device that only add to what is read: whoever writes a page again puts each word that
-- is read there, but for zeros. So whatever a crash leaves of such writes, and however many of them
-- wait for a sync, each word is as it is read, or zeros. `size` is that of a segment in bytes.
use Rattle.std.specs.Prelude.{◌≡◌, ◌⊎◌, ℕ, ◌<◌, List, [], ◌∷◌, length, drop, Option, IfSome}
use Rattle.byte_position.specs.Geometry.{pages_of}
use Rattle.segment_disk.specs.declared.disk.Call.{Call}
use Rattle.segment_disk.specs.declared.disk.CallKind.{CallKind}
use Rattle.segment_disk.specs.declared.disk.CallKind.TheVariants.{Create, Write, Sync}
use Rattle.segment_disk.specs.DiskImage.{word_of, IsWritten}
use Rattle.segment_disk.specs.ImageWords.{zero_word}
use Rattle.segment_disk.specs.Tape.{DiskState, Segment, Tape, after_call, page_as_read, state_at}

-- eight bytes are zeros, or these
abbrev pub IsZeroOr : (these bytes : List ℕ) → Type 0
IsZeroOr these bytes = (bytes ≡ zero_word) ⊎ (bytes ≡ these)

-- ---- the calls

-- a whole page, with each word of the old one but for zeros
pub record AddsTo (old new : List ℕ) : Type 0 where
  pub whole : length new ≡ 8192
  pub words : (n : ℕ) → n < 1024 → IsZeroOr (word_of new n) (word_of old n)

-- a write does so to its page as it is read; a segment that is made has the pages of this size
-- (that it is new, so that nothing is lost of it, is `MakeInTurn`'s)
abbrev pub KindAdds : (size geometry : ℕ) → Option Segment → CallKind → Type 0
KindAdds size geometry s (Create made) = geometry ≡ size
KindAdds size geometry s (Write page bytes) =
    IfSome s (λ there. AddsTo (page_as_read there page) bytes.bytes)
KindAdds size geometry s Sync = Unit {0}

abbrev pub OnlyAdds : ℕ → DiskState → Call → Type 0
OnlyAdds size state call = KindAdds size call.geometry (state call.segment) call.kind

-- so does each of the calls, in the state that those before it left
abbrev pub AllOnlyAdd : ℕ → DiskState → List Call → Type 0
AllOnlyAdd size state [] = Unit {0}
AllOnlyAdd size state (call ∷ calls) =
    OnlyAdds size state call × AllOnlyAdd size (after_call state call) calls

-- and each call of a tape from a moment on
abbrev pub OnlyAddsSince : (size moment : ℕ) → Tape → Type 0
OnlyAddsSince size moment t = AllOnlyAdd size (state_at t moment) (drop moment t.calls)

-- ---- what they leave

-- each word of a page that a crash may leave is zeros, or as it is read
abbrev pub PageLosesOnly : Segment → ℕ → Type 0
PageLosesOnly s page = (word : ℕ) → word < 1024 → (bytes : List ℕ)
    → (bytes ≡ word_of (s.durable page) word) ⊎ IsWritten s.writes page word bytes
    → IsZeroOr (word_of (page_as_read s page) word) bytes

-- of a segment that has the pages of this size
abbrev pub SegmentLosesOnly : ℕ → Segment → Type 0
SegmentLosesOnly size s =
    (s.pages ≡ pages_of size) × ((page : ℕ) → page < s.pages → PageLosesOnly s page)

abbrev pub LosesOnly : ℕ → DiskState → Type 0
LosesOnly size state = (segment : ℕ) → IfSome (state segment) (SegmentLosesOnly size)

-- each page is read as 8,192 bytes
abbrev pub ReadsWhole : ℕ → DiskState → Type 0
ReadsWhole size state = (segment : ℕ) → IfSome (state segment)
    (λ s. (s.pages ≡ pages_of size)
    × ((page : ℕ) → page < s.pages → length (page_as_read s page) ≡ 8192))
