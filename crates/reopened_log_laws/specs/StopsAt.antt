-- What a process leaves of its disk that stops without a crash of it: the calls until then, and
-- where it was killed within a write, that one in part.
use Rattle.std.specs.Prelude.{◌≡◌, ℕ, ◌<◌, ◌⊎◌, Bool, List, [], ◌∷◌, ◌++◌, length, take, Some, slice_get}
use Rattle.segment_disk.specs.declared.disk.Call.{Call}
use Rattle.segment_disk.specs.declared.disk.CallKind.TheVariants.{Write}
use Rattle.segment_disk.specs.declared.disk.PageBytes.{PageBytes}
use Rattle.segment_disk.specs.DiskImage.{word_of}
use Rattle.segment_disk.specs.Tape.{Segment, Tape, page_as_read, state_at}

-- a tape as it was at a moment
abbrev pub tape_until : ℕ → Tape → Tape
tape_until moment t = record t { calls = take moment t.calls }

-- a whole page, of which each word is the old one's or the new one's
pub record IsMixOf (old new mix : List ℕ) : Type 0 where
  pub whole : length mix ≡ 8192
  pub words : (n : ℕ) → n < 1024
      → (word_of mix n ≡ word_of old n) ⊎ (word_of mix n ≡ word_of new n)

-- the write of a page
abbrev pub write_to : (geometry segment page : ℕ) → PageBytes → (done : Bool) → Call
write_to geometry segment page bytes done = record {
  geometry = geometry;
  segment = segment;
  kind = Write page bytes;
  done = done;
}

-- the next call of a tape at a moment is a write, and was cut short: behind the calls until then
-- its page has a mix of what was read there and of what was to be written
pub record IsCutShort (t : Tape) (moment : ℕ) (stopped : Tape) : Type 0 where
  pub geometry : ℕ
  pub segment : ℕ
  pub page : ℕ
  pub bytes : PageBytes
  pub done : Bool
  pub next : slice_get t.calls moment ≡ Some (write_to geometry segment page bytes done)
  pub there : Segment
  pub is_there : state_at t moment segment ≡ Some there
  pub mix : PageBytes
  pub mixes : IsMixOf (page_as_read there page) bytes.bytes mix.bytes
  pub stopped_is : stopped
      ≡ record t { calls = take moment t.calls ++ write_to geometry segment page mix done ∷ [] }

-- the tape of a disk whose process stopped at a moment of this one: between two calls, or within a
-- write
abbrev pub StopsAt : Tape → ℕ → Tape → Type 0
StopsAt t moment stopped = (stopped ≡ tape_until moment t) ⊎ IsCutShort t moment stopped

-- at the moment of its last call a tape stops as it is: so what is said of each moment is said of
-- the disk that came back
abbrev pub TapesStopAtTheirEnds : Type 0
TapesStopAtTheirEnds = (t : Tape) → StopsAt t (length t.calls) t
