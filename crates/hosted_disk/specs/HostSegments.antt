-- The disk that a host has in its files.
use Rattle.std.specs.Prelude.{ℕ, Bool, true, false, not, ◌&&◌, ◌||◌, ◌==◌, List, [], ◌∷◌, length, slice_index_or, Option, Some, None, if◌then◌else◌}
use Rattle.segment_disk.specs.Tape.{DiskState, Segment, zero_page}
use Rattle.handed_pages.specs.Handed.{has_pages}
use Rattle.handed_pages.specs.declared.page.HandedPage.{HandedPage}

-- a segment, by its number: what is durable of each of its pages, and the page writes since its
-- last sync, in order
pub record HostSegment : Type 0 where
  pub number : ℕ
  pub durable : List (List ℕ)
  pub writes : List (ℕ × List ℕ)

abbrev pub segment_of_host : HostSegment → Segment
segment_of_host s = record {
  pages = length s.durable;
  durable = λ page. slice_index_or s.durable page zero_page;
  writes = s.writes;
}

-- the state of a disk that has these segments, each the first of its number
abbrev pub host_state : List HostSegment → DiskState
host_state [] number = None
host_state (s ∷ segments) number =
    if s.number == number then Some (segment_of_host s) else host_state segments number

-- the segments of a disk, if it has these pages as they were handed in
abbrev pub segments_by : List HostSegment → List HandedPage → Option (List HostSegment)
segments_by segments pages = if has_pages (host_state segments) pages then Some segments else None

abbrev pub are_none : List HostSegment → Bool
are_none [] = true
are_none (s ∷ segments) = false

-- what is told of a disk has these pages as they were handed in, and no segment where it is said to
-- hold nothing
abbrev pub are_of_first : Option (List HostSegment) → Bool → List HandedPage → Bool
are_of_first None nothing pages = true
are_of_first (Some segments) nothing pages =
    has_pages (host_state segments) pages && (not nothing || are_none segments)
