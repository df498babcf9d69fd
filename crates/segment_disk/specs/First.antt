-- The segments that were there at first on a disk in memory.
use Rattle.std.specs.Prelude.{ℕ, List, [], ◌∷◌, length, Option, Some, None, option_map, ◌==◌, slice_index_or, if◌then◌else◌}
use Rattle.segment_disk.specs.declared.disk.PageBytes.{PageBytes}
use Rattle.segment_disk.specs.declared.memory.first.FirstSegment.{FirstSegment}
use Rattle.segment_disk.specs.Tape.{Segment, DiskState, zero_page}

-- a page of a list of pages, zeros behind its end
abbrev pub page_at : List PageBytes → ℕ → List ℕ
page_at pages page = (slice_index_or pages page (record { bytes = zero_page })).bytes

-- the segment, all durable
abbrev pub durable_segment : FirstSegment → Segment
durable_segment segment = record {
  pages = length segment.pages.items;
  durable = λ page. page_at segment.pages.items page;
  writes = [];
}

-- the first segment of a list that has this number
abbrev pub first_at : List FirstSegment → ℕ → Option FirstSegment
first_at [] number = None
first_at (segment ∷ segments) number =
    if segment.number == number then Some segment else first_at segments number

-- the state that a list of segments makes
abbrev pub first_state : List FirstSegment → DiskState
first_state segments number = option_map durable_segment (first_at segments number)
