-- The frames of a log's pages, as one list of bytes. `size` is that of a segment in bytes, `end`
-- the address at which the log ends, and pages are counted from the log's address 0.
use Rattle.std.specs.Prelude.{ℕ, ◌+◌, ◌-◌, ◌*◌, ◌/◌, ◌%◌, min, List, nat_lt, if◌then◌else◌}
use Rattle.std.specs.List.{flat_map, range_with_len}
use Rattle.std.specs.Option.{unwrap_or}
use Rattle.byte_position.specs.Geometry.{pages_of}
use Rattle.segment_disk.specs.Tape.{DiskState, page_of_segment, zero_page}
use Rattle.wal_stream.specs.Frame.{frame_bytes, sent_upto}

-- a page as a disk reads it; one that is not there counts as zeros
abbrev pub page_read : ℕ → DiskState → ℕ → List ℕ
page_read size state page =
    unwrap_or (page_of_segment (state (page / pages_of size)) (page % pages_of size)) zero_page

-- the frame of a page: it is sent up to its own end, or the log's where that comes first
abbrev pub frame_of : ℕ → (ℕ → List ℕ) → ℕ → ℕ → List ℕ
frame_of size pages end page =
    frame_bytes size (sent_upto page (min (page * 8192 + 8192) end) (pages page))

-- how many frames there are: one for each page from that which holds `from` up to the end; none
-- from the end on
abbrev pub frame_count : ℕ → ℕ → ℕ
frame_count from end = if nat_lt from end then (end + 8191) / 8192 - from / 8192 else 0

-- these frames, one behind another
abbrev pub frames_between : ℕ → (ℕ → List ℕ) → ℕ → ℕ → List ℕ
frames_between size pages from end =
    flat_map (frame_of size pages end) (range_with_len (from / 8192) (frame_count from end))
