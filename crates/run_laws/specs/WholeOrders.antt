-- That a disk holds all of an order. `size` is the size of a segment in bytes.
use Rattle.std.specs.Prelude.{ℕ, List, Option, Some, None}
use Rattle.segment_disk.specs.Tape.{Tape, state_now}
use Rattle.segment_disk.specs.DiskImage.{DiskImage, MayLeave, image_as_read}
use Rattle.wal_page.specs.Order.{Entry, end_position}
use Rattle.wal_reader.specs.Pages.{pages_in}
use Rattle.wal_reader.specs.Decodes.{Decodes, ended}
use Rattle.written_log_laws.specs.Written.{found_of}

-- pages decode to all of an order, and then to a clean end at its end
abbrev pub DecodesTo : ℕ → DiskImage → List Entry → Type 0
DecodesTo size image es =
    Decodes size (pages_in size image) size None (found_of size es)
    (ended size (end_position size es))

-- where the disk tells what it holds, every image that a crash may leave at the last moment, and
-- the disk as it is read, decode to the whole order
abbrev pub IsWhole : ℕ → Option Tape → List Entry → Type 0
IsWhole size None es = Unit {0}
IsWhole size (Some t) es =
    ((image : DiskImage) → MayLeave (state_now t) image → DecodesTo size image es)
    × DecodesTo size (image_as_read (state_now t)) es
