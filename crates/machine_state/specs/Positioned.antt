-- Up to where the log is reserved, copied, written and durable (PostgreSQL's xlog.c, LogwrtResult):
-- what is flushed is written, what is written the writer has written, and that is
-- copied and reserved. Both words are stored by who has the writer in hand, and neither falls: so
-- what a pass has loaded stays a lower bound, and a page that ends at or below what its mapper has
-- loaded as written may be given up. At home the writer stands where the written word says, unless
-- the disk has failed. Below where it stands the disk reads as the log.
use Rattle.std.specs.Prelude.{◌≡◌, ℕ, ◌*◌, ◌<◌, ◌≤◌, List}
use Rattle.segment_disk.specs.DiskImage.{image_as_read}
use Rattle.segment_disk.specs.Tape.{DiskState, state_now}
use mathlib.Core.Option.{Option, some}
use Rattle.wal_page.specs.Order.{Entry}
use Rattle.wal_page.specs.EntryWords.{address_of_word, words_owned}
use Rattle.segment_disk.specs.ImageWords.{image_word}
use Rattle.machine_state.specs.Words.{Opening, end_form, order_end}
use Rattle.machine_state.specs.Ringed.{log_bytes_of}
use Rattle.machine_state.specs.Suited.{IfSuited}
use Rattle.machine_state.specs.Views.{HasAt, Copy, Flight, Copying, Plain, Lent, Out, Writing}

-- no entry in flight has a word below this address that is still to copy
abbrev pub IsCopiedBelow : ℕ → List Flight → ℕ → Type 0
IsCopiedBelow size flights address =
    (id : ℕ) (c : Copy) → HasAt flights id (Copying c) → c.copied < words_owned size c.entry
    → address ≤ address_of_word size c.entry c.copied

-- as it is read, a disk holds the log below an address
abbrev pub ReadsBelow : Opening → List Entry → ℕ → DiskState → Type 0
ReadsBelow opening order address state = (k : ℕ) → 8 * k < address
    → image_word opening.setup.seg_size (image_as_read state) (8 * k)
    ≡ log_bytes_of opening order (8 * k)

-- what a view loaded and stored is not above what the words say now
pub record IsWithin (size end written flushed : ℕ) (flights : List Flight) (x : Writing)
    : Type 0 where
  pub written_met : x.written ≤ written
  pub flushed_met : x.flushed ≤ flushed
  pub known : (l : Lent) → x.hold ≡ Out l → (l.known ≤ end) × IsCopiedBelow size flights l.known
  pub stored : (l : Lent) → x.hold ≡ Out l → l.stored ≤ written

-- `written`, `flushed` and `down` are the words, `writer` the writer wherever it is, which
-- is `home` where it is at home
pub record PositionsHold (first : DiskState) (opening : Opening) (order : List Entry)
    (written flushed down : ℕ)
    (home : Option Plain) (writer : Plain) (flights : List Flight) (parts : List Writing) : Type 0
  where
    pub begun : opening.setup.seg_size ≤ flushed
    pub flushed_low : flushed ≤ written
    pub written_low : written ≤ writer.written
    pub at_home : home ≡ some writer → down ≡ 0 → written ≡ writer.written
    pub reserved : writer.written
        ≤ end_form opening.setup (order_end opening order)
    pub copied : IsCopiedBelow opening.setup.seg_size flights writer.written
    pub reads : IfSuited first opening writer
        (λ t. ReadsBelow opening order writer.written (state_now t))
    pub views : (id : ℕ) (x : Writing) → HasAt parts id x
        → IsWithin opening.setup.seg_size
        (end_form opening.setup (order_end opening order)) written flushed
        flights x
