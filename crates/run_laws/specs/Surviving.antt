-- What a reader finds in what a crash leaves of a closed log.
use Rattle.std.specs.Prelude.{◌≡◌, ℕ, ◌<◌, ◌≤◌, List, length, take, None, Some, slice_get}
use Rattle.segment_disk.specs.DiskImage.{DiskImage, LeftAt}
use Rattle.segment_disk.specs.Tape.{Tape}
use Rattle.wal_page.specs.Order.{Entry, finish_of}
use Rattle.flush_core.specs.Lawful.{IsLawful}
use Rattle.machine_state.specs.Words.{Opening}
use Rattle.machine_state.specs.Views.{FlushPromise, View}
use Rattle.wal_reader.specs.declared.found.Answer.{Answer}
use Rattle.wal_reader.specs.declared.found.FoundRecord.{FoundRecord}
use Rattle.wal_reader.specs.Pages.{pages_in}
use Rattle.wal_reader.specs.Decodes.{Decodes}
use Rattle.written_log_laws.specs.Torn.{NoTornPass}
use Rattle.written_log_laws.specs.Written.{found_of}
use Rattle.run_laws.specs.Closed.{WasPromised}

-- records that were found are a front of the order, each whole, and in it is each entry that ends
-- at or below the address of a promise that was made by this moment
pub record IsFrontAsPromised (size moment : ℕ) (order : List Entry) (v : View)
    (found : List FoundRecord) : Type 0 where
  pub count : ℕ
  pub within : count ≤ length order
  pub front : found ≡ found_of size (take count order)
  pub promised : (entries : List Entry) (p : FlushPromise) → WasPromised v entries p
      → p.moment ≤ moment → (n : ℕ) (e : Entry) → slice_get order n ≡ Some e
      → finish_of size e ≤ p.upto → n < count

-- from the opening on, whatever a crash leaves holds nothing but zeros and words of this order
abbrev pub LeavesWordsOf : Opening → List Entry → Tape → Type 0
LeavesWordsOf opening order t =
    (moment : ℕ) (image : DiskImage) → opening.moment ≤ moment → LeftAt t moment image
    → IsLawful (opening.setup).seg_size (opening.setup).sysid image order 0

-- from the opening on, whatever a crash at a moment leaves decodes, from segment 1's start, to such
-- a front; the premise is that no torn record passes its CRC in what is left. The disk may have
-- failed
abbrev pub LeavesFronts : Opening → List Entry → Tape → View → Type 0
LeavesFronts opening order t v =
    (moment : ℕ) (image : DiskImage) → opening.moment ≤ moment → LeftAt t moment image
    → NoTornPass (opening.setup).seg_size (pages_in (opening.setup).seg_size image) order
    → (found : List FoundRecord) (answer : Answer)
    → Decodes (opening.setup).seg_size (pages_in (opening.setup).seg_size image)
    (opening.setup).seg_size None found answer
    → IsFrontAsPromised (opening.setup).seg_size moment order v found
