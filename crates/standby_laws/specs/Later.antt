-- What the orders of a primary begin with that goes on behind a crash.
use Rattle.std.specs.Prelude.{◌≡◌, ℕ, ◌<◌, ◌≤◌, List, length, map, take, Some, slice_get}
use Rattle.byte_position.specs.Position.{end_address_of}
use Rattle.segment_disk.specs.DiskImage.{DiskImage, LeftAt, image_as_read}
use Rattle.segment_disk.specs.Tape.{Tape, state_now}
use Rattle.flush_core.specs.Lawful.{IsLawful}
use Rattle.wal_page.specs.Order.{Entry, IsChained, end_position, finish_of}
use Rattle.wal_reader.specs.declared.found.FoundRecord.{FoundRecord}
use Rattle.wal_reader.specs.Pages.{pages_in}
use Rattle.written_log_laws.specs.Torn.{NoTornPass}
use Rattle.machine_state.specs.Words.{Opening}
use Rattle.run_script.specs.Asked.{AskedLine}
use Rattle.run_laws.specs.declared.told.Told.{Told}
use Rattle.run_laws.specs.Assured.{order_told}
use Rattle.wal_stream.specs.FollowedLog.{IsLogOrder}
use Rattle.wal_stream.specs.Frame.{IsFrameOfLog}
use Rattle.reopened_log_laws.specs.Again.{IsLeftByCrash}
use Rattle.reopened_log_laws.specs.FoundFirst.{as_found}
use Rattle.reopened_log_laws.specs.Reopened.{IsReopenedOn}

-- each crash from a moment on leaves all of an order's log below an address
abbrev pub IsHardenedUpto : ℕ → ℕ → List Entry → ℕ → ℕ → Tape → Type 0
IsHardenedUpto size sysid order since upto t =
    (moment : ℕ) (image : DiskImage) → since ≤ moment → LeftAt t moment image
    → IsLawful size sysid image order upto

-- an order begins with all entries of another that end at or below an address, but for their passes
pub record BeginsUpto (size : ℕ) (order later : List Entry) (upto : ℕ) : Type 0 where
  pub count : ℕ
  pub within : count ≤ length order
  pub holds : (i : ℕ) (e : Entry) → slice_get order i ≡ Some e → finish_of size e ≤ upto
      → i < count
  pub same : map as_found (take count later) ≡ map as_found (take count order)

-- where a log was hardened up to an address, then a crash came in which no torn record passes its
-- CRC, and the log was gone on with, the later order begins with all entries up to there
abbrev pub LaterOrdersBegin : Type 0
LaterOrdersBegin =
    (opening : Opening) (front order : List Entry) (since at upto handed : ℕ) (t left began : Tape)
    (found : List FoundRecord) (script : List (List AskedLine)) (lists : List (List Told))
    → IsLogOrder (opening.setup).seg_size (opening.setup).sysid order
    → IsHardenedUpto (opening.setup).seg_size (opening.setup).sysid order since upto t
    → since ≤ at → IsLeftByCrash t at left
    → NoTornPass (opening.setup).seg_size
    (pages_in (opening.setup).seg_size (image_as_read (state_now left))) order
    → IsReopenedOn opening front handed left began found
    → BeginsUpto (opening.setup).seg_size order
    (order_told front (opening.setup).seg_size script lists) upto

-- so frames that were sent up to an entry's end are frames of the later order too
abbrev pub FramesStayOfLog : Type 0
FramesStayOfLog =
    (size sysid upto count : ℕ) (order later : List Entry) (bytes : List ℕ)
    → IsLogOrder size sysid order → IsChained size later → BeginsUpto size order later upto
    → count ≤ length order → upto ≡ end_address_of size (end_position size (take count order))
    → IsFrameOfLog size sysid order upto bytes → IsFrameOfLog size sysid later upto bytes
