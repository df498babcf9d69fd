-- What crashes leave of a log that was reopened, and that a run went on with.
use Rattle.std.specs.Prelude.{◌≡◌, ℕ, ◌+◌, ◌≤◌, List, ◌++◌, length, take, Some, None}
use Rattle.segment_disk.specs.DiskImage.{DiskImage, LeftAt}
use Rattle.segment_disk.specs.Tape.{Tape, state_now}
use Rattle.flush_core.specs.Settled.{AreAllThere}
use Rattle.wal_page.specs.Order.{Entry}
use Rattle.wal_reader.specs.declared.found.Answer.{Answer}
use Rattle.wal_reader.specs.declared.found.FoundRecord.{FoundRecord}
use Rattle.wal_reader.specs.Pages.{pages_in}
use Rattle.wal_reader.specs.Decodes.{Decodes}
use Rattle.written_log_laws.specs.Torn.{NoTornPass}
use Rattle.written_log_laws.specs.Written.{found_of}
use Rattle.found_log.specs.Found.{HasBegunToSettle}
use Rattle.run_script.specs.Asked.{AskedLine}
use Rattle.run_laws.specs.declared.told.Told.{Told}
use Rattle.run_laws.specs.Crash.{IsFrontWithTold}
use Rattle.machine_state.specs.Words.{Opening}
use Rattle.run_laws.specs.Assured.{AssuresBehind, RunAssures, order_told}
use Rattle.reopened_log_laws.specs.Reopened.{IsReopenedOn}
use Rattle.reopened_log_laws.specs.WasLeft.{WasLeft}

-- whatever a crash leaves since the disk was handed in, if no torn record passes its CRC there, of
-- the log that the disk was left with and of the one that a run went on with: it decodes to a front
-- of all that was found and reserved, with all that was told durable by then; from the end of the
-- first syncs on it begins with all that was found. `now` is the tape at the run's end
abbrev pub ReopenedLogsSurviveCrashes : Type 0
ReopenedLogsSurviveCrashes =
    (opening : Opening) (front : List Entry) (handed last faults : ℕ) (t began now : Tape)
    (found : List FoundRecord) (script : List (List AskedLine)) (lists : List (List Told))
    → (reopened : IsReopenedOn opening front handed t began found)
    → RunAssures opening (Some began) (Some now) last faults script lists
    → AssuresBehind opening front (Some began) (Some now) script lists
    → (moment : ℕ) (image : DiskImage) → handed ≤ moment → LeftAt now moment image
    → NoTornPass (opening.setup).seg_size (pages_in (opening.setup).seg_size image)
    (reopened.left).order
    → NoTornPass (opening.setup).seg_size (pages_in (opening.setup).seg_size image)
    (order_told front (opening.setup).seg_size script lists)
    → (told : List FoundRecord) (answer : Answer)
    → Decodes (opening.setup).seg_size (pages_in (opening.setup).seg_size image)
    (opening.setup).seg_size None told answer
    → IsFrontWithTold (opening.setup).seg_size moment
    (order_told front (opening.setup).seg_size script lists) lists told
    × (handed + opening.made ≤ moment
    → take (length front) told ≡ found_of (opening.setup).seg_size front)

-- whatever a crash leaves of a disk that this program left, at any moment since it was handed in,
-- where a call of it failed while its log was settled: if no torn record passes its CRC there, it
-- decodes to a front of what was found, and to all of it from the end of the first syncs on, if
-- each segment that was there was synced. `now` is the tape behind the failed call
abbrev pub StoppedSettlingsSurviveCrashes : Type 0
StoppedSettlingsSurviveCrashes =
    (size sysid cap handed last : ℕ) (t now : Tape) (found : List FoundRecord)
    → (left : WasLeft size sysid t found) → handed ≡ length t.calls
    → (begun : HasBegunToSettle size cap (Some t) (Some now) handed last)
    → (moment : ℕ) (image : DiskImage) → handed ≤ moment → LeftAt now moment image
    → NoTornPass size (pages_in size image) left.order
    → (told : List FoundRecord) (answer : Answer)
    → Decodes size (pages_in size image) size None told answer
    → ((behind : List FoundRecord) × (found ≡ told ++ behind))
    × ((segments : ℕ) → AreAllThere size (state_now t) segments
    → segments ≤ length (begun.stopped.calls).front → handed + segments ≤ moment → told ≡ found)

-- .. and where it was settled: up to the opening's moment it decodes to just what was found
abbrev pub SettledLogsKeepWhatWasFound : Type 0
SettledLogsKeepWhatWasFound =
    (opening : Opening) (front : List Entry) (handed : ℕ) (t began : Tape)
    (found : List FoundRecord)
    → (reopened : IsReopenedOn opening front handed t began found)
    → (moment : ℕ) (image : DiskImage) → handed + opening.made ≤ moment
    → LeftAt began moment image
    → NoTornPass (opening.setup).seg_size (pages_in (opening.setup).seg_size image)
    (reopened.left).order
    → (told : List FoundRecord) (answer : Answer)
    → Decodes (opening.setup).seg_size (pages_in (opening.setup).seg_size image)
    (opening.setup).seg_size None told answer
    → told ≡ found
