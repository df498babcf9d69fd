-- A process that goes on with a log may stop at any moment without a crash of its disk: a call of
-- the disk fails, or it is killed. What is on the disk then, and may wait there for a sync, is
-- again a disk that this program left. So it is where the process was killed within a write, if
-- each word of the page is read as the old one or the new one.
use Rattle.std.specs.Prelude.{◌≡◌, ℕ, ◌^◌, ◌<◌, ◌≤◌, List, length, Some}
use Rattle.byte_position.specs.Geometry.{IsSegmentSize}
use Rattle.byte_position.specs.Position.{end_address_of}
use Rattle.segment_disk.specs.Assured.{IsNowhere, TapeAssures}
use Rattle.segment_disk.specs.DiskImage.{LeftAt, image_as_read}
use Rattle.segment_disk.specs.Tape.{Tape, state_now}
use Rattle.wal_page.specs.Order.{Entry, IsChained, end_position}
use Rattle.flush_core.specs.Settled.{HasSettled, HaveWholePages}
use Rattle.flush_core.specs.SettledLog.{AreOnly, IsZeroOrLogWord}
use Rattle.wal_reader.specs.Pages.{pages_in}
use Rattle.wal_reader.specs.declared.found.FoundRecord.{FoundRecord}
use Rattle.written_log_laws.specs.Torn.{NoTornPass}
use Rattle.found_log.specs.Found.{FindsLog, HasBegunToSettle}
use Rattle.found_log.specs.declared.finding.FoundLog.{FoundLog}
use Rattle.run_script.specs.Asked.{AskedLine}
use Rattle.run_laws.specs.declared.told.Told.{Told}
use Rattle.machine_state.specs.Growing.{LosesOnly}
use Rattle.machine_state.specs.Suited.{IsSuited}
use Rattle.machine_state.specs.Words.{Opening}
use Rattle.machine_laws.specs.WholeOrders.{LiesBehind}
use Rattle.run_laws.specs.Assured.{IsRunOn, order_told}
use Rattle.reopened_log_laws.specs.Again.{HasMadeInTurn, IsOrderAt}
use Rattle.reopened_log_laws.specs.Reopened.{IsReopenedOn}
use Rattle.reopened_log_laws.specs.StopsAt.{StopsAt}
use Rattle.reopened_log_laws.specs.WasLeft.{WasLeft, WasLeftOf}

-- ---- while a log is settled

-- where a process stops since a disk was handed in that this program left with some records, it is
-- such a disk, with the same records and order, if no torn record passes its CRC there as it is
-- read: where a call of the disk failed, so that its log was not settled,
abbrev pub StoppedSettlingsWereLeft : Type 0
StoppedSettlingsWereLeft =
    (size sysid cap handed last moment : ℕ) (t now stopped : Tape) (found : List FoundRecord)
    → (left : WasLeft size sysid t found) → handed ≡ length t.calls
    → HasBegunToSettle size cap (Some t) (Some now) handed last → handed ≤ moment
    → StopsAt now moment stopped
    → NoTornPass size (pages_in size (image_as_read (state_now stopped))) left.order
    → WasLeftOf size sysid left.order stopped found

-- where it was settled in the end,
abbrev pub CompletedSettlingsWereLeft : Type 0
CompletedSettlingsWereLeft =
    (size sysid cap handed last moment : ℕ) (log : FoundLog) (t now stopped : Tape)
    (found : List FoundRecord) → (left : WasLeft size sysid t found) → handed ≡ length t.calls
    → FindsLog size cap (Some t) log
    → HasSettled size log.end.0 log.made (Some t) (Some now) handed last → handed ≤ moment
    → StopsAt now moment stopped
    → NoTornPass size (pages_in size (image_as_read (state_now stopped))) left.order
    → WasLeftOf size sysid left.order stopped found

-- and where it was gone on with
abbrev pub ReopenedSettlingsWereLeft : Type 0
ReopenedSettlingsWereLeft =
    (opening : Opening) (front : List Entry) (handed moment : ℕ) (t began stopped : Tape)
    (found : List FoundRecord)
    → (reopened : IsReopenedOn opening front handed t began found) → handed ≤ moment
    → StopsAt began moment stopped
    → NoTornPass (opening.setup).seg_size
    (pages_in (opening.setup).seg_size (image_as_read (state_now stopped)))
    (reopened.left).order
    → WasLeftOf (opening.setup).seg_size (opening.setup).sysid (reopened.left).order stopped
    found

-- ---- while it is written

-- so is a disk that is read as a crash might have left another one, at a moment since which that
-- one held nothing but words of an order's log, and segments were made one behind another, if its
-- pages are whole, and what a crash may leave of each word is zeros or as it is read
abbrev pub StoppedLogsWereLeft : Type 0
StoppedLogsWereLeft =
    (size sysid since moment : ℕ) (order : List Entry) (t stopped : Tape) → IsSegmentSize size
    → 0 < sysid → sysid < 2 ^ 64 → IsChained size order
    → end_address_of size (end_position size order) ≤ 2 ^ 60
    → TapeAssures size IsNowhere (IsZeroOrLogWord size sysid order) since t
    → HasMadeInTurn size since t → since ≤ moment
    → LeftAt t moment (image_as_read (state_now stopped)) → LosesOnly size (state_now stopped)
    → HaveWholePages size (state_now stopped)
    → NoTornPass size (pages_in size (image_as_read (state_now stopped))) order
    → (found : List FoundRecord) × WasLeftOf size sysid order stopped found

-- so is that of a run that stops since its log was opened, if its pages were whole then: of a
-- disk that had no segment but those that were found, as one that held nothing, or one that was
-- settled
abbrev pub StoppedRunsWereLeft : Type 0
StoppedRunsWereLeft =
    (opening : Opening) (front : List Entry) (moment last : ℕ) (began now stopped : Tape)
    (script : List (List AskedLine)) (lists : List (List Told))
    → LiesBehind opening front → IsRunOn opening (Some began) (Some now) last script lists
    → IsSuited opening (state_now began) → AreOnly opening.made (state_now began)
    → HaveWholePages (opening.setup).seg_size (state_now began)
    → opening.made ≤ (opening.setup).cap_segments → opening.moment ≡ length began.calls
    → (opening.setup).sysid < 2 ^ 64 → opening.moment ≤ moment
    → StopsAt now moment stopped
    → NoTornPass (opening.setup).seg_size
    (pages_in (opening.setup).seg_size (image_as_read (state_now stopped)))
    (order_told front (opening.setup).seg_size script lists)
    → (found : List FoundRecord)
    × WasLeftOf (opening.setup).seg_size (opening.setup).sysid
    (order_told front (opening.setup).seg_size script lists) stopped found

-- and that of a run that goes on with a log, and stops since its disk was handed in
abbrev pub StoppedReopenedRunsWereLeft : Type 0
StoppedReopenedRunsWereLeft =
    (opening : Opening) (front : List Entry) (handed moment last : ℕ)
    (t began now stopped : Tape) (found : List FoundRecord)
    (script : List (List AskedLine)) (lists : List (List Told))
    → (reopened : IsReopenedOn opening front handed t began found)
    → IsRunOn opening (Some began) (Some now) last script lists
    → handed ≤ moment → StopsAt now moment stopped
    → NoTornPass (opening.setup).seg_size
    (pages_in (opening.setup).seg_size (image_as_read (state_now stopped)))
    (reopened.left).order
    → NoTornPass (opening.setup).seg_size
    (pages_in (opening.setup).seg_size (image_as_read (state_now stopped)))
    (order_told front (opening.setup).seg_size script lists)
    → (told : List FoundRecord)
    × (again : WasLeft (opening.setup).seg_size (opening.setup).sysid stopped told)
    × IsOrderAt opening moment (reopened.left).order
    (order_told front (opening.setup).seg_size script lists) again.order
