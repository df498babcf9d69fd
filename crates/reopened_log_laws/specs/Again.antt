-- What a crash leaves of a log that goes on is again a disk that this program left.
use Rattle.std.specs.Prelude.{◌≡◌, ℕ, ◌/◌, ◌+◌, ◌^◌, ◌<◌, ◌≤◌, List, drop, length, Some}
use Rattle.byte_position.specs.Geometry.{IsSegmentSize}
use Rattle.byte_position.specs.Position.{end_address_of}
use Rattle.segment_disk.specs.Assured.{IsNowhere, TapeAssures}
use Rattle.segment_disk.specs.DiskImage.{LeftAt, image_as_read}
use Rattle.segment_disk.specs.Tape.{Tape, state_at, state_now}
use Rattle.wal_page.specs.Order.{Entry, IsChained, end_position}
use Rattle.flush_core.specs.Settled.{AreThere, HasSettled}
use Rattle.flush_core.specs.SettledLog.{AreOnly, IsZeroOrLogWord}
use Rattle.wal_reader.specs.Pages.{pages_in}
use Rattle.wal_reader.specs.declared.found.FoundRecord.{FoundRecord}
use Rattle.written_log_laws.specs.SettledFound.{NothingWaits}
use Rattle.written_log_laws.specs.Torn.{NoTornPass}
use Rattle.found_log.specs.Found.{FindsLog, HasBegunToSettle}
use Rattle.found_log.specs.declared.finding.FoundLog.{FoundLog}
use Rattle.run_script.specs.Asked.{AskedLine}
use Rattle.run_laws.specs.declared.told.Told.{Told}
use Rattle.machine_state.specs.Made.{MakeInTurn}
use Rattle.machine_state.specs.Suited.{IsSuited}
use Rattle.machine_state.specs.Words.{Opening}
use Rattle.machine_laws.specs.WholeOrders.{LiesBehind}
use Rattle.run_laws.specs.Assured.{IsRunOn, order_told}
use Rattle.reopened_log_laws.specs.Reopened.{IsReopenedOn}
use Rattle.reopened_log_laws.specs.WasLeft.{WasLeft, WasLeftOf}

-- a disk as a crash leaves it at a moment of a tape: nothing waits for a sync on it
pub record IsLeftByCrash (t : Tape) (moment : ℕ) (crashed : Tape) : Type 0 where
  pub quiet : NothingWaits (state_now crashed)
  pub leaves : LeftAt t moment (image_as_read (state_now crashed))

-- segments are made one behind another since a moment, at which those from 1 to some number were
-- there and no other; the one behind the last ends at address 2 ^ 60 or below
pub record HasMadeInTurn (size since : ℕ) (t : Tape) : Type 0 where
  pub first : ℕ
  pub there : AreThere (state_at t since) first
  pub only : AreOnly first (state_at t since)
  pub last : ℕ
  pub in_turn : MakeInTurn first (drop since t.calls) last
  pub low : last + 1 < 2 ^ 60 / size

-- ---- a log that is written

-- what a crash leaves, of a tape that holds nothing but words of an order's log from a moment on,
-- was left by this program, with that order
abbrev pub CrashedLogsWereLeft : Type 0
CrashedLogsWereLeft =
    (size sysid since moment : ℕ) (order : List Entry) (t crashed : Tape) → IsSegmentSize size
    → 0 < sysid → sysid < 2 ^ 64 → IsChained size order
    → end_address_of size (end_position size order) ≤ 2 ^ 60
    → TapeAssures size IsNowhere (IsZeroOrLogWord size sysid order) since t
    → HasMadeInTurn size since t → since ≤ moment → IsLeftByCrash t moment crashed
    → NoTornPass size (pages_in size (image_as_read (state_now crashed))) order
    → (found : List FoundRecord) × WasLeftOf size sysid order crashed found

-- ---- a log that is settled

-- what a crash leaves of a disk that was left so was left so too, with the same order: of one on
-- which no call was made since,
abbrev pub CrashedDisksWereLeft : Type 0
CrashedDisksWereLeft =
    (size sysid : ℕ) (t crashed : Tape) (found : List FoundRecord)
    → (left : WasLeft size sysid t found) → IsLeftByCrash t (length t.calls) crashed
    → NoTornPass size (pages_in size (image_as_read (state_now crashed))) left.order
    → (told : List FoundRecord) × WasLeftOf size sysid left.order crashed told

-- at any moment since it was handed in, where a call of the disk failed, so that its log was not
-- settled,
abbrev pub CrashedStoppedSettlingsWereLeft : Type 0
CrashedStoppedSettlingsWereLeft =
    (size sysid cap handed last moment : ℕ) (t now crashed : Tape) (found : List FoundRecord)
    → (left : WasLeft size sysid t found) → handed ≡ length t.calls
    → HasBegunToSettle size cap (Some t) (Some now) handed last → handed ≤ moment
    → IsLeftByCrash now moment crashed
    → NoTornPass size (pages_in size (image_as_read (state_now crashed))) left.order
    → (told : List FoundRecord) × WasLeftOf size sysid left.order crashed told

-- where it was settled in the end,
abbrev pub CrashedCompletedSettlingsWereLeft : Type 0
CrashedCompletedSettlingsWereLeft =
    (size sysid cap handed last moment : ℕ) (log : FoundLog) (t now crashed : Tape)
    (found : List FoundRecord) → (left : WasLeft size sysid t found) → handed ≡ length t.calls
    → FindsLog size cap (Some t) log
    → HasSettled size log.end.0 log.made (Some t) (Some now) handed last → handed ≤ moment
    → IsLeftByCrash now moment crashed
    → NoTornPass size (pages_in size (image_as_read (state_now crashed))) left.order
    → (told : List FoundRecord) × WasLeftOf size sysid left.order crashed told

-- and where its log was opened, up to then
abbrev pub CrashedReopenedSettlingsWereLeft : Type 0
CrashedReopenedSettlingsWereLeft =
    (opening : Opening) (front : List Entry) (handed moment : ℕ) (t began crashed : Tape)
    (found : List FoundRecord)
    → (reopened : IsReopenedOn opening front handed t began found) → handed ≤ moment
    → IsLeftByCrash began moment crashed
    → NoTornPass (opening.setup).seg_size
    (pages_in (opening.setup).seg_size (image_as_read (state_now crashed)))
    (reopened.left).order
    → (told : List FoundRecord)
    × WasLeftOf (opening.setup).seg_size (opening.setup).sysid (reopened.left).order crashed
    told

-- ---- a run

-- until the opening an order is the one with which the disk was handed in, and from then on that of
-- the run
pub record IsOrderAt (opening : Opening) (moment : ℕ) (handed_in of_run order : List Entry)
    : Type 0 where
  pub early : moment < opening.moment → order ≡ handed_in
  pub later : opening.moment ≤ moment → order ≡ of_run

-- what a crash leaves of a run was left so, with the run's order, at any moment since its log was
-- opened: on a disk that had no segment then but those that were found, as one that held nothing,
-- or one that was settled
abbrev pub CrashedRunsWereLeft : Type 0
CrashedRunsWereLeft =
    (opening : Opening) (front : List Entry) (moment last : ℕ) (began now crashed : Tape)
    (script : List (List AskedLine)) (lists : List (List Told))
    → LiesBehind opening front → IsRunOn opening (Some began) (Some now) last script lists
    → IsSuited opening (state_now began) → AreOnly opening.made (state_now began)
    → opening.made ≤ (opening.setup).cap_segments → opening.moment ≡ length began.calls
    → (opening.setup).sysid < 2 ^ 64 → opening.moment ≤ moment
    → IsLeftByCrash now moment crashed
    → NoTornPass (opening.setup).seg_size
    (pages_in (opening.setup).seg_size (image_as_read (state_now crashed)))
    (order_told front (opening.setup).seg_size script lists)
    → (found : List FoundRecord)
    × WasLeftOf (opening.setup).seg_size (opening.setup).sysid
    (order_told front (opening.setup).seg_size script lists) crashed found

-- so was what a crash leaves of a run that goes on with a log, at any moment since its disk was
-- handed in: the log that is found there may be settled and gone on with as this one was
abbrev pub CrashedReopenedRunsWereLeft : Type 0
CrashedReopenedRunsWereLeft =
    (opening : Opening) (front : List Entry) (handed moment last : ℕ)
    (t began now crashed : Tape) (found : List FoundRecord)
    (script : List (List AskedLine)) (lists : List (List Told))
    → (reopened : IsReopenedOn opening front handed t began found)
    → IsRunOn opening (Some began) (Some now) last script lists
    → handed ≤ moment → IsLeftByCrash now moment crashed
    → NoTornPass (opening.setup).seg_size
    (pages_in (opening.setup).seg_size (image_as_read (state_now crashed)))
    (reopened.left).order
    → NoTornPass (opening.setup).seg_size
    (pages_in (opening.setup).seg_size (image_as_read (state_now crashed)))
    (order_told front (opening.setup).seg_size script lists)
    → (told : List FoundRecord)
    × (again : WasLeft (opening.setup).seg_size (opening.setup).sysid crashed told)
    × IsOrderAt opening moment (reopened.left).order
    (order_told front (opening.setup).seg_size script lists) again.order
