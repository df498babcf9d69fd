-- What stays of a log for good, word by word: all below an address, on a disk that is left. What a
-- reader finds of it is then a front of the order that has each entry up to there. `size` is that
-- of a segment in bytes, `sysid` the log's system id.
use Rattle.std.specs.Prelude.{◌≡◌, ◌⊎◌, ℕ, ◌*◌, ◌+◌, ◌<◌, ◌≤◌, List, length, Some, None}
use Rattle.segment_disk.specs.Assured.{IsMadeUpto, StateAssures}
use Rattle.segment_disk.specs.DiskImage.{DiskImage, MayLeave}
use Rattle.segment_disk.specs.Tape.{DiskState, Tape, state_now}
use Rattle.flush_core.specs.Settled.{HaveWholePages}
use Rattle.flush_core.specs.SettledLog.{IsLogWord}
use Rattle.wal_page.specs.Order.{Entry}
use Rattle.wal_reader.specs.declared.found.Answer.{Answer}
use Rattle.wal_reader.specs.declared.found.FoundRecord.{FoundRecord}
use Rattle.wal_reader.specs.Decodes.{Decodes}
use Rattle.wal_reader.specs.Pages.{pages_in}
use Rattle.written_log_laws.specs.FoundLog.{end_behind}
use Rattle.written_log_laws.specs.LawfulLog.{IsFrontUpto}
use Rattle.written_log_laws.specs.Torn.{NoTornPass}
use Rattle.found_log.specs.Found.{HasBegunToSettle}
use Rattle.run_script.specs.Asked.{AskedLine}
use Rattle.run_laws.specs.declared.told.Told.{Told}
use Rattle.run_laws.specs.Crash.{SaysDurable}
use Rattle.run_laws.specs.Told.{SomeTold}
use Rattle.machine_state.specs.Suited.{IsSuited}
use Rattle.machine_state.specs.Words.{Opening, found_end}
use Rattle.machine_laws.specs.WholeOrders.{LiesBehind}
use Rattle.run_laws.specs.Assured.{IsRunOn, order_told}
use Rattle.reopened_log_laws.specs.Again.{IsLeftByCrash}
use Rattle.reopened_log_laws.specs.Reopened.{IsReopenedOn}
use Rattle.reopened_log_laws.specs.StopsAt.{StopsAt}
use Rattle.reopened_log_laws.specs.WasLeft.{WasLeft}

-- a word of a disk, by its page's number in the log and its own in the page, is the log's, if it
-- lies below an address
abbrev pub IsLogUpto : (size sysid : ℕ) → List Entry → ℕ → ℕ → ℕ → List ℕ → Type 0
IsLogUpto size sysid order upto page word bytes =
    page * 8192 + 8 * word < upto → IsLogWord size sysid order page word bytes

-- whatever a crash may leave of a disk is an order's log below an address, in segments that are
-- there
abbrev pub IsSureUpto : (size sysid : ℕ) → List Entry → ℕ → DiskState → Type 0
IsSureUpto size sysid order upto state =
    StateAssures size (IsMadeUpto size upto) (IsLogUpto size sysid order upto) state

-- what is left of a tape at a moment: its process stopped, or its machine crashed
abbrev pub IsLeftAt : Tape → ℕ → Tape → Type 0
IsLeftAt t moment left = StopsAt t moment left ⊎ IsLeftByCrash t moment left

-- ---- what is read of it

-- the records that are read of such a disk have each entry up to there, and so have those of each
-- image that a crash may leave of it, if no torn record passes its CRC there
abbrev pub SureEntriesAreRead : Type 0
SureEntriesAreRead =
    (size sysid upto : ℕ) (t : Tape) (found : List FoundRecord)
    → (left : WasLeft size sysid t found) → IsSureUpto size sysid left.order upto (state_now t)
    → IsFrontUpto size left.order upto found
    × ((image : DiskImage) → MayLeave (state_now t) image
    → NoTornPass size (pages_in size image) left.order
    → (records : List FoundRecord) (answer : Answer)
    → Decodes size (pages_in size image) size None records answer
    → IsFrontUpto size left.order upto records)

-- ---- how long it stays so

-- of a disk with these records another one has all that this one has up to where they end
abbrev pub StaysSure : (size sysid : ℕ) (t : Tape) (found : List FoundRecord)
    → WasLeft size sysid t found → Tape → Type 0
StaysSure size sysid t found left next =
    (upto : ℕ) → upto ≤ end_behind size found
    → IsSureUpto size sysid left.order upto (state_now t)
    → IsSureUpto size sysid left.order upto (state_now next)

-- so has what is left of it where no call was made,
abbrev pub UncalledDisksStaySure : Type 0
UncalledDisksStaySure =
    (size sysid : ℕ) (t next : Tape) (found : List FoundRecord)
    → (left : WasLeft size sysid t found) → IsLeftAt t (length t.calls) next
    → StaysSure size sysid t found left next

-- while its log is settled, where a call of the disk failed,
abbrev pub StoppedSettlingsStaySure : Type 0
StoppedSettlingsStaySure =
    (size sysid cap handed last moment : ℕ) (t now next : Tape) (found : List FoundRecord)
    → (left : WasLeft size sysid t found) → handed ≡ length t.calls
    → HasBegunToSettle size cap (Some t) (Some now) handed last → handed ≤ moment
    → IsLeftAt now moment next → StaysSure size sysid t found left next

-- and where it was settled and opened
abbrev pub ReopenedSettlingsStaySure : Type 0
ReopenedSettlingsStaySure =
    (opening : Opening) (front : List Entry) (handed moment : ℕ) (t began next : Tape)
    (found : List FoundRecord)
    → (reopened : IsReopenedOn opening front handed t began found) → handed ≤ moment
    → IsLeftAt began moment next
    → StaysSure (opening.setup).seg_size (opening.setup).sysid t found reopened.left next

-- of a run all is there that was found, and all that some line was told to be durable by the moment
-- at which it was left
abbrev pub RunsMakeSure : Type 0
RunsMakeSure =
    (opening : Opening) (front : List Entry) (moment last : ℕ) (began now next : Tape)
    (script : List (List AskedLine)) (lists : List (List Told))
    → LiesBehind opening front → IsRunOn opening (Some began) (Some now) last script lists
    → IsSuited opening (state_now began)
    → HaveWholePages (opening.setup).seg_size (state_now began)
    → opening.moment ≡ length began.calls → opening.moment ≤ moment → IsLeftAt now moment next
    → (upto : ℕ)
    → (upto ≤ found_end opening) ⊎ SomeTold (SaysDurable moment upto) lists
    → IsSureUpto (opening.setup).seg_size (opening.setup).sysid
    (order_told front (opening.setup).seg_size script lists) upto (state_now next)
