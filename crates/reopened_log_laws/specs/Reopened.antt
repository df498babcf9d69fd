-- A log that was opened behind what was found on a disk that this program left.
use Rattle.std.specs.Prelude.{◌≡◌, ℕ, List, length, Some}
use Rattle.segment_disk.specs.Tape.{Tape, state_now}
use Rattle.flush_core.specs.Settled.{HasSettled}
use Rattle.wal_reader.specs.declared.found.FoundRecord.{FoundRecord}
use Rattle.wal_page.specs.Order.{Entry}
use Rattle.written_log_laws.specs.Written.{found_of}
use Rattle.machine_state.specs.Opened.{IsOpenable}
use Rattle.machine_state.specs.Suited.{IsSuited}
use Rattle.machine_state.specs.Words.{Opening, found_end}
use Rattle.machine_laws.specs.WholeOrders.{LiesBehind}
use Rattle.reopened_log_laws.specs.WasLeft.{WasLeft}

-- a disk that this program left with these records had the tape `t` at the moment `handed`, when it
-- was handed in; its log was settled up to their end, and opened behind them with the tape `began`.
-- `front` are their entries, which lie below the opening's place
pub record IsReopenedOn (opening : Opening) (front : List Entry) (handed : ℕ) (t began : Tape)
    (found : List FoundRecord) : Type 0 where
  pub left : WasLeft (opening.setup).seg_size (opening.setup).sysid t found
  pub counted : handed ≡ length t.calls
  pub openable : IsOpenable opening
  pub lies : LiesBehind opening front
  pub found_is : found_of (opening.setup).seg_size front ≡ found
  pub settled : HasSettled (opening.setup).seg_size (found_end opening) opening.made (Some t)
      (Some began) handed opening.moment

-- on it a log may go on that was opened so
abbrev pub ReopenedLogsAreSuited : Type 0
ReopenedLogsAreSuited =
    (opening : Opening) (front : List Entry) (handed : ℕ) (t began : Tape)
    (found : List FoundRecord)
    → IsReopenedOn opening front handed t began found → IsSuited opening (state_now began)
