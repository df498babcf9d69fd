-- What an insert answers, and what it leaves of its pass.
use Rattle.std.specs.Prelude.{◌≡◌, ℕ, ◌+◌, ◌-◌, ◌<◌, ◌≤◌, Result, Ok, Err, Some, None}
use Rattle.wal_types.specs.declared.record.Record.{Record}
use Rattle.wal_spelling.specs.Spelling.{Assembled, IsLogRecord, assembled}
use Rattle.wal_page.specs.Order.{Entry, assembled_room_at, finish_of, position_behind, start_of}
use Rattle.wal_types.specs.declared.lsn.Lsn.{Lsn}
use Rattle.wal_types.specs.declared.answers.Receipt.{Receipt}
use Rattle.machine_state.specs.declared.setup.Setup.{Setup}
use Rattle.machine_state.specs.Moves.{entry_reserved}
use Rattle.machine_state.specs.Words.{log_limit}
use Rattle.machine_state.specs.Views.{View}
use Rattle.wal_rule.specs.declared.company.Company.{Company}
use Rattle.wal_rule.specs.Company.{HasNoted}
use Rattle.wal_log.specs.declared.fault.Fault.{Fault}
use Rattle.wal_log.specs.declared.fault.Fault.TheVariants as faults
use Rattle.wal_log.specs.declared.inserting.InsertErr.{InsertErr}
use Rattle.wal_log.specs.declared.inserting.InsertErr.TheVariants.{Full, Disk, Down}
use Rattle.wal_log.specs.Downs.{KnowsNoFault, MeetsDown, SetsDownItself}
use Rattle.wal_log.specs.PassLogs.{log_of_pass, log_with_entry, log_with_full}
use Rattle.wal_log.specs.Whole.{CopiesLast, CopiesWhole}

-- an entry is one of the pass that the body's record makes, behind all that the pass had seen, and
-- within the log
pub record IsOwnEntry (setup : Setup) (body : Assembled) (old : View) (e : Entry) : Type 0 where
  pub value : Record
  pub logged : IsLogRecord value
  pub of_body : assembled value ≡ body
  pub at : ℕ
  pub entry_is : e ≡ entry_reserved (old.reserving).number at value
  pub behind_seen : (old.reserving).seen ≤ at
  pub within : at + assembled_room_at setup.seg_size at body ≤ log_limit setup

-- this entry was reserved: the pass's log has it last, and the pass has seen all before its end
pub record HasReserved (setup : Setup) (body : Assembled) (old new : View) (e : Entry) : Type 0
  where
    pub own : IsOwnEntry setup body old e
    pub log_is : log_of_pass new ≡ log_with_entry e (log_of_pass old)
    pub seen : position_behind setup.seg_size e ≤ (new.reserving).seen

-- fewer bytes were left behind a position than the record takes up; the pass had seen nothing
-- behind it
pub record FindsLogFull (setup : Setup) (body : Assembled) (free : ℕ) (old new : View) : Type 0
  where
    pub at : ℕ
    pub behind_seen : (old.reserving).seen ≤ at
    pub within : at ≤ log_limit setup
    pub free_is : free ≡ log_limit setup - at
    pub short : free < assembled_room_at setup.seg_size at body
    pub seen : at ≤ (new.reserving).seen
    pub log_is : log_of_pass new ≡ log_with_full at (log_of_pass old)

-- the record was reserved, each of its words was copied, the places told are its entry's, and the
-- disk was not known to have failed
pub record IsReceipt (setup : Setup) (body : Assembled) (old new : View) (receipt : Receipt)
    : Type 0 where
  pub entry : Entry
  pub reserved : HasReserved setup body old new entry
  pub copied : CopiesWhole old new entry
  pub start_is : receipt.start.0 ≡ start_of setup.seg_size entry
  pub end_is : receipt.end.0 ≡ finish_of setup.seg_size entry
  pub up : KnowsNoFault new

-- and copying it was the last that the pass did in the call, but for giving its lock back
pub record InsertsOnly (setup : Setup) (body : Assembled) (old new : View) (receipt : Receipt)
    : Type 0 where
  pub told : IsReceipt setup body old new receipt
  pub last : CopiesLast old new told.entry

-- the record was reserved, with this start
pub record IsStarted (setup : Setup) (body : Assembled) (old new : View) (start : ℕ) : Type 0
  where
    pub entry : Entry
    pub reserved : HasReserved setup body old new entry
    pub start_is : start ≡ start_of setup.seg_size entry

-- why a record is refused, or a segment switch: `full` holds of the bytes that a full log has left,
-- `started` of the start at which the record was reserved all the same
abbrev pub RefusesRecord : (full started : ℕ → Type 0) → View → View → InsertErr → Type 0
RefusesRecord full started old new (Full free) = full free × KnowsNoFault new
RefusesRecord full started old new (Disk faults start) =
    started start.0 × SetsDownItself faults new
RefusesRecord full started old new (Down faults None) =
    (log_of_pass new ≡ log_of_pass old) × MeetsDown faults old new
RefusesRecord full started old new (Down faults (Some start)) =
    started start.0 × MeetsDown faults old new

-- why an insert is refused
abbrev pub RefusesInsert : Setup → Assembled → View → View → InsertErr → Type 0
RefusesInsert setup body old new e = RefusesRecord (λ free. FindsLogFull setup body free old new)
    (λ start. IsStarted setup body old new start) old new e

-- what is told where a record that starts here, a segment switch's too, met a failed disk
abbrev pub insert_err_of_fault : Lsn → Fault → InsertErr
insert_err_of_fault start (faults.Disk n) = Disk n start
insert_err_of_fault start (faults.Down n) = Down n (Some start)

-- insert: the log's setup, the record, the pass's view before it, the answer, and the view after it
abbrev pub AnswersInsert : Setup → Assembled → View → Result Receipt InsertErr → View
    → Type 0
AnswersInsert setup body old (Ok receipt) new = IsReceipt setup body old new receipt
AnswersInsert setup body old (Err e) new = RefusesInsert setup body old new e

-- a pass notes where its record was inserted, and nothing of one that was refused
abbrev pub NotesPlace : Result Receipt InsertErr → (old new : Company) → Type 0
NotesPlace (Ok receipt) old new = HasNoted receipt.start.0 receipt.end old new
NotesPlace (Err e) old new = new ≡ old
