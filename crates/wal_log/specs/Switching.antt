-- What a segment switch answers, and what it leaves of its pass.
use Rattle.std.specs.Prelude.{◌≡◌, ◌≢◌, ℕ, ◌%◌, ◌<◌, ◌≤◌, List, Result, Ok, Err}
use Rattle.wal_spelling.specs.Record.{switch_record}
use Rattle.wal_spelling.specs.Spelling.{Assembled}
use Rattle.wal_page.specs.Order.{Entry, finish_of, start_of}
use Rattle.machine_state.specs.declared.setup.Setup.{Setup}
use Rattle.machine_state.specs.PassLogs.{log_with_stay}
use Rattle.machine_state.specs.Words.{end_form, log_limit}
use Rattle.machine_state.specs.Views.{View}
use Rattle.wal_rule.specs.declared.seated.SeatedPass.{SeatedPass}
use Rattle.wal_rule.specs.SeatedPasses.{view_of}
use Rattle.reserve_lock.specs.declared.reserving.Reserved.{Reserved}
use Rattle.reserve_lock.specs.declared.switching.SwitchTry.{SwitchTry}
use Rattle.reserve_lock.specs.declared.switching.SwitchTry.TheVariants as tries
use Rattle.reserve_lock.specs.Reserved.{every_lock}
use Rattle.wal_log.specs.declared.inserting.InsertErr.{InsertErr}
use Rattle.wal_log.specs.declared.switching.Switch.{Switch}
use Rattle.wal_log.specs.declared.switching.Switch.TheVariants.{Done, Stayed}
use Rattle.wal_log.specs.Beginning.{IsBegunUnder}
use Rattle.wal_log.specs.Downs.{KnowsNoFault}
use Rattle.wal_log.specs.Inserting.{FindsLogFull, HasReserved, RefusesRecord}
use Rattle.wal_log.specs.PassLogs.{log_of_pass}
use Rattle.wal_log.specs.Standing.{GoesOnSeated, HasLocks}
use Rattle.wal_log.specs.Whole.{CopiesWhole}

-- an entry is a segment switch's, and the log did not stand at a segment's start before it
pub record IsSwitchEntry (setup : Setup) (e : Entry) : Type 0 where
  pub switches : e.value ≡ switch_record
  pub inside : end_form setup e.start % setup.seg_size ≢ 0

-- this entry was reserved, as an insert's is, and it is a switch's
pub record HasSwitched (setup : Setup) (body : Assembled) (old new : View) (e : Entry) : Type 0
  where
    pub reserved : HasReserved setup body old new e
    pub switch : IsSwitchEntry setup e

-- a switch was reserved, each of its words was copied, zeros up to its segment's end among them,
-- the places told are its entry's, and the disk was not known to have failed
pub record IsSwitchDone (setup : Setup) (body : Assembled) (old new : View) (start end : ℕ)
    : Type 0 where
  pub entry : Entry
  pub switched : HasSwitched setup body old new entry
  pub copied : CopiesWhole old new entry
  pub start_is : start ≡ start_of setup.seg_size entry
  pub end_is : end ≡ finish_of setup.seg_size entry
  pub up : KnowsNoFault new

-- nothing was reserved: the log ended at this address, a segment's start, which is the end form of
-- a position that no pass had seen anything behind; the pass's log notes that it stopped there
pub record FindsSegmentStart (setup : Setup) (end : ℕ) (old new : View) : Type 0 where
  pub at : ℕ
  pub behind_seen : (old.reserving).seen ≤ at
  pub within : at ≤ log_limit setup
  pub end_is : end ≡ end_form setup at
  pub starts : end % setup.seg_size ≡ 0
  pub seen : at ≤ (new.reserving).seen
  pub log_is : log_of_pass new ≡ log_with_stay at (log_of_pass old)
  pub up : KnowsNoFault new

-- fewer bytes were left than a switch's own 24, and not none: where none is left the log ends at a
-- segment's start
pub record FindsNoRoom (setup : Setup) (body : Assembled) (free : ℕ) (old new : View) : Type 0
  where
    pub full : FindsLogFull setup body free old new
    pub some : 1 ≤ free
    pub few : free < 24

-- a switch was reserved, with this start
pub record IsSwitchStarted (setup : Setup) (body : Assembled) (old new : View) (start : ℕ)
    : Type 0 where
  pub entry : Entry
  pub switched : HasSwitched setup body old new entry
  pub start_is : start ≡ start_of setup.seg_size entry

-- why a switch is refused
abbrev pub RefusesSwitch : Setup → Assembled → View → View → InsertErr → Type 0
RefusesSwitch setup body old new e = RefusesRecord (λ free. FindsNoRoom setup body free old new)
    (λ start. IsSwitchStarted setup body old new start) old new e

-- ---- on the way

-- a pass goes on with what it had in hand, holds just these locks, and has added nothing to its log
pub record HoldsOn {D : Type 0} (locks : List ℕ) (old new : SeatedPass D) : Type 0 where
  pub goes_on : GoesOnSeated old new
  pub log_is : log_of_pass (view_of new) ≡ log_of_pass (view_of old)
  pub has : HasLocks locks (view_of new)

-- the disk had failed before the switch was reserved
abbrev pub TellsDown : View → View → InsertErr → Type 0
TellsDown old new e = RefusesRecord (λ free. ⊥) (λ start. ⊥) old new e

-- why it was not reserved, with all locks held
abbrev pub TellsNoPlace : Setup → Assembled → View → View → InsertErr → Type 0
TellsNoPlace setup body old new e =
    RefusesRecord (λ free. FindsNoRoom setup body free old new) (λ start. ⊥) old new e

-- it was reserved, and is copied under all locks, with all words left
pub record IsSwitchBegun (setup : Setup) (body : Assembled) (old new : View) (r : Reserved)
    : Type 0 where
  pub place : IsBegunUnder setup body every_lock old new r.start.0 r.end.0 r.placed
  pub switch : IsSwitchEntry setup place.entry

-- what its reservation comes to; where nothing is reserved the pass holds the locks and nothing
-- else
abbrev pub AnswersPlace : Setup → Assembled → View → Result SwitchTry InsertErr → View → Type 0
AnswersPlace setup body old (Ok (tries.Switched r)) new = IsSwitchBegun setup body old new r
AnswersPlace setup body old (Ok (tries.Stayed end)) new =
    FindsSegmentStart setup end.0 old new × HasLocks every_lock new
AnswersPlace setup body old (Err e) new =
    TellsNoPlace setup body old new e × HasLocks every_lock new

-- ---- the answer

-- switch: the log's setup, the record, the pass's view before it, the answer, and the view after it
abbrev pub AnswersSwitch : Setup → Assembled → View → Result Switch InsertErr → View → Type 0
AnswersSwitch setup body old (Ok (Done start end)) new =
    IsSwitchDone setup body old new start.0 end.0
AnswersSwitch setup body old (Ok (Stayed end)) new = FindsSegmentStart setup end.0 old new
AnswersSwitch setup body old (Err e) new = RefusesSwitch setup body old new e
