-- What one try to reserve a record's place answers, and what it leaves of its pass.
use Rattle.std.specs.Prelude.{◌≡◌, ℕ, ◌<◌, Result, Ok, Err, List, [], ◌∷◌}
use mathlib.Core.Option.{some}
use Rattle.wal_spelling.specs.Spelling.{Assembled}
use Rattle.wal_page.specs.Order.{Entry, start_of}
use Rattle.wal_page.specs.Placed.{PlacedState, placed_end}
use Rattle.machine_state.specs.declared.setup.Setup.{Setup}
use Rattle.machine_state.specs.Steps.{IsResting}
use Rattle.machine_state.specs.Views.{View}
use Rattle.reserve_lock.specs.declared.reserving.ReserveErr.{ReserveErr}
use Rattle.reserve_lock.specs.declared.reserving.ReserveErr.TheVariants as reserving
use Rattle.insert_locks.specs.Taking.{AreHeldWords, with_lock}
use Rattle.insert_locks.specs.Watching.{with_sight}
use Rattle.reserve_lock.specs.Reserved.{IsPositionBusy, placed_first}
use Rattle.wal_log.specs.declared.beginning.Begun.{Begun}
use Rattle.wal_log.specs.declared.beginning.TryErr.{TryErr}
use Rattle.wal_log.specs.declared.beginning.TryErr.TheVariants.{Busy, AllHeld, Full, Down}
use Rattle.wal_log.specs.Downs.{KnowsNoFault, MeetsDown}
use Rattle.wal_log.specs.Inserting.{FindsLogFull, HasReserved}
use Rattle.wal_log.specs.PassLogs.{log_of_pass}
use Rattle.wal_log.specs.Standing.{CopiesUnder, entry_in_flight}

-- an entry was reserved, and is copied under these locks, of which all words are left; it starts
-- and ends at these addresses
pub record IsBegunUnder (setup : Setup) (body : Assembled) (locks : List ℕ) (old new : View)
    (start end : ℕ) (placed : PlacedState) : Type 0 where
  pub entry : Entry
  pub reserved : HasReserved setup body old new entry
  pub up : KnowsNoFault new
  pub copies : CopiesUnder setup locks placed new
  pub in_flight : entry_in_flight new ≡ some entry
  pub prev : ℕ
  pub placed_is : placed ≡ placed_first setup body entry.start prev
  pub start_is : start ≡ start_of setup.seg_size entry
  pub end_is : end ≡ placed_end placed

-- so it was under one lock
pub record IsPlaceBegun (setup : Setup) (body : Assembled) (old new : View) (begun : Begun)
    : Type 0 where
  pub lock_low : begun.lock.0 < 8
  pub place : IsBegunUnder setup body (begun.lock.0 ∷ []) old new begun.start.0 begun.end.0
      begun.placed

-- the position was met locked, or met as another one where it was to be locked. The view that met
-- it is the one behind the call, but that it had an insertion lock, and had seen no more than
-- before the call
pub record IsFoundBusy (seen : ℕ) (old new : View) : Type 0 where
  pub lock : ℕ
  pub busy : IsPositionBusy seen (with_lock lock (with_sight (old.reserving).seen new))
      (with_lock lock new)

-- a try added nothing to the pass's log, where the disk had not failed
pub record TriesInVain (old new : View) : Type 0 where
  pub up : KnowsNoFault new
  pub log_is : log_of_pass new ≡ log_of_pass old

-- why nothing was reserved
abbrev pub TellsBeginTry : Setup → Assembled → View → View → TryErr → Type 0
TellsBeginTry setup body old new (Busy seen) = IsFoundBusy seen old new × TriesInVain old new
TellsBeginTry setup body old new (AllHeld seen) = AreHeldWords new seen × TriesInVain old new
TellsBeginTry setup body old new (Full free) =
    FindsLogFull setup body free old new × KnowsNoFault new
TellsBeginTry setup body old new (Down faults) =
    MeetsDown faults old new × (log_of_pass new ≡ log_of_pass old)

-- what a try answers: the log's setup, the record, the pass's view before it, the answer, and the
-- view after it; where nothing was reserved the pass is about nothing
abbrev pub AnswersBeginTry : Setup → Assembled → View → Result Begun TryErr → View → Type 0
AnswersBeginTry setup body old (Ok begun) new = IsPlaceBegun setup body old new begun
AnswersBeginTry setup body old (Err e) new = TellsBeginTry setup body old new e × IsResting new

-- why the place was not reserved under the lock
abbrev pub try_err_of_reserve : ReserveErr → TryErr
try_err_of_reserve (reserving.Busy seen) = Busy seen
try_err_of_reserve (reserving.Full free) = Full free

-- what is answered where the pass knows of a failed disk
abbrev pub try_err_known_down : ℕ → TryErr
try_err_known_down faults = Down faults
