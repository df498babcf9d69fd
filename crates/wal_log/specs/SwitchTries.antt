-- What one try of a segment switch answers, and what it leaves of its pass.
use Rattle.std.specs.Prelude.{◌≡◌, ◌≢◌, ℕ, ◌<◌, Result, Ok, Err}
use Rattle.wal_spelling.specs.Spelling.{Assembled}
use Rattle.machine_state.specs.declared.setup.Setup.{Setup}
use Rattle.machine_state.specs.Moves.{with_working}
use Rattle.machine_state.specs.Steps.{IsResting, take_lock}
use Rattle.machine_state.specs.Views.{Landed, View}
use Rattle.wal_rule.specs.declared.pass.Pass.{Pass}
use Rattle.wal_rule.specs.Passes.{view_of_pass}
use Rattle.wal_rule.specs.Stepping.{Meets}
use Rattle.insert_locks.specs.Holding.{lock_run}
use Rattle.insert_locks.specs.Watching.{with_sight}
use Rattle.reserve_lock.specs.declared.reserving.ReserveErr.{ReserveErr}
use Rattle.reserve_lock.specs.declared.reserving.ReserveErr.TheVariants as reserving
use Rattle.reserve_lock.specs.declared.switching.SwitchTry.{SwitchTry}
use Rattle.reserve_lock.specs.declared.switching.SwitchTry.TheVariants as tries
use Rattle.reserve_lock.specs.Reserved.{IsPositionBusy, every_lock}
use Rattle.wal_log.specs.declared.held_locks.Held.TheVariants.{All}
use Rattle.wal_log.specs.declared.switch_tries.SwitchBegun.{SwitchBegun}
use Rattle.wal_log.specs.declared.switch_tries.SwitchBegun.TheVariants.{Going, Stayed}
use Rattle.wal_log.specs.declared.switch_tries.TrySwitchErr.{TrySwitchErr}
use Rattle.wal_log.specs.declared.switch_tries.TrySwitchErr.TheVariants.{Busy, Taken, Full, Down}
use Rattle.wal_log.specs.declared.wal.Wal.{Wal}
use Rattle.wal_log.specs.Beginning.{TriesInVain}
use Rattle.wal_log.specs.Downs.{KnowsNoFault, MeetsDown}
use Rattle.wal_log.specs.Flights.{IsInFlightOf, view_of_flight}
use Rattle.wal_log.specs.Logs.{IsPassOfLog, setup_of_log}
use Rattle.wal_log.specs.PassLogs.{log_of_pass}
use Rattle.wal_log.specs.Standing.{KeepsPass}
use Rattle.wal_log.specs.Switching.{FindsNoRoom, FindsSegmentStart, IsSwitchBegun}

-- a lock was held: this word of it was met by a pass with this view, but that it had the locks
-- below it
pub record FindsLockTaken (lock word : ℕ) (v : View) : Type 0 where
  pub low : lock < 8
  pub some : word ≢ 0
  pub met : Meets (with_working (lock_run 0 lock) Landed v) (take_lock lock) word

-- the position was met locked, or met as another one where it was to be locked. The view that met
-- it is the one behind the call, but that it had all locks, and had seen no more than before
abbrev pub FindsPositionTaken : (seen : ℕ) → (old new : View) → Type 0
FindsPositionTaken seen old new = IsPositionBusy seen
    (with_working every_lock Landed (with_sight (old.reserving).seen new))
    (with_working every_lock Landed new)

-- why no switch was reserved
abbrev pub TellsSwitchTry : Setup → Assembled → View → View → TrySwitchErr → Type 0
TellsSwitchTry setup body old new (Busy seen) =
    FindsPositionTaken seen old new × TriesInVain old new
TellsSwitchTry setup body old new (Taken lock word) =
    FindsLockTaken lock.0 word new × TriesInVain old new
TellsSwitchTry setup body old new (Full free) =
    FindsNoRoom setup body free old new × KnowsNoFault new
TellsSwitchTry setup body old new (Down faults) =
    MeetsDown faults old new × (log_of_pass new ≡ log_of_pass old)

-- why it was not under all locks
abbrev pub switch_err_of_reserve : ReserveErr → TrySwitchErr
switch_err_of_reserve (reserving.Busy seen) = Busy seen
switch_err_of_reserve (reserving.Full free) = Full free

-- the try of a seated pass: the log's setup, the record, the pass's view before it, the answer, and
-- the view after it; where nothing was reserved the pass is about nothing
abbrev pub TriesSwitch : Setup → Assembled → View → Result SwitchTry TrySwitchErr → View → Type 0
TriesSwitch setup body old (Ok (tries.Switched r)) new = IsSwitchBegun setup body old new r
TriesSwitch setup body old (Ok (tries.Stayed end)) new =
    FindsSegmentStart setup end.0 old new × IsResting new
TriesSwitch setup body old (Err e) new = TellsSwitchTry setup body old new e × IsResting new

-- try_switch: the log, the record, the pass's view before it, and the answer
abbrev pub AnswersTrySwitch : {D : Type 0} → Wal D → Assembled → View
    → Result SwitchBegun (TrySwitchErr × Pass) → Type 0
AnswersTrySwitch wal body old (Ok (Going flight)) = IsInFlightOf wal flight
    × ((flight.held ≡ All)
    × IsSwitchBegun (setup_of_log wal) body old (view_of_flight flight) flight.begun)
    × KeepsPass old (view_of_flight flight)
AnswersTrySwitch wal body old (Ok (Stayed end pass)) = IsPassOfLog wal pass
    × FindsSegmentStart (setup_of_log wal) end.0 old (view_of_pass pass)
    × KeepsPass old (view_of_pass pass)
AnswersTrySwitch wal body old (Err refused) = IsPassOfLog wal refused.1
    × TellsSwitchTry (setup_of_log wal) body old (view_of_pass refused.1) refused.0
    × KeepsPass old (view_of_pass refused.1)
