-- A record in flight, which its caller copies: what it is, and what each call leaves of it.
use Rattle.std.specs.Prelude.{◌≡◌, ℕ, ◌<◌, Result, Ok, Err, [], ◌∷◌}
use mathlib.Core.Option.{some}
use Rattle.wal_spelling.specs.Spelling.{Assembled}
use Rattle.wal_types.specs.declared.answers.Receipt.{Receipt}
use Rattle.wal_page.specs.Order.{Entry, start_of}
use Rattle.wal_page.specs.Placed.{placed_end}
use Rattle.machine_state.specs.declared.setup.Setup.{Setup}
use Rattle.machine_state.specs.Steps.{load_down}
use Rattle.machine_state.specs.Views.{View}
use Rattle.wal_rule.specs.declared.pass.Pass.{Pass}
use Rattle.wal_rule.specs.Passes.{view_of_pass}
use Rattle.wal_rule.specs.Stepping.{Meets}
use Rattle.wal_rule.specs.Tables.{IsPassOn}
use Rattle.insert_locks.specs.declared.numbers.LockNo.{LockNo}
use Rattle.insert_locks.specs.Holding.{AreLocks}
use Rattle.wal_log.specs.declared.beginning.TryErr.{TryErr}
use Rattle.wal_log.specs.declared.held_locks.Held.TheVariants.{One}
use Rattle.wal_log.specs.declared.in_flight.Inflight.{Inflight}
use Rattle.wal_log.specs.declared.wal.Wal.{Wal}
use Rattle.wal_log.specs.Beginning.{IsBegunUnder, TellsBeginTry}
use Rattle.wal_log.specs.Downs.{KnowsNoFault, MeetsDown}
use Rattle.wal_log.specs.HeldLocks.{locks_of}
use Rattle.wal_log.specs.Logs.{IsPassOfLog, setup_of_log, table_of}
use Rattle.wal_log.specs.PassLogs.{log_of_pass}
use Rattle.wal_log.specs.Standing.{CopiesUnder, KeepsPass, entry_in_flight}
use Rattle.wal_log.specs.Whole.{CopiesWhole}

-- what its pass knows and is about
abbrev pub view_of_flight : Inflight → View
view_of_flight flight = view_of_pass flight.pass

-- its pass is one of the log, and copies an entry under its locks, of which these words are left;
-- it starts and ends at these addresses
pub record IsInFlightOf {D : Type 0} (wal : Wal D) (flight : Inflight) : Type 0 where
  pub of_log : IsPassOn (table_of wal) flight.pass
  pub are : AreLocks (locks_of flight.held)
  pub copies : CopiesUnder (setup_of_log wal) (locks_of flight.held) (flight.begun).placed
      (view_of_flight flight)
  pub start_is : (flight.begun).start.0
      ≡ start_of (setup_of_log wal).seg_size (copies.copy).entry
  pub end_is : (flight.begun).end.0 ≡ placed_end (flight.begun).placed

-- a call leaves a pass its number and what it had seen, and its log
pub record KeepsLog (old new : View) : Type 0 where
  pub keeps : KeepsPass old new
  pub log : log_of_pass new ≡ log_of_pass old

-- of the record at most the next word has moved, and its entry is the one in flight
pub record StaysInFlight (old new : Inflight) : Type 0 where
  pub same : new ≡ record old {
    pass = new.pass;
    begun = record old.begun { placed = (new.begun).placed };
  }
  pub entry : entry_in_flight (view_of_flight new) ≡ entry_in_flight (view_of_flight old)
  pub pass : KeepsLog (view_of_flight old) (view_of_flight new)

-- an entry was reserved under one lock, and is copied by this flight, with all words left
pub record BeginsFlight (setup : Setup) (body : Assembled) (old : View) (flight : Inflight) : Type 0
  where
    pub lock : LockNo
    pub one : flight.held ≡ One lock
    pub place : IsBegunUnder setup body (lock.0 ∷ []) old (view_of_flight flight)
        (flight.begun).start.0 (flight.begun).end.0 (flight.begun).placed

-- try_begin: the log, the record, the pass's view before it, and the answer
abbrev pub AnswersTryBegin : {D : Type 0} → Wal D → Assembled → View
    → Result Inflight (TryErr × Pass) → Type 0
AnswersTryBegin wal body old (Ok flight) = IsInFlightOf wal flight
    × BeginsFlight (setup_of_log wal) body old flight
    × KeepsPass old (view_of_flight flight)
AnswersTryBegin wal body old (Err refused) = IsPassOfLog wal refused.1
    × TellsBeginTry (setup_of_log wal) body old (view_of_pass refused.1) refused.0
    × KeepsPass old (view_of_pass refused.1)

-- a record in flight was whole, its locks are given back, and its places are told
pub record Finishes {D : Type 0} (wal : Wal D) (flight : Inflight) (receipt : Receipt)
    (pass : Pass) : Type 0 where
  pub pass_is : IsPassOfLog wal pass
  pub none_left : (flight.begun).placed.next ≡ placed_end (flight.begun).placed
  pub entry : Entry
  pub in_flight : entry_in_flight (view_of_flight flight) ≡ some entry
  pub whole : CopiesWhole (view_of_flight flight) (view_of_pass pass) entry
  pub start_is : receipt.start ≡ (flight.begun).start
  pub end_is : receipt.end ≡ (flight.begun).end
  pub keeps : KeepsLog (view_of_flight flight) (view_of_pass pass)

-- finish: the log, the record in flight, and the answer
abbrev pub AnswersFinish : {D : Type 0} → Wal D → Inflight → Result (Receipt × Pass) Inflight
    → Type 0
AnswersFinish wal flight (Ok done) = Finishes wal flight done.0 done.1
AnswersFinish wal flight (Err back) = (back ≡ flight)
    × ((flight.begun).placed.next < placed_end (flight.begun).placed)

-- the down value was met, and the copy given up: the pass is about nothing
pub record GivesUpCopy {D : Type 0} (wal : Wal D) (flight : Inflight) (pass : Pass) : Type 0 where
  pub pass_is : IsPassOfLog wal pass
  pub faults : ℕ
  pub met : Meets (view_of_flight flight) load_down faults
  pub down : MeetsDown faults (view_of_flight flight) (view_of_pass pass)
  pub keeps : KeepsLog (view_of_flight flight) (view_of_pass pass)

-- none was met, and the record is handed back as it was
pub record IsHandedBack {D : Type 0} (wal : Wal D) (flight back : Inflight) : Type 0 where
  pub flight_is : IsInFlightOf wal back
  pub same : back ≡ record flight { pass = back.pass }
  pub entry : entry_in_flight (view_of_flight back) ≡ entry_in_flight (view_of_flight flight)
  pub met : Meets (view_of_flight flight) load_down 0
  pub up : KnowsNoFault (view_of_flight back)
  pub keeps : KeepsLog (view_of_flight flight) (view_of_flight back)

-- give_up: the log, the record in flight, and the answer
abbrev pub AnswersGiveUp : {D : Type 0} → Wal D → Inflight → Result Pass Inflight → Type 0
AnswersGiveUp wal flight (Ok pass) = GivesUpCopy wal flight pass
AnswersGiveUp wal flight (Err back) = IsHandedBack wal flight back
