-- What an append comes to, and a record in flight between two calls.
use Rattle.std.specs.Prelude.{◌≡◌, ℕ, IfSome, Some}
use mathlib.Core.Option.{some}
use Rattle.hosted_disk.specs.declared.disk.HostedDisk.{HostedDisk}
use Rattle.wal_spelling.specs.Spelling.{Assembled}
use Rattle.wal_page.specs.Order.{Entry, finish_of, start_of}
use Rattle.wal_types.specs.declared.answers.Receipt.{Receipt}
use Rattle.machine_state.specs.declared.setup.Setup.{Setup}
use Rattle.machine_state.specs.Views.{View}
use Rattle.wal_rule.specs.Downs.{KnowsDown}
use Rattle.wal_rule.specs.Passes.{view_of_pass}
use Rattle.wal_log.specs.declared.in_flight.Inflight.{Inflight}
use Rattle.wal_log.specs.declared.wal.Wal.{Wal}
use Rattle.wal_log.specs.Beginning.{TellsBeginTry}
use Rattle.wal_log.specs.Flights.{IsInFlightOf, view_of_flight}
use Rattle.wal_log.specs.Inserting.{HasReserved}
use Rattle.wal_log.specs.Logs.{IsPassOfLog, setup_of_log}
use Rattle.wal_log.specs.PassLogs.{log_of_pass}
use Rattle.wal_log.specs.Standing.{KeepsPass, entry_in_flight}
use Rattle.wal_log.specs.Whole.{CopiesWhole}
use Rattle.embedded_log.specs.declared.appending.Append.{Append}
use Rattle.embedded_log.specs.declared.appending.Append.TheVariants.{Down, Going, Refused, Reserved}
use Rattle.embedded_log.specs.declared.appending.Appending.{Appending}
use Rattle.embedded_log.specs.declared.session.LogSession.{LogSession}
use Rattle.embedded_log.specs.Promised.{IsPromisedHard}
use Rattle.embedded_log.specs.Sessions.{GoesOnOpen, HasSeenEnd, setup_of_session, view_of_helper, view_of_session}

-- the record was reserved, each of its words was copied, and the places told are its entry's
pub record IsAppended (setup : Setup) (body : Assembled) (old new : View) (receipt : Receipt)
    : Type 0 where
  pub entry : Entry
  pub reserved : HasReserved setup body old new entry
  pub copied : CopiesWhole old new entry
  pub start_is : receipt.start.0 ≡ start_of setup.seg_size entry
  pub end_is : receipt.end.0 ≡ finish_of setup.seg_size entry

-- the record was reserved, and is copied by this flight
pub record IsBegunBy (setup : Setup) (body : Assembled) (old : View) (flight : Inflight) : Type 0
  where
    pub entry : Entry
    pub reserved : HasReserved setup body old (view_of_flight flight) entry
    pub keeps : KeepsPass old (view_of_flight flight)
    pub in_flight : entry_in_flight (view_of_flight flight) ≡ some entry
    pub start_is : (flight.begun).start.0 ≡ start_of setup.seg_size entry
    pub end_is : (flight.begun).end.0 ≡ finish_of setup.seg_size entry

module _ {H : Type 0} where
  abbrev pub wal_of_appending : Appending H → Wal HostedDisk
  wal_of_appending a = ((a.log).value).wal

  -- between two calls the record is in flight in the log, the helper is about nothing, what is held
  -- back was promised, and the pass has seen where the session's last record ends
  pub record IsOpenAppending (a : Appending H) : Type 0 where
    pub flight : IsInFlightOf (wal_of_appending a) a.flight
    pub helper : IsPassOfLog (wal_of_appending a) a.helper
    pub pending : IfSome a.pending
        (λ hard. IsPromisedHard hard (log_of_pass (view_of_flight a.flight)))
    pub appended : IfSome a.appended
        (λ end. HasSeenEnd (setup_of_log (wal_of_appending a)) end.0
        ((view_of_flight a.flight).reserving).seen)

  -- a session appends this record
  pub record IsGoing (body : Assembled) (old : LogSession H) (a : Appending H) : Type 0 where
    pub same_log : a.log ≡ old.log
    pub kept : IsOpenAppending a
    pub begun : IsBegunBy (setup_of_session old) body (view_of_session old) a.flight
    pub helper : KeepsPass (view_of_helper old) (view_of_pass a.helper)

  -- append: the record, the session before it, and what it came to
  abbrev pub AnswersAppend : Assembled → LogSession H → Append H → Type 0
  AnswersAppend body old (Reserved receipt new) =
      IsAppended (setup_of_session old) body (view_of_session old) (view_of_session new) receipt
      × GoesOnOpen old new × (new.appended ≡ Some receipt.end)
  AnswersAppend body old (Going a) = IsGoing body old a
  AnswersAppend body old (Refused why new) =
      TellsBeginTry (setup_of_session old) body (view_of_session old) (view_of_session new) why
      × GoesOnOpen old new
  AnswersAppend body old (Down new) =
      ((e : Entry) × HasReserved (setup_of_session old) body (view_of_session old)
      (view_of_session new) e)
      × ((faults : ℕ) × KnowsDown faults (view_of_session new)) × GoesOnOpen old new
