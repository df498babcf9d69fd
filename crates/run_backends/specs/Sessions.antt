-- A backend's pass, what it has between two lines, and the end that is kept beside it.
use Rattle.std.specs.Prelude.{◌⊎◌, ℕ, ◌≤◌, None}
use Rattle.wal_types.specs.declared.answers.Cause.TheVariants as causes
use Rattle.machine_state.specs.Words.{end_form, log_limit}
use Rattle.machine_state.specs.declared.setup.Setup.{Setup}
use Rattle.wal_rule.specs.Downs.{KnowsDown}
use Rattle.wal_rule.specs.Passes.{view_of_pass}
use Rattle.machine_state.specs.Views.{View}
use Rattle.wal_log.specs.Logs.{IsPassOfLog, setup_of_log}
use Rattle.wal_log.specs.Standing.{KeepsPass}
use Rattle.wal_log.specs.declared.flushing.FlushErr.{FlushErr}
use Rattle.wal_log.specs.declared.flushing.FlushErr.TheVariants as flushes
use Rattle.wal_log.specs.declared.wal.Wal.{Wal}
use Rattle.run_script.specs.Asked.{Asked}
use Rattle.run_laws.specs.declared.told.Told.{Told}
use Rattle.run_laws.specs.declared.told.Told.TheVariants.{Refused}
use Rattle.run_laws.specs.Played.{PassState, PlaysLine, end_of_own, pass_state_of}
use Rattle.run_laws.specs.Reached.{EndsBy}
use Rattle.run_backends.specs.declared.session.Session.{Session}

abbrev pub view_of_session : Session → View
view_of_session session = view_of_pass session.pass

-- what a pass has between two lines
abbrev pub state_of_session : Session → PassState
state_of_session session = pass_state_of (view_of_session session)

-- an address is no further than the log's start, or than what a pass has seen reserved
abbrev pub IsReserved : Setup → ℕ → View → Type 0
IsReserved setup address v =
    (address ≤ setup.seg_size) ⊎ (address ≤ end_form setup (v.reserving).seen)

-- the end kept is at or behind that of the pass's own last record, unless the pass knows of a
-- failed disk, and no further than what was reserved
pub record KeepsEnd (setup : Setup) (session : Session) : Type 0 where
  pub own : (end_of_own setup.seg_size ((view_of_session session).reserving).entries
      ≤ session.end.0)
      ⊎ ((faults : ℕ) × KnowsDown faults (view_of_session session))
  pub reserved : IsReserved setup session.end.0 (view_of_session session)

-- a session of a log
pub record IsSessionOf {D : Type 0} (wal : Wal D) (session : Session) : Type 0 where
  pub pass : IsPassOfLog wal session.pass
  pub end : KeepsEnd (setup_of_log wal) session

-- a line that asks for this and is told that, played by a session
abbrev pub PlaysAnswer : {D : Type 0} → Wal D → Asked → Told → Session → Session → Type 0
PlaysAnswer wal asked told old new =
    PlaysLine (setup_of_log wal).seg_size (log_limit (setup_of_log wal))
    ((view_of_session old).reserving).number asked told (state_of_session old)
    (state_of_session new)

-- what an answer leaves of a session besides: its pass keeps what a pass keeps in a call, and an
-- end that is told is no further than the one kept, which never falls
pub record LeavesSession {D : Type 0} (wal : Wal D) (told : Told) (old new : Session) : Type 0 where
  pub session : IsSessionOf wal new
  pub keeps : KeepsPass (view_of_session old) (view_of_session new)
  pub told_end : EndsBy new.end.0 told
  pub rises : old.end.0 ≤ new.end.0

-- what a line is told whose flush was refused; none is found unreserved
abbrev pub told_of_flush_err : FlushErr → Told
told_of_flush_err (flushes.Disk faults) = Refused (causes.Disk faults) None
told_of_flush_err (flushes.Down faults) = Refused (causes.Down faults) None
told_of_flush_err (flushes.Unreserved found) = Refused (causes.Down 0) None
