-- What a run leaves: its log, closed, and what each line was told.
use Rattle.std.specs.Prelude.{ℕ, List, Option}
use Rattle.segment_disk.specs.Tape.{Tape}
use Rattle.wal_rule.specs.Passes.{view_of_pass}
use Rattle.wal_rule.specs.declared.pass.Pass.{Pass}
use Rattle.wal_log.specs.Closing.{ClosesLog}
use Rattle.wal_log.specs.Logs.{opening_of_log, setup_of_log}
use Rattle.wal_log.specs.declared.closing.Closed.{Closed}
use Rattle.wal_log.specs.declared.wal.Wal.{Wal}
use Rattle.run_script.specs.Asked.{AskedLine}
use Rattle.run_laws.specs.Ended.{HasTakenIn}
use Rattle.run_laws.specs.ClosedRuns.{HasFlushedAll}
use Rattle.run_backends.specs.declared.backend.AnsweredLines.{AnsweredLines}
use Rattle.run_backends.specs.Backends.{HaveToldEach, lists_of}

-- the lines of a script's backends were played over a log, each was told an answer, and the log was
-- closed by its first pass, which had taken in those of the backends and flushed last
pub record HasPlayed {D : Type 0} (tape : D → Option Tape) (moment faults : D → ℕ) (wal : Wal D)
    (script : List (List AskedLine)) (backends : List AnsweredLines)
    (closed : Closed D) : Type 0 where
  pub pass : Pass
  pub closes : ClosesLog tape moment faults wal pass closed
  pub each : HaveToldEach script backends
  pub taken : HasTakenIn (opening_of_log wal)
      (view_of_pass pass) script
      (lists_of backends)
  pub flushed : HasFlushedAll (setup_of_log wal).seg_size (lists_of backends)
      (view_of_pass pass)
