-- How a run that opened its log concludes.
use Rattle.std.specs.Prelude.{◌≡◌, ℕ, ◌⊎◌, Bool, not, is_ok, List, ◌++◌, Option, Some, None, Result, if◌then◌else◌}
use Rattle.segment_disk.specs.Tape.{Tape}
use Rattle.wal_page.specs.Order.{rooms_of}
use Rattle.machine_state.specs.Words.{found_position}
use Rattle.wal_log.specs.Logs.{opening_of_log}
use Rattle.wal_log.specs.declared.closing.Closed.{Closed}
use Rattle.wal_log.specs.declared.wal.Wal.{Wal}
use Rattle.run_script.specs.Asked.{AskedLine}
use Rattle.waldump_text.specs.Put.{Puts}
use Rattle.waldump_text.specs.declared.putting.SinkFault.{SinkFault}
use Rattle.run_laws.specs.declared.told.Told.{Told}
use Rattle.run_laws.specs.Told.{IsFullAnswer, SomeTold, order_from}
use Rattle.run_backends.specs.Backends.{lists_of}
use Rattle.run_backends.specs.Playing.{HasPlayed}
use Rattle.run_backends.specs.declared.backend.AnsweredLines.{AnsweredLines}
use Rattle.cli_line.specs.declared.commands.RunOptions.{RunOptions}
use Rattle.backend_cli.specs.declared.outcome.Outcome.{Outcome}
use Rattle.backend_cli.specs.declared.outcome.Outcome.TheVariants.{Done, DiskFault, LogFull, SinkFault as SinkFailed}
use Rattle.backend_cli.specs.declared.printing.Summary.{Summary}
use Rattle.backend_cli.specs.Printing.{Summarizes, printed_text}

-- a disk's fault, else a full log, else a failed print, else all is done
abbrev pub Concludes : Option ℕ → List (List Told) → Bool → Outcome → Type 0
Concludes (Some down) lists failed outcome = outcome ≡ DiskFault
Concludes None lists failed outcome =
    (SomeTold IsFullAnswer lists × (outcome ≡ LogFull))
    ⊎ ((SomeTold IsFullAnswer lists → ⊥)
    × (outcome ≡ (if failed then SinkFailed else Done)))

-- a run of these backends, whose log had so many bytes for records taken up behind a position, and
-- was left by this fault of its disk, was printed behind a text and ended so
pub record IsConcluded (size from used : ℕ) (list : Bool) (text : List ℕ)
    (backends : List AnsweredLines) (down : Option ℕ) (taken_before taken_after : Option (List ℕ))
    (sink_before sink_after : ℕ) (outcome : Outcome) : Type 0 where
  pub summary : Summary
  pub summarizes : Summarizes size from used (lists_of backends) summary
  pub printed : Result (Unit {0}) SinkFault
  pub puts : Puts taken_before taken_after sink_before sink_after
      (text ++ printed_text list backends summary) printed
  pub concludes : Concludes down (lists_of backends) (not (is_ok printed)) outcome

-- the lines of a script's backends were played over a log that was opened, what they were told was
-- printed behind a text of which this had come, and so it ended
pub record HasPlayedOut {D : Type 0} (tape : D → Option Tape) (moment faults : D → ℕ) (log : Wal D)
    (options : RunOptions) (script : List (List AskedLine)) (begun : Result (Unit {0}) SinkFault)
    (taken_between taken_after : Option (List ℕ)) (sink_between sink_after : ℕ)
    (outcome : Outcome) (disk : D) (lists : List (List Told)) : Type 0 where
  pub backends : List AnsweredLines
  pub closed : Closed D
  pub played : HasPlayed tape moment faults log script backends closed
  pub concluded : (taken_before : Option (List ℕ)) (sink_before : ℕ) (text : List ℕ)
      → Puts taken_before taken_between sink_before sink_between text begun
      → IsConcluded options.geometry (found_position (opening_of_log log))
      (rooms_of options.geometry (order_from options.geometry 1 script (lists_of backends)))
      options.list text backends closed.down taken_before taken_after sink_before sink_after
      outcome
  pub disk_is : disk ≡ closed.disk
  pub lists_are : lists ≡ lists_of backends
