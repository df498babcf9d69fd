-- One theorem over all lives of a log: a record that was told durable is in the log for ever,
-- through any number of runs, crashes, kills, failed disks and restarts.
use Rattle.std.specs.Prelude.{ℕ, IsTrue, List, [], ◌∷◌, ◌++◌, Some}
use Rattle.byte_position.specs.Geometry.{is_segment_size}
use Rattle.segment_disk.specs.DiskImage.{DiskImage, MayLeave}
use Rattle.segment_disk.specs.Tape.{Tape, state_now}
use Rattle.flush_core.specs.Pages.{HoldsNothing}
use Rattle.wal_page.specs.Order.{Entry}
use Rattle.wal_reader.specs.declared.found.FoundRecord.{FoundRecord}
use Rattle.wal_reader.specs.declared.found.Stopped.{Stopped as LogStop}
use Rattle.wal_reader.specs.Cache.{log_of}
use Rattle.wal_reader.specs.Finds.{FindsRecords}
use Rattle.wal_reader.specs.Pages.{pages_in}
use Rattle.written_log_laws.specs.Torn.{NoTornPass}
use Rattle.run_laws.specs.declared.told.Told.{Told}
use Rattle.reopened_log_laws.specs.FoundFirst.{AreFoundEntries}
use Rattle.reopened_log_laws.specs.Lives.{IsFrontWith}
use Rattle.cli_line.specs.declared.commands.ScriptRunOptions.{ScriptRunOptions}
use Rattle.backend_cli.specs.declared.outcome.Outcome.{Outcome}
use Rattle.backend_cli.specs.declared.outcome.Outcome.TheVariants.{Stopped}
use Rattle.backend_cli.specs.Appending.{AppendHolds, WasLeftSo}
use Rattle.backend_cli.specs.Outside.{Outside}
use Rattle.log_lives_laws.specs.History.{BeginsLog, ContinuesLog, History, IsCalledOn}

pub record KeepsAllHard (size : ℕ) (t : Tape) (order : List Entry) (hard : List FoundRecord)
    : Type 0 where
  -- the reader finds such records on the disk,
  pub reads : (records : List FoundRecord) → FindsRecords size (log_of t size) size records
      → IsFrontWith size order hard records
  -- and on each image that a crash may leave of it, if no torn record passes its CRC there
  pub crash : (image : DiskImage) (records : List FoundRecord) → MayLeave (state_now t) image
      → NoTornPass size (pages_in size image) order
      → FindsRecords size (pages_in size image) size records
      → IsFrontWith size order hard records
  -- The records that it finds on the disk are those of entries, one behind another.
  pub entries : (front : List Entry) × AreFoundEntries size t front
  -- A run that goes on with the log is not refused, whatever stands on the disk;
  pub not_refused : (options : ScriptRunOptions) (outside : Outside) (now : Tape) (stop : LogStop)
      → IsCalledOn size options.run outside t now
      → AppendHolds outside options (Stopped stop) [] → ⊥
  -- where it opens the log, it finds such records, and goes on behind them;
  pub finds : (options : ScriptRunOptions) (outside : Outside) (outcome : Outcome) (now : Tape)
      (told : List Told) (others : List (List Told)) → IsCalledOn size options.run outside t now
      → (holds : AppendHolds outside options outcome (told ∷ others))
      → IsFrontWith size order hard (holds.2).headline.found
  -- and all that such a run promises of a disk that this program left it promises of this one
  pub was_left : WasLeftSo size (Some t)

-- this holds behind each history
abbrev pub ToldRecordsStay : Type 0
ToldRecordsStay =
    (size : ℕ) (t : Tape) (order : List Entry) (hard : List FoundRecord)
    → History size t order hard → KeepsAllHard size t order hard

-- so three lives of a log have all that was told durable in any of them, each of which may have
-- been killed or ended by a crash
abbrev pub ThreeLivesKeepAll : Type 0
ThreeLivesKeepAll =
    (size : ℕ) (a b c d : Tape) (first second third : List Entry)
    (one two three records : List FoundRecord) → IsTrue (is_segment_size size)
    → HoldsNothing (Some a) → BeginsLog size a b first one → ContinuesLog size b c second two
    → ContinuesLog size c d third three → FindsRecords size (log_of d size) size records
    → IsFrontWith size third ((one ++ two) ++ three) records
