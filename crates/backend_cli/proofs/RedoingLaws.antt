-- A redo ends as what it answers says.
use Rattle.std.proofs.Common.{◌≡◌, ℕ, List, [], Option, Some, None, Result, Ok, Err}
use Rattle.std.specs.Prelude.{IfSome}
use Rattle.segment_disk.specs.Tape.{IsNotMade, Tape}
use Rattle.wal_reader.specs.declared.standing.ReadErr.TheVariants.{Memory, Disk, Stopped}
use Rattle.waldump_text.specs.declared.dumping.DumpErr.{DumpErr}
use Rattle.waldump_text.specs.declared.dumping.DumpErr.TheVariants.{Read, Sink}
use Rattle.waldump_text.specs.Dump.{HasDumpCause}
use Rattle.wal_redo.specs.RedoListing.{IsRedoListing}
use Rattle.cli_line.specs.declared.commands.RedoOptions.{RedoOptions}
use Rattle.backend_cli.specs.Outside.{Outside}
use Rattle.backend_cli.specs.declared.outcome.Outcome.{Outcome}
use Rattle.run_laws.specs.declared.told.Told.{Told}
use Rattle.backend_cli.specs.Dumping.{outcome_of}
use Rattle.backend_cli.specs.Redoing.{RedoHolds, RedoesDisk, all, front_for_sink, none_for_disk, none_for_memory, none_for_stop}
use Rattle.backend_cli.proofs.DumpingLaws.{ends_as}

redoes_on : (asked : RedoOptions) (outside : Outside) (result : Result ℕ DumpErr) (t : Tape) → IsRedoListing asked.geometry asked.geometry outside.taken_before outside.taken_after result t → RedoesDisk asked outside (outcome_of result) t
redoes_on asked outside (Ok images) t puts = all images puts
redoes_on asked outside (Err (Read Memory)) t puts = none_for_memory puts
redoes_on asked outside (Err (Read (Disk faults))) t puts = none_for_disk puts
redoes_on asked outside (Err (Read (Stopped reason))) t puts = none_for_stop puts
redoes_on asked outside (Err (Sink fault)) t puts = front_for_sink puts

redoes_as : (asked : RedoOptions) (outside : Outside) (result : Result ℕ DumpErr) (tape : Option Tape) → IfSome tape (IsRedoListing asked.geometry asked.geometry outside.taken_before outside.taken_after result) → IfSome tape (RedoesDisk asked outside (outcome_of result))
redoes_as asked outside result None puts = tt
redoes_as asked outside result (Some t) puts = redoes_on asked outside result t puts

pub redo_holds : (outside : Outside) (asked : RedoOptions) (result : Result ℕ DumpErr) (outcome : Outcome) (lists : List (List Told)) → outcome ≡ outcome_of result
    → IfSome outside.tape_before (IsRedoListing asked.geometry asked.geometry outside.taken_before outside.taken_after result)
    → HasDumpCause outside.disk_before outside.disk_after outside.sink_before outside.sink_after result
    → IsNotMade outside.tape_before outside.tape_after outside.moment_before outside.moment_after
    → outside.source_after ≡ outside.source_before → lists ≡ [] → RedoHolds outside asked outcome lists
redo_holds outside asked result outcome lists is puts cause uncalled unread none = rw is (record {
  redone = redoes_as asked outside result outside.tape_before puts;
  ends = ends_as outside result cause;
  uncalled = uncalled;
  unread = unread;
  nothing_told = none;
})
