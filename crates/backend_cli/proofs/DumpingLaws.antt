-- A listing ends as what it answers says.
use Rattle.std.proofs.Common.{◌≡◌, ℕ, List, [], Option, Some, None, Result, Ok, Err}
use Rattle.std.specs.Prelude.{IfSome}
use Rattle.segment_disk.specs.Tape.{IsNotMade, Tape}
use Rattle.wal_reader.specs.declared.standing.ReadErr.TheVariants.{Memory, Disk, Stopped}
use Rattle.waldump_text.specs.declared.dumping.DumpErr.{DumpErr}
use Rattle.waldump_text.specs.declared.dumping.DumpErr.TheVariants.{Read, Sink}
use Rattle.waldump_text.specs.Dump.{HasDumpCause, IsDump}
use Rattle.cli_line.specs.declared.commands.DumpOptions.{DumpOptions}
use Rattle.backend_cli.specs.Outside.{Outside}
use Rattle.backend_cli.specs.declared.outcome.Outcome.{Outcome}
use Rattle.run_laws.specs.declared.told.Told.{Told}
use Rattle.backend_cli.specs.Dumping.{DumpHolds, ListsDisk, ListingEnds, all, all_before, by_disk, by_sink, ended, front_for_disk, front_for_memory, front_for_sink, outcome_of, stopped, without_memory}

lists_on : (asked : DumpOptions) (outside : Outside) (result : Result ℕ DumpErr) (t : Tape) → IsDump asked.geometry asked.filter outside.taken_before outside.taken_after result t → ListsDisk asked outside (outcome_of result) t
lists_on asked outside (Ok count) t puts = all count puts
lists_on asked outside (Err (Read Memory)) t puts = front_for_memory puts
lists_on asked outside (Err (Read (Disk faults))) t puts = front_for_disk puts
lists_on asked outside (Err (Read (Stopped reason))) t puts = all_before puts
lists_on asked outside (Err (Sink fault)) t puts = front_for_sink puts

pub lists_as : (asked : DumpOptions) (outside : Outside) (result : Result ℕ DumpErr) (tape : Option Tape) → IfSome tape (IsDump asked.geometry asked.filter outside.taken_before outside.taken_after result) → IfSome tape (ListsDisk asked outside (outcome_of result))
lists_as asked outside result None puts = tt
lists_as asked outside result (Some t) puts = lists_on asked outside result t puts

pub ends_as : (outside : Outside) (result : Result ℕ DumpErr) → HasDumpCause outside.disk_before outside.disk_after outside.sink_before outside.sink_after result → ListingEnds outside (outcome_of result)
ends_as outside (Ok count) cause = ended (record { disk = cause.0; sink = cause.1 })
ends_as outside (Err (Read Memory)) cause = without_memory (record { disk = cause.0; sink = cause.1 })
ends_as outside (Err (Read (Disk faults))) cause = by_disk cause.0.0 cause.1
ends_as outside (Err (Read (Stopped reason))) cause = stopped (record { disk = cause.0; sink = cause.1 })
ends_as outside (Err (Sink fault)) cause = by_sink cause.2 cause.0

pub listing_holds : (outside : Outside) (asked : DumpOptions) (result : Result ℕ DumpErr) (outcome : Outcome) (lists : List (List Told)) → outcome ≡ outcome_of result
    → IfSome outside.tape_before (IsDump asked.geometry asked.filter outside.taken_before outside.taken_after result)
    → HasDumpCause outside.disk_before outside.disk_after outside.sink_before outside.sink_after result
    → IsNotMade outside.tape_before outside.tape_after outside.moment_before outside.moment_after
    → outside.source_after ≡ outside.source_before → lists ≡ [] → DumpHolds outside asked outcome lists
listing_holds outside asked result outcome lists is puts cause uncalled unread none = rw is (record {
  listed = lists_as asked outside result outside.tape_before puts;
  ends = ends_as outside result cause;
  uncalled = uncalled;
  unread = unread;
  nothing_told = none;
})
