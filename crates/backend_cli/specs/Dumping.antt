-- What a listing promises.
use Rattle.std.specs.Prelude.{◌≡◌, ℕ, List, [], IfSome, Result, Ok, Err}
use Rattle.segment_disk.specs.Tape.{IsNotMade, Tape}
use Rattle.wal_reader.specs.declared.found.Stopped.{Stopped as LogStop}
use Rattle.wal_reader.specs.declared.standing.ReadErr.TheVariants as reading
use Rattle.waldump_text.specs.declared.dumping.DumpErr.{DumpErr}
use Rattle.waldump_text.specs.declared.dumping.DumpErr.TheVariants.{Read, Sink}
use Rattle.waldump_text.specs.Dump.{ListsAll, ListsFront, ListsFrontInReading, ListsUpTo}
use Rattle.cli_line.specs.declared.commands.DumpOptions.{DumpOptions}
use Rattle.backend_cli.specs.declared.outcome.Outcome.{Outcome}
use Rattle.backend_cli.specs.declared.outcome.Outcome.TheVariants.{Done, OutOfMemory, DiskFault, Stopped, SinkFault}
use Rattle.run_laws.specs.declared.told.Told.{Told}
use Rattle.segment_disk.specs.Cause.{RoseByOne}
use Rattle.backend_cli.specs.Outside.{Outside}

-- what a listing printed, by how it may end: the lines of the records that the filter lists of
-- those that the disk's log decodes to, with the times of commits where these are asked for, or a
-- front of them; or the statistics of these records, a front of them where the sink failed, and
-- nothing where the log stopped, or memory or the disk failed
pub data ListsDisk (asked : DumpOptions) (outside : Outside) : Outcome → Tape → Type 0 where
  all : {t : Tape} (count : ℕ)
      → ListsAll asked.geometry asked.filter t outside.taken_before outside.taken_after count
      → ListsDisk asked outside Done t
  all_before : {t : Tape} {stop : LogStop}
      → ListsUpTo asked.geometry asked.filter t outside.taken_before outside.taken_after stop
      → ListsDisk asked outside (Stopped stop) t
  front_for_memory : {t : Tape}
      → ListsFrontInReading asked.geometry asked.filter t outside.taken_before outside.taken_after
      → ListsDisk asked outside OutOfMemory t
  front_for_disk : {t : Tape}
      → ListsFrontInReading asked.geometry asked.filter t outside.taken_before outside.taken_after
      → ListsDisk asked outside DiskFault t
  front_for_sink : {t : Tape}
      → ListsFront asked.geometry asked.filter t outside.taken_before outside.taken_after
      → ListsDisk asked outside SinkFault t

-- neither the disk nor the sink counted a fault
pub record NoFaults (outside : Outside) : Type 0 where
  pub disk : outside.disk_after ≡ outside.disk_before
  pub sink : outside.sink_after ≡ outside.sink_before

-- why a listing ends as it may: no fault, one of the disk, or one of the sink
pub data ListingEnds (outside : Outside) : Outcome → Type 0 where
  ended : NoFaults outside → ListingEnds outside Done
  stopped : {stop : LogStop} → NoFaults outside → ListingEnds outside (Stopped stop)
  without_memory : NoFaults outside → ListingEnds outside OutOfMemory
  by_disk : RoseByOne outside.disk_before outside.disk_after
      → outside.sink_after ≡ outside.sink_before → ListingEnds outside DiskFault
  by_sink : outside.disk_after ≡ outside.disk_before
      → RoseByOne outside.sink_before outside.sink_after → ListingEnds outside SinkFault

-- how a listing ends, by what it answers
abbrev pub outcome_of : Result ℕ DumpErr → Outcome
outcome_of (Ok count) = Done
outcome_of (Err (Read reading.Memory)) = OutOfMemory
outcome_of (Err (Read (reading.Disk faults))) = DiskFault
outcome_of (Err (Read (reading.Stopped stop))) = Stopped stop
outcome_of (Err (Sink fault)) = SinkFault

-- a listing: what it printed, no counted call of the disk, the script not read, and nothing told
pub record DumpHolds (outside : Outside) (asked : DumpOptions) (outcome : Outcome)
    (lists : List (List Told)) : Type 0 where
  pub listed : IfSome outside.tape_before (ListsDisk asked outside outcome)
  pub ends : ListingEnds outside outcome
  pub uncalled :
      IsNotMade outside.tape_before outside.tape_after outside.moment_before outside.moment_after
  pub unread : outside.source_after ≡ outside.source_before
  pub nothing_told : lists ≡ []
