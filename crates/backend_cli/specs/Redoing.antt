-- What a redo promises.
use Rattle.std.specs.Prelude.{◌≡◌, ℕ, List, [], IfSome}
use Rattle.segment_disk.specs.Tape.{IsNotMade, Tape}
use Rattle.wal_reader.specs.declared.found.Stopped.{Stopped as LogStop}
use Rattle.wal_redo.specs.RedoListing.{ListsNoRedo, ListsRedo, ListsRedoFront}
use Rattle.cli_line.specs.declared.commands.RedoOptions.{RedoOptions}
use Rattle.backend_cli.specs.declared.outcome.Outcome.{Outcome}
use Rattle.backend_cli.specs.declared.outcome.Outcome.TheVariants.{Done, OutOfMemory, DiskFault, Stopped, SinkFault}
use Rattle.run_laws.specs.declared.told.Told.{Told}
use Rattle.backend_cli.specs.Dumping.{ListingEnds}
use Rattle.backend_cli.specs.Outside.{Outside}

-- what a redo printed, by how it may end: a line for each block that the images of the disk's log
-- fill, from the log's start on, and their counts; a front of that; or nothing
pub data RedoesDisk (asked : RedoOptions) (outside : Outside) : Outcome → Tape → Type 0 where
  all : {t : Tape} (images : ℕ)
      → ListsRedo asked.geometry asked.geometry t outside.taken_before outside.taken_after images
      → RedoesDisk asked outside Done t
  front_for_sink : {t : Tape}
      → ListsRedoFront asked.geometry asked.geometry t outside.taken_before outside.taken_after
      → RedoesDisk asked outside SinkFault t
  none_for_stop : {t : Tape} {stop : LogStop}
      → ListsNoRedo asked.geometry asked.geometry t outside.taken_before outside.taken_after stop
      → RedoesDisk asked outside (Stopped stop) t
  none_for_memory : {t : Tape} → outside.taken_after ≡ outside.taken_before
      → RedoesDisk asked outside OutOfMemory t
  none_for_disk : {t : Tape} → outside.taken_after ≡ outside.taken_before
      → RedoesDisk asked outside DiskFault t

-- a redo: what it printed, no counted call of the disk, the script not read, and nothing told
pub record RedoHolds (outside : Outside) (asked : RedoOptions) (outcome : Outcome)
    (lists : List (List Told)) : Type 0 where
  pub redone : IfSome outside.tape_before (RedoesDisk asked outside outcome)
  pub ends : ListingEnds outside outcome
  pub uncalled :
      IsNotMade outside.tape_before outside.tape_after outside.moment_before outside.moment_after
  pub unread : outside.source_after ≡ outside.source_before
  pub nothing_told : lists ≡ []
