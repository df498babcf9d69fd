-- What a sending promises.
use Rattle.std.specs.Prelude.{◌≡◌, ℕ, List, [], Result, Ok, Err}
use Rattle.wal_reader.specs.declared.standing.ReadErr.TheVariants as reading
use Rattle.run_laws.specs.declared.told.Told.{Told}
use Rattle.cli_line.specs.declared.commands.SendOptions.{SendOptions}
use Rattle.wal_stream.specs.Sending.{HasSendCause, IsSending}
use Rattle.wal_stream.specs.declared.fault.SendErr.{SendErr}
use Rattle.wal_stream.specs.declared.fault.SendErr.TheVariants.{Read, Sink}
use Rattle.backend_cli.specs.Outside.{Outside}
use Rattle.backend_cli.specs.declared.outcome.Outcome.{Outcome}
use Rattle.backend_cli.specs.declared.outcome.Outcome.TheVariants.{Done, OutOfMemory, DiskFault, Stopped, SinkFault}

-- how a sending ends, by what it answers
abbrev pub outcome_sent : Result ℕ SendErr → Outcome
outcome_sent (Ok count) = Done
outcome_sent (Err (Read reading.Memory)) = OutOfMemory
outcome_sent (Err (Read (reading.Disk faults))) = DiskFault
outcome_sent (Err (Read (reading.Stopped stop))) = Stopped stop
outcome_sent (Err (Sink fault)) = SinkFault

-- a sending: what it printed and called of the disk, by how it ended and why, the script not read,
-- and nothing told
pub record SendHolds (outside : Outside) (asked : SendOptions) (outcome : Outcome)
    (lists : List (List Told)) : Type 0 where
  pub result : Result ℕ SendErr
  pub outcome_is : outcome ≡ outcome_sent result
  pub sent : IsSending asked.geometry asked.from.0 outside.tape_before outside.tape_after
      outside.moment_before outside.moment_after outside.taken_before outside.taken_after result
  pub cause : HasSendCause outside.disk_before outside.disk_after outside.sink_before
      outside.sink_after result
  pub unread : outside.source_after ≡ outside.source_before
  pub nothing_told : lists ≡ []
