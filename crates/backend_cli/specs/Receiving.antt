-- What a receiving promises.
use Rattle.std.specs.Prelude.{◌≡◌, ℕ, ◌⊎◌, List, [], ◌∷◌, codes, Option, IfSome, Result, Ok, Err}
use Rattle.std.specs.Fmt.{decimal}
use Rattle.wal_types.specs.LsnText.{lsn_text}
use Rattle.waldump_text.specs.Put.{Puts, joined}
use Rattle.waldump_text.specs.declared.putting.SinkFault.{SinkFault as SinkFailed}
use Rattle.segment_disk.specs.Tape.{Tape}
use Rattle.found_log.specs.Found.{LeavesUnsettled, RefusesLog}
use Rattle.found_log.specs.declared.fault.FindFault.{FindFault}
use Rattle.found_log.specs.declared.fault.FindFault.TheVariants as finding
use Rattle.run_laws.specs.declared.told.Told.{Told}
use Rattle.wal_stream.specs.Opened.{HasOpenCause, StandsAtFound}
use Rattle.wal_stream.specs.Standby.{standby_disk}
use Rattle.wal_stream.specs.declared.standby.Standby.{Standby}
use Rattle.cli_line.specs.declared.commands.ReceiveOptions.{ReceiveOptions}
use Rattle.wal_stream.specs.Fetched.{SourceState}
use Rattle.wal_stream.specs.Receiving.{Receives}
use Rattle.wal_stream.specs.declared.outcome.ReceivingEnd.{ReceivingEnd}
use Rattle.wal_stream.specs.declared.outcome.ReceivingEnd.TheVariants as ends
use Rattle.wal_stream.specs.declared.outcome.Received.{Received}
use Rattle.backend_cli.specs.Appending.{PrintsNothing}
use Rattle.backend_cli.specs.Outside.{DiskSeen, Outside, SourceView}
use Rattle.backend_cli.specs.declared.outcome.Outcome.{Outcome}
use Rattle.backend_cli.specs.declared.outcome.Outcome.TheVariants.{Done, OutOfMemory, BeyondCap, DiskFault, Stopped, Diverged, TooManyFrames, SourceFault, SinkFault}

-- ---- no standby was opened

-- how a command ends whose standby could not be opened
abbrev pub outcome_unfound : FindFault → Outcome
outcome_unfound finding.Memory = OutOfMemory
outcome_unfound (finding.Disk faults) = DiskFault
outcome_unfound (finding.Beyond segment) = BeyondCap
outcome_unfound (finding.Foreign stop) = Stopped stop

-- why, and what it leaves: nothing is read or printed
pub record IsNotReceived (outside : Outside) (asked : ReceiveOptions) (outcome : Outcome)
    : Type 0 where
  pub fault : FindFault
  pub outcome_is : outcome ≡ outcome_unfound fault
  pub refused : IfSome outside.tape_before
      (RefusesLog asked.geometry asked.cap_segments fault)
  pub unsettled : LeavesUnsettled asked.geometry asked.cap_segments
      outside.tape_before outside.tape_after outside.moment_before outside.moment_after fault
  pub cause : HasOpenCause outside.disk_before outside.disk_after fault
  pub unread : outside.source_after ≡ outside.source_before
  pub unprinted : PrintsNothing outside

-- ---- frames were taken

-- what is told: where the standby's log ends, and what became of the frames
abbrev pub received_text : Received → List ℕ
received_text received =
    joined (codes "received " ∷ lsn_text received.upto.0 ∷ codes " taken " ∷
    decimal received.counts.taken ∷ codes " old " ∷ decimal received.counts.old ∷ codes " gap " ∷
    decimal received.counts.gap ∷ codes " bad " ∷ decimal received.counts.bad ∷ codes "\n" ∷ [])

-- how a command ends that told it to a sink
abbrev pub outcome_put : Result (Unit {0}) SinkFailed → Outcome
outcome_put (Ok done) = Done
outcome_put (Err fault) = SinkFault

-- how it ends, by why no more frames were taken: it is told at the source's end and behind the last
-- frame that is taken, and else nothing is printed
abbrev pub EndsReceived : Option (List ℕ) → Option (List ℕ) → ℕ → ℕ → Received → ReceivingEnd
    → Outcome → Type 0
EndsReceived old new before after received ends.Source outcome =
    (result : Result (Unit {0}) SinkFailed)
    × Puts old new before after (received_text received) result × (outcome ≡ outcome_put result)
EndsReceived old new before after received ends.TooMany outcome =
    (result : Result (Unit {0}) SinkFailed)
    × Puts old new before after (received_text received) result × (outcome ≡ TooManyFrames)
EndsReceived old new before after received (ends.Diverged at) outcome =
    (new ≡ old) × (after ≡ before) × (outcome ≡ Diverged at)
EndsReceived old new before after received ends.SourceFault outcome =
    (new ≡ old) × (after ≡ before) × (outcome ≡ SourceFault)
EndsReceived old new before after received (ends.Disk faults) outcome =
    (new ≡ old) × (after ≡ before) × (outcome ≡ DiskFault)

-- a source's view, as a standby's feeding has it
abbrev pub standby_source : SourceView → SourceState
standby_source view = record {
  left = view.left;
  handed = view.handed;
  ends_told = view.ends_told;
  faults = view.faults;
}

-- a standby took the frames that a source handed out, and it was told so; the disk that comes back
-- is the standby's
pub record FeedsStandby {D : Type 0} (tape : D → Option Tape) (moment faults : D → ℕ)
    (source source_now : SourceState) (first : Standby D) (disk_now : D)
    (old new : Option (List ℕ)) (before after : ℕ) (outcome : Outcome) : Type 0 where
  pub last : Standby D
  pub received : Received
  pub receives : Receives tape moment faults source source_now first last received
  pub disk_is : disk_now ≡ standby_disk last
  pub ends : EndsReceived old new before after received received.ended outcome

-- .. on what the disk had
pub record IsReceived {D : Type 0} (seen : DiskSeen D) (outside : Outside)
    (asked : ReceiveOptions) (outcome : Outcome) : Type 0 where
  pub first : Standby D
  pub opened : StandsAtFound seen.tape seen.moment seen.faults asked.geometry asked.cap_segments
      seen.before first
  pub feeds : FeedsStandby seen.tape seen.moment seen.faults
      (standby_source outside.source_before) (standby_source outside.source_after) first seen.after
      outside.taken_before outside.taken_after outside.sink_before outside.sink_after outcome

-- a receiving: no standby was opened, or it took frames
abbrev pub ReceiveHolds : {D : Type 0} → DiskSeen D → Outside → ReceiveOptions → Outcome
    → List (List Told) → Type 0
ReceiveHolds seen outside asked outcome lists =
    (IsNotReceived outside asked outcome ⊎ IsReceived seen outside asked outcome) × (lists ≡ [])
