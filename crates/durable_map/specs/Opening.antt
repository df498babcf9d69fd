-- What an opening answers: the map of the changes that a disk's log says.
use Rattle.std.specs.Prelude.{◌≡◌, ℕ, List, [], ◌∷◌, ◌++◌, Option, Some, None, IfSome, Result, Ok, Err}
use Rattle.byte_position.specs.Geometry.{IsSegmentSize}
use Rattle.segment_disk.specs.Cause.{RoseByOne}
use Rattle.segment_disk.specs.Tape.{IsUncalled, Tape}
use Rattle.machine_state.specs.declared.setup.Setup.{Setup}
use Rattle.wal_log.specs.declared.reopening.Found.{Found}
use Rattle.wal_log.specs.Reopening.{IsReopened, TellsReopenFault}
use Rattle.wal_reader.specs.Cache.{log_of}
use Rattle.wal_reader.specs.Decodes.{Decodes}
use Rattle.wal_reader.specs.declared.found.Answer.{Answer}
use Rattle.wal_reader.specs.declared.found.FoundRecord.{FoundRecord}
use Rattle.wal_reader.specs.declared.standing.ReadErr.{ReadErr}
use Rattle.wal_reader.specs.declared.standing.ReadErr.TheVariants as reading
use Rattle.wal_reader.specs.declared.standing.Step.{Step}
use Rattle.wal_reader.specs.declared.standing.Step.TheVariants as steps
use Rattle.wal_reader.specs.Standings.{found_as}
use Rattle.durable_map.specs.Changes.{MapChange}
use Rattle.durable_map.specs.Reading.{SaysNoChange}
use Rattle.durable_map.specs.Records.{SaysChange}
use Rattle.durable_map.specs.Stores.{AreOf, Slots}
use Rattle.durable_map.specs.declared.fault.MapFaultKind.{MapFaultKind}
use Rattle.durable_map.specs.declared.fault.MapFaultKind.TheVariants.{Memory, Disk, NoChange, Log}
use Rattle.durable_map.specs.declared.store.DurableMap.{DurableMap}

-- each record says the change at its place
abbrev pub AreSaid : List FoundRecord → List MapChange → Type 0
AreSaid [] [] = Unit {0}
AreSaid [] (change ∷ changes) = ⊥
AreSaid (found ∷ others) [] = ⊥
AreSaid (found ∷ others) (change ∷ changes) =
    SaysChange found.value change × AreSaid others changes

-- these are all records of a disk's log
pub record IsAllOfLog (size : ℕ) (records : List FoundRecord) (t : Tape) : Type 0 where
  pub answer : Answer
  pub decodes : Decodes size (log_of t size) size None records answer

-- all records were read, each of which says a change, and the entries are the map of these
pub record AreRead (size : ℕ) (tape : Option Tape) (entries : Slots) : Type 0 where
  pub records : List FoundRecord
  pub changes : List MapChange
  pub said : AreSaid records changes
  pub held : AreOf changes entries
  pub whole : IfSome tape (IsAllOfLog size records)

-- so it was, if segments can have this size
abbrev pub WasRead : ℕ → Option Tape → Type 0
WasRead size tape = IsSegmentSize size → (entries : Slots) × AreRead size tape entries

-- the first record of a disk's log that says no change starts at an address
pub record HasNoChangeAt (size at : ℕ) (t : Tape) : Type 0 where
  pub before : List FoundRecord
  pub earlier : List MapChange
  pub said : AreSaid before earlier
  pub found : FoundRecord
  pub others : List FoundRecord
  pub answer : Answer
  pub decodes : Decodes size (log_of t size) size None (before ++ found ∷ others) answer
  pub starts : found.head.start.0 ≡ at
  pub says_none : SaysNoChange found.value

-- ---- reading

-- what a step of reading says: the next record, none where the log ends or stops (what stops it the
-- reopening judges), or why it was not read
abbrev pub next_of : Result Step ReadErr → Result (Option FoundRecord) MapFaultKind
next_of (Ok (steps.Record start end prev total value)) =
    Ok (Some (found_as start end prev total value))
next_of (Ok (steps.End at)) = Ok None
next_of (Err reading.Memory) = Err Memory
next_of (Err (reading.Disk faults)) = Err (Disk faults)
next_of (Err (reading.Stopped stop)) = Ok None

-- why a record was not taken in
abbrev pub RefusesFound : FoundRecord → MapFaultKind → Type 0
RefusesFound found Memory = Unit {0}
RefusesFound found (Disk faults) = ⊥
RefusesFound found (NoChange at) = (at ≡ found.head.start) × SaysNoChange found.value
RefusesFound found (Log kind) = ⊥

-- why a log was not read; the disk's count of faults before and after
abbrev pub TellsReadFault : ℕ → Option Tape → ℕ → ℕ → MapFaultKind → Type 0
TellsReadFault size tape old new Memory = new ≡ old
TellsReadFault size tape old new (Disk told) = RoseByOne old new × (told ≡ new)
TellsReadFault size tape old new (NoChange at) = (new ≡ old) × IfSome tape (HasNoChangeAt size at.0)
TellsReadFault size tape old new (Log kind) = ⊥

-- ---- of a disk

module _ {D : Type 0} (tape : D → Option Tape) (moment faults : D → ℕ) where
  -- a disk was only read, and has not failed
  pub record IsOnlyRead (old new : D) : Type 0 where
    pub uncalled : IsUncalled tape moment old new
    pub unfailed : faults new ≡ faults old

  -- its log was read, and then gone on with; if the disk tells what it holds, the records that were
  -- read are those behind which the log goes on
  pub record OpensMap (setup : Setup) (disk : D) (map : DurableMap D) : Type 0 where
    pub read : AreRead setup.seg_size (tape disk) (map.part).entries
    pub handed : D
    pub only_read : IsOnlyRead disk handed
    pub found : Found
    pub reopened : IsReopened tape moment faults setup handed map.log (map.part).pass found
    pub same : IfSome (tape disk) (λ t. reopened.records ≡ read.records)

  -- why none was opened, and what is left of the disk
  abbrev pub TellsMapFault : Setup → D → D → MapFaultKind → Type 0
  TellsMapFault setup old new Memory = IsOnlyRead old new
  TellsMapFault setup old new (Disk told) = IsUncalled tape moment old new
      × RoseByOne (faults old) (faults new) × (told ≡ faults new)
  TellsMapFault setup old new (NoChange at) = IsOnlyRead old new
      × IfSome (tape old) (HasNoChangeAt setup.seg_size at.0)
  TellsMapFault setup old new (Log kind) = WasRead setup.seg_size (tape old)
      × (handed : D) × IsOnlyRead old handed
      × TellsReopenFault tape moment faults setup handed new kind
