-- What reading all records of a disk's log says, of which the segments up to one are there.
use Rattle.std.specs.Prelude.{ℕ, ◌+◌, ◌*◌, ◌%◌, ◌<◌, ◌≤◌, ◌⊎◌, ◌≡◌, List, ◌∷◌, ◌++◌, length, Option, None, IfSome}
use Rattle.byte_position.specs.Position.{end_address_of}
use Rattle.segment_disk.specs.Tape.{Tape}
use Rattle.wal_reader.specs.Cache.{log_of}
use Rattle.wal_reader.specs.Decodes.{Decodes}
use Rattle.wal_reader.specs.declared.found.Answer.{Answer}
use Rattle.wal_reader.specs.declared.found.FoundRecord.{FoundRecord}
use Rattle.written_log_laws.specs.FoundLog.{end_behind, last_start_behind}
use Rattle.found_log.specs.declared.fault.FindFault.{FindFault}
use Rattle.found_log.specs.declared.fault.FindFault.TheVariants.{Memory, Disk, Beyond, Foreign}
use Rattle.found_log.specs.declared.reading.RecordsEnd.{RecordsEnd}
use Rattle.found_log.specs.Found.{EndsWell, IsForeignLog}

-- an address at which records may end: behind a whole word, in segment 1 or in one behind it, and
-- in the segments up to one
pub record MayEndAt (size made address : ℕ) : Type 0 where
  pub position : ℕ
  pub whole : position % 8 ≡ 0
  pub is_end : end_address_of size position ≡ address
  pub from : size ≤ address
  pub upto : address ≤ made * size + size

-- records were read one behind another, and so they end: how many they are, where the last one
-- ends, or where the log starts, and where the last one starts
pub record EndsRecords (size made : ℕ) (records : List FoundRecord) (end : RecordsEnd)
    : Type 0 where
  pub count_is : end.count ≡ length records
  pub end_is : end.end.0 ≡ end_behind size records
  pub last_start_is : end.last_start.0 ≡ last_start_behind 0 records
  pub may_end : MayEndAt size made end.end.0

-- all records were read
pub record IsReadLog (size made : ℕ) (tape : Option Tape) (end : RecordsEnd) : Type 0 where
  pub records : List FoundRecord
  pub ends : EndsRecords size made records end
  pub tells : IfSome tape (EndsWell size records)

-- a record was read that does not end in these segments (none is: its pages are there)
pub record HasRecordOutside (size made : ℕ) (t : Tape) : Type 0 where
  pub before : List FoundRecord
  pub last : FoundRecord
  pub others : List FoundRecord
  pub answer : Answer
  pub decodes : Decodes size (log_of t size) size None (before ++ last ∷ others) answer
  pub outside : (last.head.end.0 < size) ⊎ (made * size + size < last.head.end.0)

-- why a log was not read: it is a foreign one; want of memory and a fault say nothing
abbrev pub IsUnread : ℕ → ℕ → FindFault → Tape → Type 0
IsUnread size made Memory t = Unit {0}
IsUnread size made (Disk faults) t = Unit {0}
IsUnread size made (Beyond segment) t = ⊥
IsUnread size made (Foreign stop) t = IsForeignLog size stop t ⊎ HasRecordOutside size made t
