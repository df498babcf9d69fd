-- What was found is the log that the disk was left with, and the log goes on behind it.
use Rattle.std.specs.Prelude.{◌≡◌, ℕ, ◌≤◌, All, List, length, map, take, None}
use Rattle.segment_disk.specs.Tape.{DiskState, Tape}
use Rattle.wal_page.specs.Order.{Entry, IsChained}
use Rattle.wal_page.specs.Log.{log_word}
use Rattle.wal_page.specs.LogPlace.{IsPlace}
use Rattle.wal_reader.specs.Cache.{log_of}
use Rattle.wal_reader.specs.Decodes.{Decodes}
use Rattle.wal_reader.specs.Finds.{FindsRecords}
use Rattle.wal_reader.specs.declared.found.Answer.{Answer}
use Rattle.wal_reader.specs.declared.found.FoundRecord.{FoundRecord}
use Rattle.written_log_laws.specs.FoundLog.{ReadsUntorn, end_behind, last_start_behind}
use Rattle.written_log_laws.specs.Written.{found_of}
use Rattle.found_log.specs.Found.{IsDiskLog}
use Rattle.machine_state.specs.Words.{Opening, found_end}
use Rattle.machine_laws.specs.WholeOrders.{LiesBehind}
use Rattle.reopened_log_laws.specs.WasLeft.{WasLeft}

-- an entry as a restart finds it: no pass's
abbrev pub as_found : Entry → Entry
as_found e = record e { pass = None }

-- entries are an order's first ones but for their passes, and give the log the same words
pub record AreFirstEntries (size sysid : ℕ) (order es : List Entry) : Type 0 where
  pub among : ℕ
  pub within : among ≤ length order
  pub same : es ≡ map as_found (take among order)
  pub words : (address : ℕ)
      → log_word size sysid es address ≡ log_word size sysid (take among order) address

-- nobody's entries that follow each other, and whose records are those that were found of an order,
-- are its first ones
abbrev pub FoundEntriesComeFirst : Type 0
FoundEntriesComeFirst =
    (size sysid count : ℕ) (order es : List Entry) (state : DiskState) (found : List FoundRecord)
    → ReadsUntorn size sysid count order state found → IsChained size es
    → All (λ e. e.pass ≡ None) es → found_of size es ≡ found
    → AreFirstEntries size sysid order es

-- a disk that was left so is read as just these records
abbrev pub LeftLogsAreRead : Type 0
LeftLogsAreRead =
    (size sysid : ℕ) (t : Tape) (found others : List FoundRecord) (answer : Answer)
    → WasLeft size sysid t found → Decodes size (log_of t size) size None others answer
    → others ≡ found

-- nobody's entries that follow each other from the log's start on, whose records the reader finds
-- on a disk
pub record AreFoundEntries (size : ℕ) (t : Tape) (front : List Entry) : Type 0 where
  pub chained : IsChained size front
  pub nobodys : All (λ e. e.pass ≡ None) front
  pub finds : FindsRecords size (log_of t size) size (found_of size front)

-- on a disk that was left so the place at which its log goes on lies behind such entries: those of
-- the records that were left
abbrev pub FoundPlacesLieBehind : Type 0
FoundPlacesLieBehind =
    (opening : Opening) (cap made : ℕ) (t : Tape) (found records : List FoundRecord)
    → WasLeft opening.setup.seg_size opening.setup.sysid t found
    → IsPlace opening.setup.seg_size opening.place
    → found_end opening ≡ end_behind opening.setup.seg_size records
    → opening.place.prev ≡ last_start_behind 0 records
    → IsDiskLog opening.setup.seg_size cap records opening.place made t
    → (front : List Entry) × AreFoundEntries opening.setup.seg_size t front
    × LiesBehind opening front × (found_of opening.setup.seg_size front ≡ found)
    × (records ≡ found)

-- there is one such list of entries
abbrev pub FoundEntriesAreOne : Type 0
FoundEntriesAreOne =
    (size sysid : ℕ) (t : Tape) (found : List FoundRecord) (front other : List Entry)
    → WasLeft size sysid t found → AreFoundEntries size t front → AreFoundEntries size t other
    → front ≡ other
