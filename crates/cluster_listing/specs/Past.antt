-- What a log gives to a reader that goes on behind records that were overwritten, and passes over
-- those with compressed images.
use Rattle.std.specs.Prelude.{◌≡◌, ℕ, ◌+◌, ◌*◌, ◌/◌, ◌^◌, min, List, [], ◌∷◌, ◌++◌, Option, Some, None, option_map, Result, Ok, Err}
use Rattle.segment_disk.specs.Tape.{Tape}
use Rattle.wal_types.specs.declared.lsn.Lsn.{Lsn}
use Rattle.wal_reader.specs.Cache.{log_of}
use Rattle.wal_types.specs.declared.record.Record.{Record}
use Rattle.wal_reader.specs.Decodes.{place_behind}
use Rattle.wal_reader.specs.Filled.{found_with}
use Rattle.wal_reader.specs.LogReader.{GivesRecords, Knows, ReaderState, reader_state}
use Rattle.wal_reader.specs.PageCursor.{IsLogOf}
use Rattle.wal_reader.specs.Pages.{Pages}
use Rattle.wal_reader.specs.PassingOver.{place_again, stored_at}
use Rattle.wal_reader.specs.Standings.{HasReadCause}
use Rattle.wal_reader.specs.declared.log_reader.Reader.{Reader}
use Rattle.wal_reader.specs.declared.standing.Standing.TheVariants.{At}
use Rattle.waldump_text.specs.Listing.{IsListable, listed_of}
use Rattle.wal_reader.specs.SoFar.{unbegun}
use Rattle.wal_reader.specs.declared.found.Answer.{Answer}
use Rattle.wal_reader.specs.declared.found.Answer.TheVariants as answers
use Rattle.wal_reader.specs.declared.found.FoundRecord.{FoundRecord}
use Rattle.wal_reader.specs.declared.found.Stopped.{Stopped as LogStop}
use Rattle.wal_reader.specs.declared.found.Stopped.TheVariants as stops
use Rattle.wal_reader.specs.declared.standing.ReadErr.{ReadErr}
use Rattle.wal_reader.specs.declared.standing.ReadErr.TheVariants as reading
use Rattle.wal_reader.specs.declared.standing.Comes.{Comes}
use Rattle.wal_reader.specs.declared.standing.Comes.TheVariants as coming
use Rattle.waldump_filter.specs.declared.Filter.{Filter}
use Rattle.cluster_listing.specs.declared.walking.Past.{Past}
use Rattle.cluster_listing.specs.declared.walking.Past.TheVariants as pasts

-- where the page begins that stands behind the one of an address; none ends above address 2 ^ 60
abbrev pub page_behind : ℕ → ℕ
page_behind address = min (address / 8192 + 1) (2 ^ 47) * 8192

-- what reading ends at: all but a record with compressed images, and one that was overwritten
abbrev pub IsLast : Answer → Type 0
IsLast (answers.End at) = Unit {0}
IsLast (answers.Stopped (stops.Damaged at kind)) = Unit {0}
IsLast (answers.Stopped (stops.Compressed at)) = ⊥
IsLast (answers.Stopped (stops.Overwritten at)) = ⊥

-- a reader behind a record that was read again as it is stored
abbrev pub behind_stored : Pages → ReaderState → ℕ → FoundRecord → ReaderState
behind_stored pages state at stored =
    record state {
      standing = At (place_behind state.size pages (place_again state.size at) stored);
    }

-- what a reader gives of pages: these records and then this answer, or where none is told, at least
-- these records. Behind an overwritten record it begins again, on the page behind the one in which
-- that record starts; one with compressed images is given as it is stored, and reading goes on
-- behind it
pub data GivesPast (pages : Pages) : ReaderState → List FoundRecord → Option Answer → Type 0 where
  gives_all : (state : ReaderState) (found : List FoundRecord) (answer : Answer)
      → GivesRecords pages state found answer → IsLast answer
      → GivesPast pages state found (Some answer)
  gives_front : (state : ReaderState) (found others : List FoundRecord) (answer : Answer)
      → GivesRecords pages state (found ++ others) answer → GivesPast pages state found None
  gives_behind : (state : ReaderState) (found others : List FoundRecord) (at : Lsn)
      (told : Option Answer)
      → GivesRecords pages state found (answers.Stopped (stops.Overwritten at))
      → GivesPast pages (unbegun state.size (page_behind at.0) state.end) others told
      → GivesPast pages state (found ++ others) told
  gives_stored : (state : ReaderState) (found others : List FoundRecord) (at : Lsn)
      (stored : FoundRecord) (told : Option Answer)
      → GivesRecords pages state found (answers.Stopped (stops.Compressed at))
      → stored_at state.size pages state.end (place_again state.size at.0) ≡ Ok stored
      → GivesPast pages (behind_stored pages state at.0 stored) others told
      → GivesPast pages state (found ++ stored ∷ others) told
  gives_unstored : (state : ReaderState) (found : List FoundRecord) (at : Lsn) (answer : Answer)
      → GivesRecords pages state found (answers.Stopped (stops.Compressed at))
      → stored_at state.size pages state.end (place_again state.size at.0) ≡ Err answer
      → GivesPast pages state found (Some answer)

-- the address at which a filter has reading end, where it gives one
abbrev pub end_of : Filter → Option ℕ
end_of by = option_map (λ (end : Lsn). end.0) by.end

-- a reader by a filter, before it has begun
abbrev pub reader_by : ℕ → Filter → ReaderState
reader_by size by = unbegun size by.start.0 (end_of by)

-- what a disk's log gives so, from a filter's start up to its end
abbrev pub DecodesPast : ℕ → Filter → Tape → List FoundRecord → Option Answer → Type 0
DecodesPast size by t found told = GivesPast (log_of t size) (reader_by size by) found told

-- where a reader goes on that has stopped, or why it does not
abbrev pub goes_on_behind : LogStop → Result Lsn ReadErr
goes_on_behind (stops.Damaged at kind) = Err (reading.Stopped (stops.Damaged at kind))
goes_on_behind (stops.Compressed at) = Err (reading.Stopped (stops.Compressed at))
goes_on_behind (stops.Overwritten at) = Ok (record { 0 = page_behind at.0 })

abbrev pub goes_on_at : ReadErr → Result Lsn ReadErr
goes_on_at reading.Memory = Err reading.Memory
goes_on_at (reading.Disk faults) = Err (reading.Disk faults)
goes_on_at (reading.Stopped stop) = goes_on_behind stop

-- what a reader's step comes to for who reads on
abbrev pub behind_at : Result Lsn ReadErr → Result Past ReadErr
behind_at (Ok from) = Ok (pasts.Behind from)
behind_at (Err error) = Err error

abbrev pub past_of : Result Comes ReadErr → Result Past ReadErr
past_of (Ok (coming.Record head)) = Ok (pasts.Record head)
past_of (Ok (coming.End at)) = Ok (pasts.End at)
past_of (Err error) = behind_at (goes_on_at error)

-- the address of the record with compressed images at which a step stopped
abbrev pub compressed_at : Result Comes ReadErr → Option Lsn
compressed_at (Ok comes) = None
compressed_at (Err reading.Memory) = None
compressed_at (Err (reading.Disk faults)) = None
compressed_at (Err (reading.Stopped (stops.Damaged at kind))) = None
compressed_at (Err (reading.Stopped (stops.Compressed at))) = Some at
compressed_at (Err (reading.Stopped (stops.Overwritten at))) = None

-- what comes where such a record is passed over
abbrev pub passed_as : Result Comes ReadErr → Result Past ReadErr
passed_as (Ok (coming.Record head)) = Ok (pasts.Record head)
passed_as (Ok (coming.End at)) = Ok (pasts.End at)
passed_as (Err error) = Err error

-- a step of who reads on is the next of what the reader gives: a record that was put into this one,
-- or reading begins again at an address, or it ends
abbrev pub IsNextPast : Pages → ReaderState → ReaderState → Record → Result Past ReadErr → Type 0
IsNextPast pages old new value (Ok (pasts.Record head)) =
    (others : List FoundRecord) (told : Option Answer) → GivesPast pages new others told
    → GivesPast pages old (found_with value head ∷ others) told
IsNextPast pages old new value (Ok (pasts.End at)) =
    GivesPast pages old [] (Some (answers.End at))
IsNextPast pages old new value (Ok (pasts.Behind from)) =
    (others : List FoundRecord) (told : Option Answer)
    → GivesPast pages (unbegun old.size from.0 old.end) others told
    → GivesPast pages old others told
IsNextPast pages old new value (Err (reading.Stopped stop)) =
    GivesPast pages old [] (Some (answers.Stopped stop))
IsNextPast pages old new value (Err reading.Memory) = Unit {0}
IsNextPast pages old new value (Err (reading.Disk faults)) = Unit {0}

pub record IsStepPast (pages : Pages) (old new : Reader) (value : Record)
    (result : Result Past ReadErr) : Type 0 where
  pub knows : Knows new pages
  pub next : IsNextPast pages (reader_state old) (reader_state new) value result

-- a step of who reads a disk's log on
abbrev pub StepsPast : Option Tape → Reader → Reader → Record → Result Past ReadErr → Type 0
StepsPast tape old new value result =
    (pages : Pages) → IsLogOf tape (reader_state old).size pages → Knows old pages
    → IsStepPast pages old new value result

-- a record that comes has a line
abbrev pub IsListablePast : Record → Past → Type 0
IsListablePast value (pasts.Record head) = IsListable (listed_of (found_with value head))
IsListablePast value (pasts.End at) = Unit {0}
IsListablePast value (pasts.Behind from) = Unit {0}

-- the disk's count of faults rises only where the disk failed
abbrev pub HasPastCause : ℕ → ℕ → Result Past ReadErr → Type 0
HasPastCause old new (Ok past) = new ≡ old
HasPastCause old new (Err error) = HasReadCause old new (Err error)
