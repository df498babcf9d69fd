-- What is found of a disk's log, and why none is. `size` is that of a segment in bytes, `cap` how
-- many segments the log may have.
use Rattle.std.specs.Prelude.{◌≡◌, ℕ, ◌+◌, ◌*◌, ◌%◌, ◌<◌, ◌≤◌, ◌⊎◌, true, false, List, length, Option, Some, None, IfSome, IsSome, Result, Ok, Err, if◌then◌else◌}
use Rattle.byte_position.specs.Position.{end_address_of}
use Rattle.segment_disk.specs.Cause.{Rose}
use Rattle.segment_disk.specs.Tape.{Tape, IsNotMade, page_of_segment, state_now}
use Rattle.wal_spelling.specs.Spelling.{word_at}
use Rattle.wal_page.specs.LogPlace.{IsPlace, LogPlace, word_below}
use Rattle.flush_core.specs.Settled.{AreAllThere, HasNotSettled}
use Rattle.wal_reader.specs.Cache.{log_of}
use Rattle.wal_reader.specs.Decodes.{Decodes}
use Rattle.wal_reader.specs.Standings.{found_as}
use Rattle.wal_reader.specs.declared.found.Answer.{Answer}
use Rattle.wal_reader.specs.declared.found.Answer.TheVariants as answers
use Rattle.wal_reader.specs.declared.found.FoundRecord.{FoundRecord}
use Rattle.wal_reader.specs.declared.found.Stopped.{Stopped}
use Rattle.wal_reader.specs.declared.standing.ReadErr.{ReadErr}
use Rattle.wal_reader.specs.declared.standing.ReadErr.TheVariants as reading
use Rattle.wal_reader.specs.declared.standing.Step.{Step}
use Rattle.wal_reader.specs.declared.standing.Step.TheVariants as steps
use Rattle.written_log_laws.specs.FoundLog.{end_behind, last_start_behind}
use Rattle.found_log.specs.declared.fault.FindFault.{FindFault}
use Rattle.found_log.specs.declared.fault.FindFault.TheVariants.{Memory, Disk, Beyond, Foreign}
use Rattle.found_log.specs.declared.finding.FoundLog.{FoundLog}
use Rattle.found_log.specs.Foreign.{is_foreign, is_foreign_stop}
use Rattle.found_log.specs.Words.{start_of_page, word_in}

-- ---- the records

-- a disk's log, from segment 1's start on to its end, is just these records; what stands behind
-- them a crash of this program may have left
pub record EndsWell (size : ℕ) (records : List FoundRecord) (t : Tape) : Type 0 where
  pub answer : Answer
  pub decodes : Decodes size (log_of t size) size None records answer
  pub is_own : is_foreign answer ≡ false

-- .. or it stops as no crash of this program lets one stop
pub record IsForeignLog (size : ℕ) (stop : Stopped) (t : Tape) : Type 0 where
  pub records : List FoundRecord
  pub decodes : Decodes size (log_of t size) size None records (answers.Stopped stop)
  pub foreign : is_foreign_stop stop ≡ true

-- what a step of reading says: the next record, none where the log ends, or why it is not gone on
-- with
abbrev pub judged : Result Step ReadErr → Result (Option FoundRecord) FindFault
judged (Ok (steps.Record start end prev total value)) =
    Ok (Some (found_as start end prev total value))
judged (Ok (steps.End at)) = Ok None
judged (Err reading.Memory) = Err Memory
judged (Err (reading.Disk faults)) = Err (Disk faults)
judged (Err (reading.Stopped stop)) =
    if is_foreign_stop stop then Err (Foreign stop) else Ok None

-- ---- the pages

-- page 0 of a segment, by which it is there
abbrev pub first_page : Tape → ℕ → Option (List ℕ)
first_page t segment = page_of_segment (state_now t segment) 0

-- so many segments are there, and the one behind the last one allowed is not
pub record CountsSegments (size cap made : ℕ) (t : Tape) : Type 0 where
  pub there : AreAllThere size (state_now t) made
  pub capped : first_page t (cap + 1) ≡ None

-- ---- where the log goes on

-- the place at which a log goes on that was found
abbrev pub place_of_log : FoundLog → LogPlace
place_of_log log = record {
  position = log.position;
  prev = (log.last_start).0;
  below = (log.below).words;
}

-- the words below a place are those that are read from a disk
abbrev pub HasWordsRead : ℕ → LogPlace → Tape → Type 0
HasWordsRead size place t = (address : ℕ) → address % 8 ≡ 0 → size ≤ address
    → address < end_address_of size place.position
    → word_below size place address ≡ word_in (log_of t size) address

-- ---- both

-- these records are a disk's log, in the segments up to the last one made, and the words below this
-- place are those that are read there
pub record IsDiskLog (size cap : ℕ) (records : List FoundRecord) (place : LogPlace) (made : ℕ)
    (t : Tape) : Type 0 where
  pub ends : EndsWell size records t
  pub counted : CountsSegments size cap made t
  pub words : HasWordsRead size place t

-- a log was found on any disk: it goes on at a place in the segments that are there, of whose page
-- it has the words below; some records have its count, its end and its last start, and if the disk
-- tells what it holds, they are its log
pub record FindsLog (size cap : ℕ) (tape : Option Tape) (log : FoundLog) : Type 0 where
  pub records : List FoundRecord
  pub count_is : log.count ≡ length records
  pub end_is : log.end.0 ≡ end_behind size records
  pub last_start_is : log.last_start.0 ≡ last_start_behind 0 records
  pub placed : IsPlace size (place_of_log log)
  pub position_is : end_address_of size log.position ≡ log.end.0
  pub within : log.made ≤ cap
  pub reaches : log.end.0 ≤ log.made * size + size
  pub page_is : (j : ℕ) → start_of_page log.end.0 + 8 * j < log.end.0
      → word_at log.page.value j
      ≡ word_below size (place_of_log log) (start_of_page log.end.0 + 8 * j)
  pub tells : IfSome tape (IsDiskLog size cap records (place_of_log log) log.made)

-- why none was
abbrev pub RefusesLog : ℕ → ℕ → FindFault → Tape → Type 0
RefusesLog size cap Memory t = Unit {0}
RefusesLog size cap (Disk faults) t = Unit {0}
RefusesLog size cap (Beyond segment) t = (segment ≡ cap + 1) × IsSome (first_page t segment)
RefusesLog size cap (Foreign stop) t =
    (first_page t (cap + 1) ≡ None) × IsForeignLog size stop t

-- a disk's count of faults before and after: it rises where the disk failed, and else stays
abbrev pub HasFindCause : {T : Type 0} → ℕ → ℕ → Result T FindFault → Type 0
HasFindCause old new (Ok log) = new ≡ old
HasFindCause old new (Err Memory) = new ≡ old
HasFindCause old new (Err (Disk faults)) = (faults ≡ new) × Rose old new
HasFindCause old new (Err (Beyond segment)) = new ≡ old
HasFindCause old new (Err (Foreign stop)) = new ≡ old

-- ---- settling

-- a front was made of the calls that settle the log which was found
pub record HasBegunToSettle (size cap : ℕ) (old new : Option Tape) (old_moment new_moment : ℕ)
    : Type 0 where
  pub log : FoundLog
  pub found : FindsLog size cap old log
  pub stopped : HasNotSettled size log.end.0 old new old_moment new_moment

-- what a refusal leaves of the disk: no counted call was made, unless the disk failed
abbrev pub LeavesUnsettled : ℕ → ℕ → Option Tape → Option Tape → ℕ → ℕ → FindFault → Type 0
LeavesUnsettled size cap old new old_moment new_moment Memory =
    IsNotMade old new old_moment new_moment
LeavesUnsettled size cap old new old_moment new_moment (Disk faults) =
    IsNotMade old new old_moment new_moment
    ⊎ HasBegunToSettle size cap old new old_moment new_moment
LeavesUnsettled size cap old new old_moment new_moment (Beyond segment) =
    IsNotMade old new old_moment new_moment
LeavesUnsettled size cap old new old_moment new_moment (Foreign stop) =
    IsNotMade old new old_moment new_moment
