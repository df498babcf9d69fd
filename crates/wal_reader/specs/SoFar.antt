-- What a reader of a disk's log gave so far, record by record, and what its next step makes of it:
-- what the loop of who reads a log has to carry.
use Rattle.std.specs.Prelude.{◌≡◌, ℕ, ◌+◌, ◌*◌, ◌^◌, ◌≤◌, List, [], ◌∷◌, ◌++◌, length, Option, IfSome, Result, Ok, Err}
use Rattle.byte_position.specs.Geometry.{IsSegmentSize}
use Rattle.segment_disk.specs.Tape.{IsUncalled, Tape}
use Rattle.wal_reader.specs.Cache.{log_of}
use Rattle.wal_reader.specs.Decodes.{Decodes}
use Rattle.wal_reader.specs.LogReader.{GivesRecords, Knows, LeavesReader, ReaderState, left_of, reader_state}
use Rattle.wal_reader.specs.PageCursor.{IsLogOf}
use Rattle.wal_reader.specs.Pages.{Pages}
use Rattle.wal_reader.specs.Standings.{HasReadCause, given_as}
use Rattle.wal_reader.specs.StepIn.{IsStepIn}
use Rattle.wal_reader.specs.declared.found.Answer.{Answer}
use Rattle.wal_reader.specs.declared.found.Answer.TheVariants as answers
use Rattle.wal_reader.specs.declared.found.FoundRecord.{FoundRecord}
use Rattle.wal_reader.specs.declared.log_reader.Reader.{Reader}
use Rattle.wal_reader.specs.declared.standing.ReadErr.{ReadErr}
use Rattle.wal_reader.specs.declared.standing.ReadErr.TheVariants as reading
use Rattle.wal_reader.specs.declared.standing.Standing.TheVariants.{NotBegun}
use Rattle.wal_reader.specs.declared.standing.Step.{Step}
use Rattle.wal_reader.specs.declared.standing.Step.TheVariants as steps

-- ---- a disk's log

-- what a disk's log decodes to
abbrev pub LogDecodes : ℕ → ℕ → Option ℕ → List FoundRecord → Answer → Tape → Type 0
LogDecodes size start end found answer t = Decodes size (log_of t size) start end found answer

-- these records come first of what a disk's log decodes to
pub record LogBegins (size start : ℕ) (end : Option ℕ) (found : List FoundRecord) (t : Tape)
    : Type 0 where
  pub others : List FoundRecord
  pub answer : Answer
  pub decodes : LogDecodes size start end (found ++ others) answer t

-- ---- a reader's steps

-- a reader that has not begun
abbrev pub unbegun : ℕ → ℕ → Option ℕ → ReaderState
unbegun size start end = record { size = size; start = start; end = end; standing = NotBegun }

-- a step of a reader of a disk's log
abbrev pub StepsInLog : Option Tape → Reader → Reader → Result Step ReadErr → Type 0
StepsInLog tape old new step =
    (pages : Pages) → IsLogOf tape (reader_state old).size pages → Knows old pages
    → IsStepIn pages old new step

-- what a reader gave of a disk's log: what it still gives stands behind that
pub record HasGiven (size start : ℕ) (end : Option ℕ) (reader : Reader) (found : List FoundRecord)
    (t : Tape) : Type 0 where
  pub knows : Knows reader (log_of t size)
  pub whole : (others : List FoundRecord) (answer : Answer)
      → GivesRecords (log_of t size) (reader_state reader) others answer
      → LogDecodes size start end (found ++ others) answer t

-- what a step that follows these records says of the log: its records are these and no more, and
-- so it ends; or at least these, where a record was given, the disk failed or memory was wanting
abbrev pub SaysOfLog : ℕ → ℕ → Option ℕ → List FoundRecord → Result Step ReadErr → Tape → Type 0
SaysOfLog size start end found (Ok (steps.Record from upto prev total value)) t =
    LogBegins size start end found t
SaysOfLog size start end found (Ok (steps.End at)) t =
    LogDecodes size start end found (answers.End at) t
SaysOfLog size start end found (Err (reading.Stopped stop)) t =
    LogDecodes size start end found (answers.Stopped stop) t
SaysOfLog size start end found (Err reading.Memory) t = LogBegins size start end found t
SaysOfLog size start end found (Err (reading.Disk faults)) t = LogBegins size start end found t

module _ {D : Type 0} (tape : D → Option Tape) (moment faults : D → ℕ) where
  -- a step, as far as the next one depends on it: four clauses of `Reader::next` and `next_into`
  pub record MakesStep (disk disk_now : D) (reader reader_now : Reader) (step : Result Step ReadErr)
      : Type 0 where
    pub gives : StepsInLog (tape disk) reader reader_now step
    pub leaves : LeavesReader (reader_state reader) (reader_state reader_now) step
    pub uncalled : IsUncalled tape moment disk disk_now
    pub cause : HasReadCause (faults disk) (faults disk_now) step

  -- a reader gave these records, one by one, of the log of a disk, which was only read: each of
  -- them took up a whole word of the log at least, and if the disk tells what it holds, what the
  -- reader still gives stands behind them
  pub record ReadSoFar (size start : ℕ) (end : Option ℕ) (disk disk_now : D) (reader : Reader)
      (found : List FoundRecord) : Type 0 where
    pub valid : IsSegmentSize size
    pub sized : (reader_state reader).size ≡ size
    pub few : 8 * length found + left_of (reader_state reader) ≤ 2 ^ 60
    pub uncalled : IsUncalled tape moment disk disk_now
    pub unfailed : faults disk_now ≡ faults disk
    pub given : IfSome (tape disk) (HasGiven size start end reader found)

  -- so it is of a new reader and no record
  abbrev pub ReadingBegins : Type 0
  ReadingBegins =
      (size start : ℕ) (end : Option ℕ) (disk : D) (reader : Reader) → IsSegmentSize size
      → reader_state reader ≡ unbegun size start end → ((pages : Pages) → Knows reader pages)
      → ReadSoFar size start end disk disk reader []

  -- .. with each record that a step gives
  abbrev pub ReadingGoesOn : Type 0
  ReadingGoesOn =
      (size start : ℕ) (end : Option ℕ) (first disk disk_now : D) (reader reader_now : Reader)
      (found : List FoundRecord) (next : FoundRecord)
      → ReadSoFar size start end first disk reader found
      → MakesStep disk disk_now reader reader_now (Ok (given_as next))
      → ReadSoFar size start end first disk_now reader_now (found ++ next ∷ [])

  -- .. and where a step gives none, this is what the log decodes to, or the front of it
  abbrev pub ReadingEnds : Type 0
  ReadingEnds =
      (size start : ℕ) (end : Option ℕ) (first disk disk_now : D) (reader reader_now : Reader)
      (found : List FoundRecord) (step : Result Step ReadErr)
      → ReadSoFar size start end first disk reader found
      → MakesStep disk disk_now reader reader_now step
      → IfSome (tape first) (SaysOfLog size start end found step)
