-- What is taken of a disk's log.
use Rattle.std.specs.Prelude.{◌≡◌, ℕ, List, ◌++◌, length, map, Option, Some, None, Result, Ok, Err}
use Rattle.segment_disk.specs.Tape.{Tape}
use Rattle.wal_types.specs.declared.lsn.Lsn.{Lsn}
use Rattle.wal_reader.specs.declared.found.FoundRecord.{FoundRecord}
use Rattle.wal_reader.specs.declared.found.Answer.{Answer}
use Rattle.wal_reader.specs.declared.found.Answer.TheVariants as answers
use Rattle.wal_reader.specs.declared.found.Stopped.{Stopped as LogStop}
use Rattle.wal_reader.specs.declared.standing.ReadErr.TheVariants as reading
use Rattle.wal_reader.specs.Standings.{HasReadCause}
use Rattle.waldump_filter.specs.declared.Filter.{Filter}
use Rattle.waldump_filter.specs.declared.listed.Listed.{Listed}
use Rattle.waldump_text.specs.Listing.{IsLimitListed, listed_by, listed_of}
use Rattle.cluster_listing.specs.Past.{DecodesPast}
use Rattle.cluster_listing.specs.declared.taking.TakeErr.{TakeErr}
use Rattle.cluster_listing.specs.declared.walking.ListErr.{ListErr}
use Rattle.cluster_listing.specs.declared.walking.ListErr.TheVariants.{Read, Take}
use Rattle.cluster_listing.specs.declared.walking.Walked.{Walked}

-- the records that a filter lists, as they are listed
abbrev pub records_listed : Filter → List FoundRecord → List Listed
records_listed by found = map listed_of (listed_by by found)

-- how a walk ended: at a clean end of the log, or once the limit was listed
abbrev pub EndsWalk : Filter → List FoundRecord → Option Answer → Option Lsn → Type 0
EndsWalk by found told (Some at) = told ≡ Some (answers.End at)
EndsWalk by found told None = IsLimitListed by found

-- all that a filter lists is taken; `Took` says it of records
pub record WalksAll (size : ℕ) (by : Filter) (t : Tape) (Took : List Listed → Type 0)
    (walked : Walked) : Type 0 where
  pub found : List FoundRecord
  pub told : Option Answer
  pub decodes : DecodesPast size by t found told
  pub ends : EndsWalk by found told walked.end
  pub count_is : walked.count ≡ length (listed_by by found)
  pub taken : Took (records_listed by found)

-- all before a stop is taken, which comes before the limit is listed
pub record WalksUpTo (size : ℕ) (by : Filter) (t : Tape) (Took : List Listed → Type 0)
    (stop : LogStop) : Type 0 where
  pub found : List FoundRecord
  pub decodes : DecodesPast size by t found (Some (answers.Stopped stop))
  pub below_limit : IsLimitListed by found → ⊥
  pub taken : Took (records_listed by found)

-- the first of them are taken
pub record WalksFront (size : ℕ) (by : Filter) (t : Tape) (Took : List Listed → Type 0)
    : Type 0 where
  pub found : List FoundRecord
  pub told : Option Answer
  pub decodes : DecodesPast size by t found told
  pub front : List Listed
  pub rest : List Listed
  pub parts : records_listed by found ≡ front ++ rest
  pub taken : Took front

-- a front of what they come to is taken
pub record WalksCut (size : ℕ) (by : Filter) (t : Tape) (Cut : List Listed → Type 0) : Type 0 where
  pub found : List FoundRecord
  pub told : Option Answer
  pub decodes : DecodesPast size by t found told
  pub taken : Cut (records_listed by found)

-- what was taken of a log, by how the walk ended
abbrev pub IsWalk : ℕ → Filter → Tape → (List Listed → Type 0) → (TakeErr → List Listed → Type 0)
    → Result Walked ListErr → Type 0
IsWalk size by t Took Cut (Ok walked) = WalksAll size by t Took walked
IsWalk size by t Took Cut (Err (Read (reading.Stopped stop))) = WalksUpTo size by t Took stop
IsWalk size by t Took Cut (Err (Read reading.Memory)) = WalksFront size by t Took
IsWalk size by t Took Cut (Err (Read (reading.Disk faults))) = WalksFront size by t Took
IsWalk size by t Took Cut (Err (Take e)) = WalksCut size by t (Cut e)

-- why it ended so: the disk's count of faults, before and after
abbrev pub HasWalkCause : ℕ → ℕ → Result Walked ListErr → Type 0
HasWalkCause old new (Ok walked) = new ≡ old
HasWalkCause old new (Err (Read error)) = HasReadCause old new (Err error)
HasWalkCause old new (Err (Take e)) = new ≡ old
