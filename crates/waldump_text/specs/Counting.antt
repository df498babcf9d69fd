-- A tally of what the disk's log decodes to.
use Rattle.std.specs.Prelude.{◌≡◌, ℕ, List, map, Result, Ok, Err}
use Rattle.segment_disk.specs.Tape.{Tape}
use Rattle.wal_reader.specs.declared.found.Answer.{Answer}
use Rattle.wal_reader.specs.declared.found.Answer.TheVariants as answers
use Rattle.wal_reader.specs.declared.found.FoundRecord.{FoundRecord}
use Rattle.wal_reader.specs.declared.found.Stopped.{Stopped as LogStop}
use Rattle.wal_reader.specs.declared.standing.ReadErr.{ReadErr}
use Rattle.wal_reader.specs.declared.standing.ReadErr.TheVariants as reading
use Rattle.wal_reader.specs.Standings.{HasReadCause}
use Rattle.waldump_filter.specs.declared.Filter.{Filter}
use Rattle.waldump_text.specs.Dump.{DecodesOnDisk, IsAllRead}
use Rattle.waldump_text.specs.Listing.{IsLimitListed, listed_by, listed_of}
use Rattle.waldump_text.specs.Tally.{Tallies}
use Rattle.waldump_text.specs.declared.sums.Tally.{Tally}

-- all that a filter lists is tallied
pub record TalliesAll (size : ℕ) (by : Filter) (t : Tape) (tally : Tally) : Type 0 where
  pub found : List FoundRecord
  pub answer : Answer
  pub decodes : DecodesOnDisk size by t found answer
  pub ends : IsAllRead by found answer
  pub tallies : Tallies tally (map listed_of (listed_by by found))

-- the log stops before the limit is listed
pub record StopsBefore (size : ℕ) (by : Filter) (t : Tape) (stop : LogStop) : Type 0 where
  pub found : List FoundRecord
  pub decodes : DecodesOnDisk size by t found (answers.Stopped stop)
  pub below_limit : IsLimitListed by found → ⊥

-- why a tally ended so: the disk's count of faults, before and after
abbrev pub HasTallyCause : ℕ → ℕ → Result Tally ReadErr → Type 0
HasTallyCause old new (Ok tally) = new ≡ old
HasTallyCause old new (Err error) = HasReadCause old new (Err error)

-- what a tally tells, by how the reading ended
abbrev pub IsTally : ℕ → Filter → Result Tally ReadErr → Tape → Type 0
IsTally size by (Ok tally) t = TalliesAll size by t tally
IsTally size by (Err (reading.Stopped stop)) t = StopsBefore size by t stop
IsTally size by (Err reading.Memory) t = Unit {0}
IsTally size by (Err (reading.Disk faults)) t = Unit {0}
