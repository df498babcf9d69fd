-- What a listing of the disk's log puts, and how it ends.
use Rattle.std.specs.Prelude.{◌≡◌, ℕ, ◌⊎◌, IsTrue, List, length, take, Option, option_map, Result, Ok, Err}
use Rattle.segment_disk.specs.Cause.{RoseByOne}
use Rattle.segment_disk.specs.Stream.{with_behind}
use Rattle.segment_disk.specs.Tape.{Tape}
use Rattle.wal_reader.specs.Cache.{log_of}
use Rattle.wal_reader.specs.Decodes.{Decodes}
use Rattle.wal_reader.specs.declared.found.FoundRecord.{FoundRecord}
use Rattle.wal_reader.specs.declared.found.Answer.{Answer}
use Rattle.wal_reader.specs.declared.found.Answer.TheVariants as answers
use Rattle.wal_reader.specs.declared.found.Stopped.{Stopped as LogStop}
use Rattle.wal_reader.specs.declared.standing.ReadErr.TheVariants as reading
use Rattle.wal_reader.specs.Standings.{HasReadCause}
use Rattle.waldump_filter.specs.declared.Filter.{Filter}
use Rattle.waldump_text.specs.Listing.{IsLimitListed, listed_by, listing, listing_in_reading}
use Rattle.waldump_text.specs.declared.dumping.DumpErr.{DumpErr}
use Rattle.waldump_text.specs.declared.dumping.DumpErr.TheVariants.{Read, Sink}

-- a clean end of a log
abbrev pub IsEnd : Answer → Type 0
IsEnd (answers.End at) = Unit {0}
IsEnd (answers.Stopped stop) = ⊥

-- what the disk's log decodes to, from a filter's start up to its end
abbrev pub DecodesOnDisk : ℕ → Filter → Tape → List FoundRecord → Answer → Type 0
DecodesOnDisk size by t found answer =
    Decodes size (log_of t size) by.start.0 (option_map (λ end. end.0) by.end) found answer

-- all that a filter lists is read: the log comes to a clean end, or the limit is listed
abbrev pub IsAllRead : Filter → List FoundRecord → Answer → Type 0
IsAllRead by found answer = IsEnd answer ⊎ IsLimitListed by found

-- a sink took a text of what the disk's log decodes to: these records, and this behind them
pub record PutsText (size : ℕ) (by : Filter) (t : Tape) (old new : Option (List ℕ))
    (found : List FoundRecord) (answer : Answer) (text : List ℕ) : Type 0 where
  pub decodes : DecodesOnDisk size by t found answer
  pub put : new ≡ with_behind old text

-- all is listed, so many records
pub record ListsAll (size : ℕ) (by : Filter) (t : Tape) (old new : Option (List ℕ)) (count : ℕ)
    : Type 0 where
  pub found : List FoundRecord
  pub answer : Answer
  pub puts : PutsText size by t old new found answer (listing by found)
  pub ends : IsAllRead by found answer
  pub count_is : count ≡ length (listed_by by found)

-- all before a stop is listed, but for statistics; the stop comes before the limit is listed
pub record ListsUpTo (size : ℕ) (by : Filter) (t : Tape) (old new : Option (List ℕ))
    (stop : LogStop) : Type 0 where
  pub found : List FoundRecord
  pub puts :
      PutsText size by t old new found (answers.Stopped stop) (listing_in_reading by found)
  pub below_limit : IsLimitListed by found → ⊥

-- a sink took a front of a text of what the disk's log decodes to
abbrev pub PutsFront : (List FoundRecord → List ℕ) → ℕ → Filter → Tape → Option (List ℕ)
    → Option (List ℕ) → Type 0
PutsFront text size by t old new =
    (found : List FoundRecord) (answer : Answer) → DecodesOnDisk size by t found answer → (n : ℕ)
    × (new ≡ with_behind old (take n (text found)))

-- a front of the listing, where the sink failed: at statistics only once all is read
pub record ListsFront (size : ℕ) (by : Filter) (t : Tape) (old new : Option (List ℕ)) : Type 0 where
  pub front : PutsFront (listing by) size by t old new
  pub ends :
      IsTrue by.stats → (found : List FoundRecord) (answer : Answer)
      → DecodesOnDisk size by t found answer → IsAllRead by found answer

-- a front of the listing where the reading failed, with no statistics in it
abbrev pub ListsFrontInReading : ℕ → Filter → Tape → Option (List ℕ) → Option (List ℕ) → Type 0
ListsFrontInReading size by = PutsFront (listing_in_reading by) size by

-- what a listing put, by how it ended
abbrev pub IsDump : ℕ → Filter → Option (List ℕ) → Option (List ℕ) → Result ℕ DumpErr → Tape
    → Type 0
IsDump size by old new (Ok count) t = ListsAll size by t old new count
IsDump size by old new (Err (Read (reading.Stopped stop))) t = ListsUpTo size by t old new stop
IsDump size by old new (Err (Read reading.Memory)) t = ListsFrontInReading size by t old new
IsDump size by old new (Err (Read (reading.Disk faults))) t =
    ListsFrontInReading size by t old new
IsDump size by old new (Err (Sink fault)) t = ListsFront size by t old new

-- why a listing ended so: the counts of faults of the disk and of the sink, before and after
abbrev pub HasDumpCause : ℕ → ℕ → ℕ → ℕ → Result ℕ DumpErr → Type 0
HasDumpCause disk disk_after sink sink_after (Ok count) = (disk_after ≡ disk) × (sink_after ≡ sink)
HasDumpCause disk disk_after sink sink_after (Err (Read error)) =
    HasReadCause disk disk_after (Err error) × (sink_after ≡ sink)
HasDumpCause disk disk_after sink sink_after (Err (Sink fault)) =
    RoseByOne sink sink_after × (fault.faults ≡ sink_after) × (disk_after ≡ disk)
