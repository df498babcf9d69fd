-- What a listing of the last records of a disk's log puts, and how it ends.
use Rattle.std.specs.Prelude.{◌≡◌, ℕ, ◌-◌, Bool, true, false, List, [], ◌++◌, length, drop, map, Option, Some, None, Result, Ok, Err}
use Rattle.segment_disk.specs.Tape.{Tape}
use Rattle.wal_reader.specs.declared.found.Answer.{Answer}
use Rattle.wal_reader.specs.declared.found.FoundRecord.{FoundRecord}
use Rattle.wal_reader.specs.declared.standing.ReadErr.TheVariants as reading
use Rattle.waldump_filter.specs.declared.Filter.{Filter}
use Rattle.waldump_filter.specs.declared.listed.Listed.{Listed}
use Rattle.waldump_text.specs.Listing.{IsLimitListed}
use Rattle.waldump_text.specs.Put.{joined}
use Rattle.waldump_text.specs.declared.putting.SinkFault.{SinkFault}
use Rattle.cluster_listing.specs.Form.{record_text}
use Rattle.cluster_listing.specs.Listing.{PutAll, PutFront}
use Rattle.cluster_listing.specs.Past.{DecodesPast}
use Rattle.cluster_listing.specs.Walk.{WalksAll, WalksUpTo, records_listed}
use Rattle.cluster_listing.specs.declared.form.Form.{Form}
use Rattle.cluster_listing.specs.declared.tail.Tail.{Tail}
use Rattle.cluster_listing.specs.declared.taking.TakeErr.TheVariants as errors
use Rattle.cluster_listing.specs.declared.walking.ListErr.{ListErr}
use Rattle.cluster_listing.specs.declared.walking.ListErr.TheVariants.{Read, Take}
use Rattle.cluster_listing.specs.declared.walking.Walked.{Walked}

-- the last n of a list
abbrev pub last_so_many : {X : Type 0} → ℕ → List X → List X
last_so_many n xs = drop (length xs - n) xs

-- the texts of records, one for each
abbrev pub texts_of : Form → List Listed → List (List ℕ)
texts_of form records = map (record_text form) records

-- behind those that were kept at first these records' texts came, and the last of all are kept
pub record KeepsLast (first now : Tail) (records : List Listed) : Type 0 where
  pub form : now.form ≡ first.form
  pub most : now.most ≡ first.most
  pub lines :
      map (λ l. l.items) now.lines.items
      ≡ last_so_many first.most
      (map (λ l. l.items) first.lines.items ++ texts_of first.form records)

-- the texts of the last of records
abbrev pub tail_text : Form → ℕ → List Listed → List ℕ
tail_text form most records = joined (last_so_many most (texts_of form records))

-- whether what was kept is put where a walk ended so
abbrev pub is_shown : Result Walked ListErr → Bool
is_shown (Ok walked) = true
is_shown (Err (Read (reading.Stopped stop))) = true
is_shown (Err (Read reading.Memory)) = false
is_shown (Err (Read (reading.Disk faults))) = false
is_shown (Err (Take e)) = false

-- a sink took a text behind a walk, or a front of it where it failed, or where it is not shown
-- nothing
pub data PutsKept (old new : Option (List ℕ)) (before after : ℕ) (text : List ℕ)
    : Result Walked ListErr → Result Walked ListErr → Type 0 where
  kept_put : (walked : Result Walked ListErr) → is_shown walked ≡ true
      → PutAll old new before after text → PutsKept old new before after text walked walked
  kept_cut : (walked : Result Walked ListErr) (fault : SinkFault) → is_shown walked ≡ true
      → PutFront old new before after (errors.Sink fault) text
      → PutsKept old new before after text walked (Err (Take (errors.Sink fault)))
  kept_hidden : (walked : Result Walked ListErr) → is_shown walked ≡ false
      → PutAll old new before after [] → PutsKept old new before after text walked walked

-- records are all that a listing has: reading ended behind them, or they reach its limit
abbrev pub AreAllListed : Filter → List FoundRecord → Option Answer → Type 0
AreAllListed by found (Some answer) = Unit {0}
AreAllListed by found None = IsLimitListed by found

-- of all records that are listed a front of a text is put
pub record GathersCut (size : ℕ) (by : Filter) (t : Tape) (Cut : List Listed → Type 0)
    : Type 0 where
  pub found : List FoundRecord
  pub told : Option Answer
  pub decodes : DecodesPast size by t found told
  pub all : AreAllListed by found told
  pub taken : Cut (records_listed by found)

-- what a sink took, by how the listing ended: a text of all records that are listed, also before a
-- stop; a front of that where the sink failed; else nothing
abbrev pub IsGathered : ℕ → Filter → (List Listed → List ℕ) → Tape → Option (List ℕ)
    → Option (List ℕ) → ℕ → ℕ → Result Walked ListErr → Type 0
IsGathered size by text t old new before after (Ok walked) =
    WalksAll size by t
    (λ records. PutAll old new before after (text records)) walked
IsGathered size by text t old new before after (Err (Read (reading.Stopped stop))) =
    WalksUpTo size by t
    (λ records. PutAll old new before after (text records)) stop
IsGathered size by text t old new before after (Err (Read reading.Memory)) =
    PutAll old new before after []
IsGathered size by text t old new before after (Err (Read (reading.Disk faults))) =
    PutAll old new before after []
IsGathered size by text t old new before after (Err (Take errors.Memory)) =
    PutAll old new before after []
IsGathered size by text t old new before after (Err (Take (errors.Sink fault))) =
    GathersCut size by t (λ records.
    PutFront old new before after (errors.Sink fault) (text records))

-- the texts of the last of them
abbrev pub IsTail : ℕ → Filter → Form → ℕ → Tape → Option (List ℕ) → Option (List ℕ) → ℕ → ℕ
    → Result Walked ListErr → Type 0
IsTail size by form most = IsGathered size by (tail_text form most)
