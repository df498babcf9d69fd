-- What a listing of a disk's log puts, and how it ends.
use Rattle.std.specs.Prelude.{◌≡◌, ℕ, List, take, Option, Result}
use Rattle.std.specs.List.{flat_map}
use Rattle.segment_disk.specs.Cause.{RoseByOne}
use Rattle.segment_disk.specs.Stream.{with_behind}
use Rattle.segment_disk.specs.Tape.{Tape}
use Rattle.waldump_filter.specs.declared.Filter.{Filter}
use Rattle.waldump_filter.specs.declared.listed.Listed.{Listed}
use Rattle.cluster_listing.specs.Form.{record_text}
use Rattle.cluster_listing.specs.Walk.{IsWalk}
use Rattle.cluster_listing.specs.declared.form.Form.{Form}
use Rattle.cluster_listing.specs.declared.taking.TakeErr.{TakeErr}
use Rattle.cluster_listing.specs.declared.taking.TakeErr.TheVariants as errors
use Rattle.cluster_listing.specs.declared.walking.ListErr.{ListErr}
use Rattle.cluster_listing.specs.declared.walking.Walked.{Walked}

-- the texts of records, one behind another
abbrev pub records_text : Form → List Listed → List ℕ
records_text form records = flat_map (record_text form) records

-- a sink took all of a text, and did not fail
pub record PutAll (old new : Option (List ℕ)) (before after : ℕ) (text : List ℕ) : Type 0 where
  pub put : new ≡ with_behind old text
  pub faults : after ≡ before

-- what a failure says of a sink's count of faults
abbrev pub FaultsBy : TakeErr → ℕ → ℕ → Type 0
FaultsBy errors.Memory before after = after ≡ before
FaultsBy (errors.Sink fault) before after = RoseByOne before after × (fault.faults ≡ after)

-- a sink took a front of a text, and then this failed
pub record PutFront (old new : Option (List ℕ)) (before after : ℕ) (e : TakeErr) (text : List ℕ)
    : Type 0 where
  pub count : ℕ
  pub put : new ≡ with_behind old (take count text)
  pub faults : FaultsBy e before after

-- what a sink took of a disk's log: the texts of the records that a filter lists of what the log
-- decodes to, all of them, those before a stop, or a front where something failed
abbrev pub IsListing : ℕ → Filter → Form → Tape → Option (List ℕ) → Option (List ℕ) → ℕ → ℕ
    → Result Walked ListErr → Type 0
IsListing size by form t old new before after result =
    IsWalk size by t (λ records. PutAll old new before after (records_text form records))
    (λ e records. PutFront old new before after e (records_text form records)) result
