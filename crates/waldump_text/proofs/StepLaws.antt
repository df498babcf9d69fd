-- A reader's step, by the record that is listed of it.
use Rattle.std.proofs.Common.{◌≡◌, ◌∙◌, Bool, Ok, Result, ap, refl, subst, sym}
use Rattle.std.specs.Prelude.{IfOk}
use Rattle.wal_types.specs.declared.lsn.Lsn.{Lsn}
use Rattle.wal_types.specs.declared.record.Record.{Record}
use Rattle.wal_reader.specs.Filled.{found_with, step_with}
use Rattle.wal_reader.specs.Spelled.{GivesSpelled}
use Rattle.wal_reader.specs.Standings.{given_as}
use Rattle.wal_reader.specs.declared.found.FoundRecord.{FoundRecord}
use Rattle.wal_reader.specs.declared.found.RecordHead.{RecordHead}
use Rattle.wal_reader.specs.declared.standing.Comes.{Comes}
use Rattle.wal_reader.specs.declared.standing.Comes.TheVariants as coming
use Rattle.wal_reader.specs.declared.standing.ReadErr.{ReadErr}
use Rattle.wal_reader.specs.declared.standing.Step.{Step}
use Rattle.wal_reader.specs.declared.standing.Step.TheVariants as steps
use Rattle.waldump_filter.specs.Keeping.{keeps}
use Rattle.waldump_filter.specs.declared.Filter.{Filter}
use Rattle.waldump_filter.specs.declared.listed.Listed.{Listed}
use Rattle.waldump_text.specs.Listing.{IsListable, listed_of}
use Rattle.waldump_text.specs.Sifting.{listed_with}
use Rattle.waldump_text.proofs.SpelledLaws.{IsListable-from_spelled}

-- a step to a record that is listed so
pub record GivesListed (value : Record) (comes : Comes) (r : Listed) : Type 0 where
  pub found : FoundRecord
  pub step_is : step_with value (Ok comes) ≡ Ok (given_as found)
  pub listed_is : r ≡ listed_of found

pub gives_listed : (value : Record) (comes : Comes) (head : RecordHead) → comes ≡ coming.Record head → GivesListed value comes (listed_with value head)
gives_listed value comes head is = record { found = found_with value head; step_is = ap (λ (c : Comes). step_with value (Ok c)) is; listed_is = refl }

-- a step to the end, of which no record is listed
pub gives_end : (value : Record) (comes : Comes) → ((head : RecordHead) → comes ≡ coming.Record head → ⊥) → (at : Lsn) × (step_with value (Ok comes) ≡ Ok (steps.End at))
gives_end value (coming.Record head) none = absurd (none head refl)
gives_end value (coming.End at) none = (at, refl)

-- a record that a step gives has a line
pub gives_listable : (value : Record) (comes : Comes) (r : Listed) (gives : GivesListed value comes r)
    → IfOk (step_with value (Ok comes)) GivesSpelled → IsListable (listed_of gives.found)
gives_listable value comes r gives spelled =
    IsListable-from_spelled gives.found
    (subst (λ (step : Result Step ReadErr). IfOk step GivesSpelled) gives.step_is spelled)

-- whether the filter that is picked keeps a record tells whether this one does
pub kept_too : (picked by : Filter) (kept : Bool) (r other : Listed) → picked ≡ by → r ≡ other
    → keeps picked r ≡ kept → keeps by other ≡ kept
kept_too picked by kept r other same is told =
    sym (ap (λ (filter : Filter). keeps filter r) same ∙ ap (keeps by) is) ∙ told
