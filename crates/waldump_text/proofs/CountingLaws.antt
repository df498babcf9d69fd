-- Records that are tallied as far as a filter lists them.
use Rattle.std.proofs.Common.{◌≡◌, ℕ, ◌+◌, ◌≤◌, true, false, List, [], ◌∷◌, ◌++◌, length, map, Option, Some, None, Ok, Err, inl, inr, sym, ap, subst, ◌∙◌, arith}
use Rattle.std.specs.Prelude.{IfSome}
use Rattle.std.proofs.lemmas.List.{append-nil, length-append, length-map, map-append}
use Rattle.std.proofs.lemmas.List.Elements.{filter-append}
use Rattle.segment_disk.specs.Tape.{Tape}
use Rattle.wal_types.specs.declared.lsn.Lsn.{Lsn}
use Rattle.wal_reader.specs.declared.found.Answer.TheVariants as answers
use Rattle.wal_reader.specs.declared.found.FoundRecord.{FoundRecord}
use Rattle.wal_reader.specs.declared.standing.ReadErr.{ReadErr}
use Rattle.wal_reader.specs.declared.standing.ReadErr.TheVariants.{Memory, Disk, Stopped}
use Rattle.wal_reader.specs.declared.standing.Step.TheVariants.{End}
use Rattle.waldump_filter.specs.declared.Filter.{Filter}
use Rattle.waldump_filter.specs.declared.listed.Listed.{Listed}
use Rattle.waldump_filter.specs.Keeping.{is_reached, keeps}
use Rattle.waldump_text.specs.Counting.{IsTally}
use Rattle.waldump_text.specs.Listing.{kept_by, listed_by, listed_of}
use Rattle.waldump_text.specs.Tally.{TallyFits, Tallies}
use Rattle.waldump_text.specs.declared.sums.Sums.{Sums}
use Rattle.waldump_text.specs.declared.sums.Tally.{Tally}
use Rattle.waldump_text.proofs.DumpLaws.{Begins, Says}
use Rattle.waldump_text.proofs.ListingLaws.{IsWithin, IsWithin-more, is_limit_listed, is_limit_unreached, kept, listed_by-reached, listed_by-short, passed_over}

-- records are tallied as far as a filter keeps them
pub record IsTallied (by : Filter) (found : List FoundRecord) (tally : Tally) : Type 0 where
  pub tallies : Tallies tally (map listed_of (kept_by by found))
  pub few : tally.all.records ≤ length found

-- a record that is read is tallied if it is kept
pub record Adds (by : Filter) (f : FoundRecord) (old new : Tally) : Type 0 where
  pub kept : List FoundRecord
  pub kept_is : kept_by by (f ∷ []) ≡ kept
  pub tallies : (records : List Listed) → Tallies old records → Tallies new (records ++ map listed_of kept)
  pub one : new.all.records ≤ old.all.records + 1
  pub within : IsWithin by.limit new.all.records
  pub sound : TallyFits new

pub Adds-kept : (by : Filter) (f : FoundRecord) (old new : Tally) → keeps by (listed_of f) ≡ true → ((records : List Listed) → Tallies old records → Tallies new (records ++ listed_of f ∷ [])) → new.all.records ≡ old.all.records + 1 → is_reached by.limit old.all.records ≡ false → TallyFits new → Adds by f old new
Adds-kept by f old new keeps tallies one unreached sound = record {
  kept = f ∷ [];
  kept_is = kept by f keeps;
  tallies = tallies;
  one = omega arith;
  within = subst (IsWithin by.limit) (sym one) (IsWithin-more by.limit old.all.records unreached);
  sound = sound;
}

pub Adds-passed_over : (by : Filter) (f : FoundRecord) (old new : Tally) → keeps by (listed_of f) ≡ false → new ≡ old → IsWithin by.limit old.all.records → TallyFits old → Adds by f old new
Adds-passed_over by f old new keeps same within sound =
    let still : Adds by f old old = record {
      kept = [];
      kept_is = passed_over by f keeps;
      tallies = λ records tallies. subst (Tallies old) (sym (append-nil records)) tallies;
      one = omega arith;
      within = within;
      sound = sound;
    } in
    subst (Adds by f old) (sym same) still

-- so many records are tallied
counts : (tally : Tally) (found : List FoundRecord) → Tallies tally (map listed_of found) → tally.all.records ≡ length found
counts tally found tallies = ap (λ (sums : Sums). sums.records) tallies.all ∙ length-map found listed_of

pub IsTallied-none : (by : Filter) (tally : Tally) → Tallies tally [] → tally.all.records ≡ 0
    → IsTallied by [] tally
IsTallied-none by tally none empty = record { tallies = none; few = omega (arith, empty) }

module _ (by : Filter) (found : List FoundRecord) (tally : Tally)
    (so_far : IsTallied by found tally) where
  pub IsTallied-more : (f : FoundRecord) (new : Tally) → Adds by f tally new
      → IsTallied by (found ++ f ∷ []) new
  IsTallied-more f new adds =
      let kept_more : kept_by by (found ++ f ∷ []) ≡ kept_by by found ++ adds.kept =
      filter-append (λ g. keeps by (listed_of g)) found (f ∷ [])
      ∙ ap (λ (fs : List FoundRecord). kept_by by found ++ fs) adds.kept_is in
      let listed_more : map listed_of (kept_by by found) ++ map listed_of adds.kept
      ≡ map listed_of (kept_by by (found ++ f ∷ [])) =
      sym (map-append listed_of (kept_by by found) adds.kept) ∙ ap (map listed_of) (sym kept_more) in
      record {
        tallies = subst (Tallies new) listed_more
            (adds.tallies (map listed_of (kept_by by found)) so_far.tallies);
        few = omega (arith, adds.one, so_far.few, length-append found (f ∷ []));
      }

  counted : tally.all.records ≡ length (kept_by by found)
  counted = counts tally (kept_by by found) so_far.tallies

  module _ (size : ℕ) (within : IsWithin by.limit tally.all.records) where
    given_within : IsWithin by.limit (length (kept_by by found))
    given_within = subst (IsWithin by.limit) counted within

    pub tally_ended : (tape : Option Tape) (at : Lsn)
        → IfSome tape (Says size by found (Ok (End at))) → IfSome tape (IsTally size by (Ok tally))
    tally_ended None at says = tt
    tally_ended (Some t) at says =
        let all : listed_by by found ≡ kept_by by found = listed_by-short by found given_within in
        record {
          found = found;
          answer = answers.End at;
          decodes = says;
          ends = inl tt;
          tallies = subst (λ (fs : List FoundRecord). Tallies tally (map listed_of fs)) (sym all)
              so_far.tallies;
        }

    -- once the limit is listed nothing more is read
    pub tally_reached : (tape : Option Tape) → IfSome tape (Begins size by found)
        → is_reached by.limit tally.all.records ≡ true → IfSome tape (IsTally size by (Ok tally))
    tally_reached None begins full = tt
    tally_reached (Some t) begins full =
        let whole = found ++ begins.others in
        let all : listed_by by whole ≡ kept_by by found =
        listed_by-reached by found given_within begins.others
        (ap (is_reached by.limit) (sym counted) ∙ full) in
        let more = ap length (filter-append (λ f. keeps by (listed_of f)) found begins.others)
        ∙ length-append (kept_by by found) (kept_by by begins.others) in
        record {
          found = whole;
          answer = begins.answer;
          decodes = begins.decodes;
          ends = inr (is_limit_listed by.limit tally.all.records (length (kept_by by whole))
              (omega (arith, more, counted)) full);
          tallies = subst (λ (fs : List FoundRecord). Tallies tally (map listed_of fs)) (sym all)
              so_far.tallies;
        }

    pub tally_failed : (tape : Option Tape) (e : ReadErr) → IfSome tape (Says size by found (Err e))
        → is_reached by.limit tally.all.records ≡ false → IfSome tape (IsTally size by (Err e))
    tally_failed None e says unreached = tt
    tally_failed (Some t) Memory says unreached = tt
    tally_failed (Some t) (Disk faults) says unreached = tt
    tally_failed (Some t) (Stopped stop) says unreached = record {
      found = found;
      decodes = says;
      below_limit = λ listed. is_limit_unreached by.limit (length (kept_by by found))
          (ap (is_reached by.limit) (sym counted) ∙ unreached) listed;
    }
