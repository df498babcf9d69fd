-- A reader whose records are handed on, one behind another.
use Rattle.std.proofs.Common.{◌≡◌, ℕ, ◌+◌, true, false, List, [], ◌∷◌, ◌++◌, length, map, Option, Some, refl, sym, ap, subst, ◌∙◌, append_assoc, length-append, arith}
use Rattle.std.proofs.lemmas.List.{append-nil, map-append}
use Rattle.std.proofs.lemmas.List.Elements.{filter-append}
use Rattle.wal_reader.specs.LogReader.{ReaderState}
use Rattle.wal_reader.specs.Pages.{Pages}
use Rattle.wal_reader.specs.declared.found.FoundRecord.{FoundRecord}
use Rattle.wal_reader.specs.SoFar.{unbegun}
use Rattle.wal_reader.specs.declared.found.Answer.{Answer}
use Rattle.waldump_filter.specs.declared.Filter.{Filter}
use Rattle.waldump_filter.specs.declared.listed.Listed.{Listed}
use Rattle.waldump_filter.specs.Keeping.{is_reached, keeps}
use Rattle.waldump_text.specs.Listing.{IsLimitListed, kept_by, listed_by, listed_of, up_to}
use Rattle.waldump_text.proofs.ListingLaws.{IsWithin, is_limit_listed, is_limit_unreached, kept, passed_over, listed_by-reached, listed_by-short, up_to-parts}
use Rattle.cluster_listing.specs.Past.{GivesPast}
use Rattle.cluster_listing.specs.Walk.{records_listed}

-- those that a filter keeps, as they are listed
abbrev pub records_kept : Filter → List FoundRecord → List Listed
records_kept by found = map listed_of (kept_by by found)

-- what a reader gave from a start on is handed on by a filter, so many records, and it still gives
-- what comes behind that
pub record IsUnderway (by : Filter) (pages : Pages) (start now : ReaderState) (Took : List Listed → Type 0) (count : ℕ) : Type 0 where
  pub given : List FoundRecord
  pub whole : (others : List FoundRecord) (told : Option Answer) → GivesPast pages now others told → GivesPast pages start (given ++ others) told
  pub taken : Took (records_kept by given)
  pub counted : length (kept_by by given) ≡ count

module _ (by : Filter) (pages : Pages) (start : ReaderState) where
  pub IsUnderway-none : (Took : List Listed → Type 0) → Took [] → IsUnderway by pages start start Took 0
  IsUnderway-none Took none = record { given = []; whole = λ others told gives. gives; taken = none; counted = refl }

  module _ (now : ReaderState) (Took : List Listed → Type 0) (count : ℕ) (underway : IsUnderway by pages start now Took count) where
    module _ (within : IsWithin by.limit count) where
      given_within : IsWithin by.limit (length (kept_by by underway.given))
      given_within = subst (IsWithin by.limit) (sym underway.counted) within

      -- wherever the reader stands a front of what is listed was taken
      pub taken_front : (others : List FoundRecord) → (rest : List Listed) × (records_listed by (underway.given ++ others) ≡ records_kept by underway.given ++ rest)
      taken_front others =
          let parts = up_to-parts by.limit (kept_by by underway.given) (kept_by by others) given_within in
          let all = ap (up_to by.limit) (filter-append (λ f. keeps by (listed_of f)) underway.given others) ∙ parts.1 in
          (map listed_of parts.0, ap (map listed_of) all ∙ map-append listed_of (kept_by by underway.given) parts.0)

      -- where the reader stops all is taken
      pub taken_all : (answer : Answer) → GivesPast pages now [] (Some answer) → GivesPast pages start underway.given (Some answer) × Took (records_listed by underway.given) × (count ≡ length (listed_by by underway.given))
      taken_all answer ends =
          let all = listed_by-short by underway.given given_within in (
            subst (λ (found : List FoundRecord). GivesPast pages start found (Some answer)) (append-nil underway.given) (underway.whole [] (Some answer) ends),
            subst (λ (fs : List FoundRecord). Took (map listed_of fs)) (sym all) underway.taken,
            sym underway.counted ∙ ap length (sym all),
          )

      -- so it is where the limit is reached, whatever comes
      pub taken_reached : (others : List FoundRecord) → is_reached by.limit count ≡ true → Took (records_listed by (underway.given ++ others)) × (count ≡ length (listed_by by (underway.given ++ others))) × IsLimitListed by (underway.given ++ others)
      taken_reached others full =
          let full_of : is_reached by.limit (length (kept_by by underway.given)) ≡ true = ap (is_reached by.limit) underway.counted ∙ full in
          let all = listed_by-reached by underway.given given_within others full_of in
          let more = ap length (filter-append (λ f. keeps by (listed_of f)) underway.given others) ∙ length-append (kept_by by underway.given) (kept_by by others) in (
            subst (λ (fs : List FoundRecord). Took (map listed_of fs)) (sym all) underway.taken,
            sym underway.counted ∙ ap length (sym all),
            is_limit_listed by.limit count (length (kept_by by (underway.given ++ others))) (omega (arith, more, underway.counted)) full,
          )

    -- the limit is not listed where it is not reached
    pub limit_unlisted : is_reached by.limit count ≡ false → IsLimitListed by underway.given → ⊥
    limit_unlisted unreached listed = is_limit_unreached by.limit (length (kept_by by underway.given)) (ap (is_reached by.limit) underway.counted ∙ unreached) listed

    -- where reading begins again it goes on there
    pub IsUnderway-anew : (from : ℕ) → ((others : List FoundRecord) (told : Option Answer) → GivesPast pages (unbegun now.size from now.end) others told → GivesPast pages now others told) → IsUnderway by pages start (unbegun now.size from now.end) Took count
    IsUnderway-anew from anew = record {
      given = underway.given;
      whole = λ others told gives. underway.whole others told (anew others told gives);
      taken = underway.taken;
      counted = underway.counted;
    }

    module _ (next : ReaderState) (f : FoundRecord) (is : (others : List FoundRecord) (told : Option Answer) → GivesPast pages next others told → GivesPast pages now (f ∷ others) told) where
      whole_behind : (others : List FoundRecord) (told : Option Answer) → GivesPast pages next others told → GivesPast pages start ((underway.given ++ f ∷ []) ++ others) told
      whole_behind others told gives = subst (λ (found : List FoundRecord). GivesPast pages start found told) (sym (append_assoc underway.given (f ∷ []) others)) (underway.whole (f ∷ others) told (is others told gives))

      kept_more : (kept : List FoundRecord) → kept_by by (f ∷ []) ≡ kept → kept_by by (underway.given ++ f ∷ []) ≡ kept_by by underway.given ++ kept
      kept_more kept kept_is = filter-append (λ g. keeps by (listed_of g)) underway.given (f ∷ []) ∙ ap (λ (fs : List FoundRecord). kept_by by underway.given ++ fs) kept_is

      -- a record that is kept is handed on
      pub IsUnderway-kept : keeps by (listed_of f) ≡ true → (Further : List Listed → Type 0) → ((records : List Listed) → Took records → Further (records ++ listed_of f ∷ [])) → IsUnderway by pages start next Further (count + 1)
      IsUnderway-kept keeps_it Further further =
          let more = kept_more (f ∷ []) (kept by f keeps_it) in record {
            given = underway.given ++ f ∷ [];
            whole = whole_behind;
            taken = subst Further (sym (ap (map listed_of) more ∙ map-append listed_of (kept_by by underway.given) (f ∷ []))) (further (records_kept by underway.given) underway.taken);
            counted = ap length more ∙ length-append (kept_by by underway.given) (f ∷ []) ∙ ap (λ n. n + 1) underway.counted;
          }

      -- one that is not is passed over
      pub IsUnderway-passed : keeps by (listed_of f) ≡ false → IsUnderway by pages start next Took count
      IsUnderway-passed passes =
          let more = kept_more [] (passed_over by f passes) ∙ append-nil (kept_by by underway.given) in record {
            given = underway.given ++ f ∷ [];
            whole = whole_behind;
            taken = subst (λ (fs : List FoundRecord). Took (map listed_of fs)) (sym more) underway.taken;
            counted = ap length more ∙ underway.counted;
          }

      -- what is listed where a record is kept within the limit, whatever comes behind it
      pub listed_behind : keeps by (listed_of f) ≡ true → IsWithin by.limit (count + 1) → (others : List FoundRecord) → (more : List Listed) × (records_listed by (underway.given ++ f ∷ others) ≡ records_kept by underway.given ++ listed_of f ∷ more)
      listed_behind keeps_it within others =
          let so_far = kept_more (f ∷ []) (kept by f keeps_it) in
          let counted : length (kept_by by underway.given ++ f ∷ []) ≡ count + 1 = length-append (kept_by by underway.given) (f ∷ []) ∙ ap (λ n. n + 1) underway.counted in
          let parts = up_to-parts by.limit (kept_by by underway.given ++ f ∷ []) (kept_by by others) (subst (IsWithin by.limit) (sym counted) within) in
          let filtered : kept_by by (underway.given ++ f ∷ others) ≡ (kept_by by underway.given ++ f ∷ []) ++ kept_by by others =
          ap (kept_by by) (sym (append_assoc underway.given (f ∷ []) others)) ∙ filter-append (λ g. keeps by (listed_of g)) (underway.given ++ f ∷ []) others ∙ ap (λ (fs : List FoundRecord). fs ++ kept_by by others) so_far in
          let all = ap (up_to by.limit) filtered ∙ parts.1 ∙ append_assoc (kept_by by underway.given) (f ∷ []) parts.0 in
          (map listed_of parts.0, ap (map listed_of) all ∙ map-append listed_of (kept_by by underway.given) (f ∷ parts.0))
