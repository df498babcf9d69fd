-- Records that are listed one behind another.
use Rattle.std.proofs.Common.{◌≡◌, ℕ, ◌+◌, ◌-◌, ◌≤◌, Bool, true, false, List, [], ◌∷◌, ◌++◌, length, take, Option, Some, None, if◌then◌else◌, refl, sym, ap, subst, ◌∙◌, append_assoc, length-append, arith}
use Rattle.std.specs.Prelude.{IsSomeAnd}
use Rattle.std.proofs.lemmas.Grind.{flat_map-append}
use Rattle.std.proofs.lemmas.List.{append-nil, take_all}
use Rattle.std.proofs.lemmas.Bool.{leb-false, leb-true}
use Rattle.std.proofs.lemmas.List.Elements.{filter-append}
use Rattle.std.proofs.Math.Seq.{take-append-add, take-append_seam}
use Rattle.segment_disk.specs.Stream.{with_behind}
use Rattle.wal_reader.specs.declared.found.FoundRecord.{FoundRecord}
use Rattle.waldump_filter.specs.declared.Filter.{Filter}
use Rattle.waldump_filter.specs.Keeping.{is_reached, keeps}
use Rattle.waldump_text.specs.Listing.{IsLimitListed, kept_by, line_text, line_texts, listed_by, listed_of, listing, listing_in_reading, up_to}
use Rattle.waldump_text.specs.Put.{HasPut}
use Rattle.waldump_text.proofs.SinkLaws.{HasPut-front, HasPut-front_of_next, with_behind-append, with_behind-nil}

-- ---- what is printed of records

-- the lines of records by a filter that asks for no statistics
abbrev pub printed : Filter → List FoundRecord → List ℕ
printed by found = if by.quiet then [] else line_texts by.times found

append-unless : (quiet : Bool) (both one other : List ℕ) → both ≡ one ++ other → (if quiet then [] else both) ≡ (if quiet then [] else one) ++ (if quiet then [] else other)
append-unless true both one other parts = refl
append-unless false both one other parts = parts

printed-append : (by : Filter) (found others : List FoundRecord) → printed by (found ++ others) ≡ printed by found ++ printed by others
printed-append by found others = append-unless by.quiet _ _ _ (flat_map-append (λ f. line_text by.times (listed_of f)) found others)

same-unless : (quiet : Bool) (a b : List ℕ) → a ≡ b → (if quiet then [] else a) ≡ (if quiet then [] else b)
same-unless true a b same = refl
same-unless false a b same = same

none-unless : (quiet : Bool) → ◌≡◌ {A = List ℕ} [] (if quiet then [] else [])
none-unless true = refl
none-unless false = refl

printed-none : (by : Filter) → [] ≡ printed by []
printed-none by = none-unless by.quiet

pub printed-one : (by : Filter) (f : FoundRecord) → (if by.quiet then [] else line_text by.times (listed_of f)) ≡ printed by (f ∷ [])
printed-one by f = same-unless by.quiet (line_text by.times (listed_of f)) _ (sym (append-nil (line_text by.times (listed_of f))))

-- the lines of what a filter lists
abbrev pub lines_listed : Filter → List FoundRecord → List ℕ
lines_listed by found = printed by (listed_by by found)

without_statistics : (quiet stats : Bool) (sums lines : List ℕ) → stats ≡ false → (if quiet then [] else (if stats then sums else lines)) ≡ (if quiet then [] else lines)
without_statistics quiet stats sums lines none = rw none refl

-- without statistics they are the listing, and all of it that is put while the log is read
pub listing-lines : (by : Filter) → by.stats ≡ false → (found : List FoundRecord) → listing by found ≡ lines_listed by found
listing-lines by none found = without_statistics by.quiet by.stats _ (line_texts by.times (listed_by by found)) none

lines_in_reading : (stats : Bool) (text : List ℕ) → stats ≡ false → (if stats then [] else text) ≡ text
lines_in_reading stats text none = rw none refl

pub listing_in_reading-lines : (by : Filter) → by.stats ≡ false → (found : List FoundRecord) → listing_in_reading by found ≡ lines_listed by found
listing_in_reading-lines by none found = lines_in_reading by.stats (listing by found) none ∙ listing-lines by none found

-- a record that a filter keeps, and one that it does not
pub kept : (by : Filter) (f : FoundRecord) → keeps by (listed_of f) ≡ true → kept_by by (f ∷ []) ≡ f ∷ []
kept by f is = rw is refl

pub passed_over : (by : Filter) (f : FoundRecord) → keeps by (listed_of f) ≡ false → kept_by by (f ∷ []) ≡ []
passed_over by f is = rw is refl

-- ---- limits

-- a count of listed records is no more than a limit allows
abbrev pub IsWithin : Option ℕ → ℕ → Type 0
IsWithin None count = Unit {0}
IsWithin (Some limit) count = count ≤ limit

pub IsWithin-none : (limit : Option ℕ) → IsWithin limit 0
IsWithin-none None = tt
IsWithin-none (Some limit) = omega arith

pub up_to-parts : (limit : Option ℕ) (found others : List FoundRecord) → IsWithin limit (length found) → (rest : List FoundRecord) × (up_to limit (found ++ others) ≡ found ++ rest)
up_to-parts None found others within = (others, refl)
up_to-parts (Some limit) found others within =
    let left : ℕ = limit - length found in
    let parts : limit ≡ length found + left = omega arith in
    (take left others, ap (λ n. take n (found ++ others)) parts ∙ take-append-add found others left)

pub up_to-short : (limit : Option ℕ) (found : List FoundRecord) → IsWithin limit (length found) → up_to limit found ≡ found
up_to-short None found within = refl
up_to-short (Some limit) found within = take_all limit found within

-- one more record is within a limit that is not reached
pub IsWithin-more : (limit : Option ℕ) (count : ℕ) → is_reached limit count ≡ false → IsWithin limit (count + 1)
IsWithin-more None count unreached = tt
IsWithin-more (Some limit) count unreached = omega (arith, leb-false limit count unreached)

pub up_to-reached : (limit : Option ℕ) (found others : List FoundRecord) → IsWithin limit (length found) → is_reached limit (length found) ≡ true → up_to limit (found ++ others) ≡ found
up_to-reached None found others within full = cc
up_to-reached (Some limit) found others within full =
    let exact : limit ≡ length found = omega (arith, leb-true limit (length found) full) in
    ap (λ n. take n (found ++ others)) exact ∙ take-append_seam found others

-- a record that is read is printed if it is kept, and counted then
pub record Prints (by : Filter) (f : FoundRecord) (old new : Option (List ℕ)) (count more : ℕ) : Type 0 where
  pub kept : List FoundRecord
  pub kept_is : kept_by by (f ∷ []) ≡ kept
  pub taken : new ≡ with_behind old (printed by kept)
  pub count_is : more ≡ count + length kept
  pub one : more ≤ count + 1
  pub within : IsWithin by.limit more

pub Prints-kept : (by : Filter) (f : FoundRecord) (old new : Option (List ℕ)) (count more : ℕ) → keeps by (listed_of f) ≡ true → new ≡ with_behind old (if by.quiet then [] else line_text by.times (listed_of f)) → more ≡ count + 1 → is_reached by.limit count ≡ false → Prints by f old new count more
Prints-kept by f old new count more keeps taken one unreached = record {
  kept = f ∷ [];
  kept_is = kept by f keeps;
  taken = taken ∙ ap (with_behind old) (printed-one by f);
  count_is = one;
  one = omega arith;
  within = subst (IsWithin by.limit) (sym one) (IsWithin-more by.limit count unreached);
}

pub Prints-passed_over : (by : Filter) (f : FoundRecord) (old new : Option (List ℕ)) (count more : ℕ) → keeps by (listed_of f) ≡ false → new ≡ old → more ≡ count → IsWithin by.limit count → Prints by f old new count more
Prints-passed_over by f old new count more keeps same none within = record {
  kept = [];
  kept_is = passed_over by f keeps;
  taken = same ∙ sym (with_behind-nil old) ∙ ap (with_behind old) (printed-none by);
  count_is = omega arith;
  one = omega arith;
  within = subst (IsWithin by.limit) (sym none) within;
}

-- ---- listings of what is read up to somewhere

module _ (by : Filter) (found : List FoundRecord) (within : IsWithin by.limit (length (kept_by by found))) where
  kept_by-append : (others : List FoundRecord) → listed_by by (found ++ others) ≡ up_to by.limit (kept_by by found ++ kept_by by others)
  kept_by-append others = ap (up_to by.limit) (filter-append (λ f. keeps by (listed_of f)) found others)

  -- what is kept so far is printed in front of what comes
  listing-parts : (others : List FoundRecord) → (rest : List ℕ) × (lines_listed by (found ++ others) ≡ printed by (kept_by by found) ++ rest)
  listing-parts others =
      let parts = up_to-parts by.limit (kept_by by found) (kept_by by others) within in
      (printed by parts.0, ap (printed by) (kept_by-append others ∙ parts.1) ∙ printed-append by (kept_by by found) parts.0)

  -- all of it is listed
  pub listed_by-short : listed_by by found ≡ kept_by by found
  listed_by-short = up_to-short by.limit (kept_by by found) within

  -- so is it where more is to come, once the limit is reached
  pub listed_by-reached : (others : List FoundRecord) → is_reached by.limit (length (kept_by by found)) ≡ true → listed_by by (found ++ others) ≡ kept_by by found
  listed_by-reached others full = kept_by-append others ∙ up_to-reached by.limit (kept_by by found) (kept_by by others) within full

pub is_limit_listed : (limit : Option ℕ) (count more : ℕ) → count ≤ more → is_reached limit count ≡ true → IsSomeAnd limit (λ n. n ≤ more)
is_limit_listed None count more within full = cc
is_limit_listed (Some limit) count more within full = omega (arith, leb-true limit count full)

pub is_limit_unreached : (limit : Option ℕ) (count : ℕ) → is_reached limit count ≡ false → IsSomeAnd limit (λ n. n ≤ count) → ⊥
is_limit_unreached None count unreached listed = listed
is_limit_unreached (Some limit) count unreached listed = omega (arith, leb-false limit count unreached)

-- ---- records that are listed one behind another

-- records are listed by a filter, as many as it keeps of them
pub record Lists (by : Filter) (found : List FoundRecord) (old new : Option (List ℕ)) (count : ℕ)
    : Type 0 where
  pub taken : new ≡ with_behind old (printed by (kept_by by found))
  pub counted : length (kept_by by found) ≡ count
  pub few : count ≤ length found

module _ (by : Filter) (old : Option (List ℕ)) where
  pub Lists-none : Lists by [] old old 0
  Lists-none = record {
    taken = sym (with_behind-nil old) ∙ ap (with_behind old) (printed-none by);
    counted = refl;
    few = omega arith;
  }

  module _ (found : List FoundRecord) (mid : Option (List ℕ)) (count : ℕ)
      (lists : Lists by found old mid count) where
    module _ (within : IsWithin by.limit count) where
      given_within : IsWithin by.limit (length (kept_by by found))
      given_within = subst (IsWithin by.limit) (sym lists.counted) within

      -- whatever comes, a front of all is listed
      pub listed_front : (others : List FoundRecord)
          → (n : ℕ) × (mid ≡ with_behind old (take n (lines_listed by (found ++ others))))
      listed_front others =
          let parts = listing-parts by found given_within others in
          let put : HasPut old mid 0 0 (lines_listed by (found ++ others)) parts.0 = record {
            front = printed by (kept_by by found);
            parts = parts.1;
            taken = lists.taken;
            faults = refl;
          } in
          HasPut-front put

      -- if nothing comes, all is listed
      pub listed_all : (mid ≡ with_behind old (lines_listed by found))
          × (count ≡ length (listed_by by found))
      listed_all =
          let all = listed_by-short by found given_within in (
            lists.taken ∙ ap (λ (fs : List FoundRecord). with_behind old (printed by fs)) (sym all),
            sym lists.counted ∙ ap length (sym all),
          )

      -- so it is if the limit is reached, whatever comes
      pub listed_reached : (others : List FoundRecord) → is_reached by.limit count ≡ true
          → (mid ≡ with_behind old (lines_listed by (found ++ others)))
          × (count ≡ length (listed_by by (found ++ others))) × IsLimitListed by (found ++ others)
      listed_reached others full =
          let full_of : is_reached by.limit (length (kept_by by found)) ≡ true =
          ap (is_reached by.limit) lists.counted ∙ full in
          let all = listed_by-reached by found given_within others full_of in
          let more = ap length (filter-append (λ f. keeps by (listed_of f)) found others)
          ∙ length-append (kept_by by found) (kept_by by others) in (
            lists.taken ∙ ap (λ (fs : List FoundRecord). with_behind old (printed by fs)) (sym all),
            sym lists.counted ∙ ap length (sym all),
            is_limit_listed by.limit count (length (kept_by by (found ++ others)))
                (omega (arith, more, lists.counted)) full,
          )

    -- the limit is not listed where it is not reached
    pub limit_unlisted : is_reached by.limit count ≡ false → IsLimitListed by found → ⊥
    limit_unlisted unreached listed =
        is_limit_unreached by.limit (length (kept_by by found))
        (ap (is_reached by.limit) lists.counted ∙ unreached) listed

    module _ (f : FoundRecord) (kept : List FoundRecord) (kept_is : kept_by by (f ∷ []) ≡ kept) where
      kept_more : kept_by by (found ++ f ∷ []) ≡ kept_by by found ++ kept
      kept_more =
          filter-append (λ g. keeps by (listed_of g)) found (f ∷ [])
          ∙ ap (λ (fs : List FoundRecord). kept_by by found ++ fs) kept_is

      counted_more : length (kept_by by (found ++ f ∷ [])) ≡ count + length kept
      counted_more =
          ap length kept_more ∙ length-append (kept_by by found) kept
          ∙ ap (λ n. n + length kept) lists.counted

      -- the sink fails at its line
      pub listed_front_of_next : (new : Option (List ℕ)) → IsWithin by.limit (count + length kept)
          → (others : List FoundRecord)
          → (n : ℕ) × (new ≡ with_behind mid (take n (printed by kept)))
          → (n : ℕ) × (new ≡ with_behind old (take n (lines_listed by ((found ++ f ∷ []) ++ others))))
      listed_front_of_next new within others taken =
          let given = found ++ f ∷ [] in
          let parts =
          listing-parts by given (subst (IsWithin by.limit) (sym counted_more) within) others in
          let whole : lines_listed by (given ++ others)
          ≡ printed by (kept_by by found) ++ (printed by kept ++ parts.0) =
          parts.1
          ∙ ap (λ (text : List ℕ). text ++ parts.0)
          (ap (printed by) kept_more ∙ printed-append by (kept_by by found) kept)
          ∙ append_assoc (printed by (kept_by by found)) (printed by kept) parts.0 in
          let put : HasPut old mid 0 0 (lines_listed by (given ++ others))
          (printed by kept ++ parts.0) = record {
            front = printed by (kept_by by found);
            parts = whole;
            taken = lists.taken;
            faults = refl;
          } in
          HasPut-front_of_next (printed by kept) parts.0 put refl taken

    -- a record more is printed if it is kept
    pub Lists-more : (f : FoundRecord) (new : Option (List ℕ)) (more : ℕ)
        → Prints by f mid new count more → Lists by (found ++ f ∷ []) old new more
    Lists-more f new more prints =
        let kept_here = kept_more f prints.kept prints.kept_is in record {
          taken =
              prints.taken
              ∙ ap (λ (text : Option (List ℕ)). with_behind text (printed by prints.kept)) lists.taken
              ∙ with_behind-append old (printed by (kept_by by found)) (printed by prints.kept)
              ∙ ap (with_behind old) (sym (ap (printed by) kept_here
              ∙ printed-append by (kept_by by found) prints.kept));
          counted = counted_more f prints.kept prints.kept_is ∙ sym prints.count_is;
          few = omega (arith, prints.one, lists.few, length-append found (f ∷ []));
        }
