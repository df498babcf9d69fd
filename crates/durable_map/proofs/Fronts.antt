-- Fronts of a log's records, and of the changes that they say.
use Rattle.std.proofs.Common.{◌≡◌, ℕ, ◌+◌, ◌≤◌, Contains, List, [], ◌∷◌, ◌++◌, inl, inr, refl, ap, subst, ◌∙◌, arith}
use Rattle.std.proofs.lemmas.List.Elements.{Contains-append_cases, Contains-push_cases}
use Rattle.byte_position.specs.Position.{address_of}
use Rattle.wal_page.specs.Order.{Entry, prev_of}
use Rattle.wal_reader.specs.declared.found.FoundRecord.{FoundRecord}
use Rattle.written_log_laws.specs.Written.{found_entry, found_from}
use Rattle.wal_log_laws.specs.Growing.{IsFrontOf}
use Rattle.wal_log_laws.specs.Lives.{StartsRise}
use Rattle.durable_map.specs.Changes.{MapChange}
use Rattle.durable_map.specs.Opening.{AreSaid}
use Rattle.durable_map.specs.Records.{SaysChange}
use Rattle.durable_map.proofs.Spelled.{same_change}

-- ---- the entries of a log

-- entries say changes, each the one at its place
abbrev pub SayEach : List Entry → List MapChange → Type 0
SayEach [] [] = Unit {0}
SayEach [] (change ∷ changes) = ⊥
SayEach (e ∷ es) [] = ⊥
SayEach (e ∷ es) (change ∷ changes) = SaysChange e.value change × SayEach es changes

pub say_each_append : (es fs : List Entry) (xs ys : List MapChange) → SayEach es xs
    → SayEach fs ys → SayEach (es ++ fs) (xs ++ ys)
say_each_append [] fs [] ys first second = second
say_each_append [] fs (x ∷ xs) ys first second = absurd first
say_each_append (e ∷ es) fs [] ys first second = absurd first
say_each_append (e ∷ es) fs (x ∷ xs) ys first second =
    (first.0, say_each_append es fs xs ys first.1 second)

pub found_from-append : (size prev : ℕ) (es fs : List Entry) → found_from size prev (es ++ fs)
    ≡ found_from size prev es ++ found_from size (prev_of size prev es) fs
found_from-append size prev [] fs = refl
found_from-append size prev (e ∷ es) fs =
    ap (λ (l : List FoundRecord). found_entry size prev e ∷ l)
    (found_from-append size (address_of size e.start) es fs)

pub said_each : (size prev : ℕ) (es : List Entry) (changes : List MapChange)
    → SayEach es changes → AreSaid (found_from size prev es) changes
said_each size prev [] [] said = tt
said_each size prev [] (x ∷ xs) said = absurd said
said_each size prev (e ∷ es) [] said = absurd said
said_each size prev (e ∷ es) (x ∷ xs) said =
    (said.0, said_each size (address_of size e.start) es xs said.1)

-- ---- the changes that records say

pub are_said_append : (rs ss : List FoundRecord) (xs ys : List MapChange) → AreSaid rs xs
    → AreSaid ss ys → AreSaid (rs ++ ss) (xs ++ ys)
are_said_append [] ss [] ys first second = second
are_said_append [] ss (x ∷ xs) ys first second = absurd first
are_said_append (r ∷ rs) ss [] ys first second = absurd first
are_said_append (r ∷ rs) ss (x ∷ xs) ys first second =
    (first.0, are_said_append rs ss xs ys first.1 second)

-- what a front of some records says is a front of what all say
pub front_said : (rs back : List FoundRecord) (xs ys : List MapChange) → AreSaid rs xs
    → AreSaid (rs ++ back) ys → IsFrontOf xs ys
front_said [] back [] ys front whole = (ys, refl)
front_said [] back (x ∷ xs) ys front whole = absurd front
front_said (r ∷ rs) back [] ys front whole = absurd front
front_said (r ∷ rs) back (x ∷ xs) [] front whole = absurd whole
front_said (r ∷ rs) back (x ∷ xs) (y ∷ ys) front whole =
    let rest = front_said rs back xs ys front.1 whole.1 in (
      rest.0,
      ap (λ (c : MapChange). c ∷ ys) (same_change r.value y x whole.0 front.0)
          ∙ ap (λ (l : List MapChange). x ∷ l) rest.1,
    )

-- ---- where a record stands

same_first : (r s : FoundRecord) (rs ss : List FoundRecord) → r ∷ rs ≡ s ∷ ss → r ≡ s
same_first r s rs ss same = cc

same_rest : (r s : FoundRecord) (rs ss : List FoundRecord) → r ∷ rs ≡ s ∷ ss → rs ≡ ss
same_rest r s rs ss same = cc

-- one behind others starts behind them
later : (low : ℕ) (before behind : List FoundRecord) (r : FoundRecord)
    → StartsRise low (before ++ r ∷ behind) → low ≤ r.head.start.0
later low [] behind r rise = rise.0
later low (b ∷ before) behind r rise =
    let more = later (b.head.start.0 + 1) before behind r rise.1 in omega (arith, rise.0, more)

only_first : (x r : FoundRecord) (rs : List FoundRecord) → Contains (x ∷ rs) r
    → (x ≡ r → Contains rs r) → Contains rs r
only_first x r rs has first = elim (Contains-append_cases (x ∷ []) rs r has) [
  | inl here ↦ elim (Contains-push_cases [] x r here) [
    | inl none ↦ absurd (omega (arith, none.1))
    | inr is ↦ first is
  ]
  | inr there ↦ there
]

-- a front that has a record has all records up to it
pub reaches : (low : ℕ) (front back before behind : List FoundRecord) (r : FoundRecord)
    → StartsRise low (front ++ back) → front ++ back ≡ before ++ r ∷ behind → Contains front r
    → (rest : List FoundRecord) × (front ≡ before ++ r ∷ rest)
reaches low [] back before behind r rise same has = absurd (omega (arith, has.1))
reaches low (x ∷ front) back [] behind r rise same has =
    (front, ap (λ (f : FoundRecord). f ∷ front) (same_first x r (front ++ back) behind same))
reaches low (x ∷ front) back (b ∷ before) behind r rise same has =
    let first = same_first x b (front ++ back) (before ++ r ∷ behind) same in
    let others = same_rest x b (front ++ back) (before ++ r ∷ behind) same in
    let above = later (x.head.start.0 + 1) before behind r
    (subst (StartsRise (x.head.start.0 + 1)) others rise.1) in
    let rest = reaches (x.head.start.0 + 1) front back before behind r rise.1 others
    (only_first x r front has
    (λ is. let at : x.head.start.0 ≡ r.head.start.0 = ap (λ (f : FoundRecord). f.head.start.0) is in
    absurd (omega (arith, at, above)))) in (
      rest.0,
      ap (λ (f : FoundRecord). f ∷ front) first ∙ ap (λ (l : List FoundRecord). b ∷ l) rest.1,
    )
