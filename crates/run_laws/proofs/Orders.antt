-- Entries that follow each other rise, rising entries stand sorted, and an order is settled by its
-- entries.
use Rattle.std.proofs.Common.{◌≡◌, ◌⊎◌, ℕ, ◌<◌, ◌≤◌, All, Bool, List, [], ◌∷◌, eqb, refl, sym, ap, ap₂, ◌∙◌, arith, inl, inr, true, false, leb, le-leb}
use Rattle.std.specs.List.{Contains, IsDistinct}
use Rattle.std.specs.List.Sorted.{IsPermutation}
use Rattle.std.proofs.lemmas.Bool.{cases_Bool, cond_both, eq-eqb, eqb-false, eqb-true, leb-false, leb-true, ne_eqb}
use Rattle.std.proofs.lemmas.List.Elements.{All-cons, All-contains, All-head, All-nil, All-weaker, Contains-append_cases, Contains-append_left, Contains-append_right, Contains-push, Contains-push_cases, recursion_from_All}
use Rattle.std.proofs.lemmas.List.Sorted.{All-permutation, Contains-permutation, IsPermutation-cons, IsPermutation-middle, IsPermutation-refl, IsPermutation-sym, IsPermutation-trans}
use Rattle.std.proofs.lemmas.Map.Keys.{IsDistinct-IsPermutation}
use Rattle.wal_page.specs.Order.{Entry, FollowsFrom, position_behind}
use Rattle.wal_page.proofs.OrderLaws.{room_at-pos}
use Rattle.run_laws.specs.Told.{IsRising, insert_by_start, sorted_by_start}

pub IsRising-FollowsFrom : (size position : ℕ) (es : List Entry) → FollowsFrom size position es → IsRising es
IsRising-FollowsFrom size position [] chain = tt
IsRising-FollowsFrom size position (e ∷ []) chain = tt
IsRising-FollowsFrom size position (e ∷ f ∷ es) chain =
    (omega (arith, chain.2.0, room_at-pos size e), IsRising-FollowsFrom size (position_behind size e) (f ∷ es) chain.2)

pub IsRising-tail : (e : Entry) (es : List Entry) → IsRising (e ∷ es) → IsRising es
IsRising-tail e [] rising = tt
IsRising-tail e (f ∷ es) rising = rising.1

pub insert_by_start-rising : (e : Entry) (es : List Entry) → IsRising (e ∷ es) → insert_by_start e es ≡ e ∷ es
insert_by_start-rising e [] rising = refl
insert_by_start-rising e (f ∷ es) rising =
    let first : leb e.start f.start ≡ true = le-leb e.start f.start (omega (arith, rising.0)) in
    rw first refl

pub sorted_by_start-rising : (es : List Entry) → IsRising es → sorted_by_start es ≡ es
sorted_by_start-rising [] rising = refl
sorted_by_start-rising (e ∷ es) rising =
    ap (insert_by_start e) (sorted_by_start-rising es (IsRising-tail e es rising)) ∙ insert_by_start-rising e es rising

-- entries that follow a position start at none before it
pub starts_above : (size bound position : ℕ) (later : List Entry) → bound ≤ position → FollowsFrom size position later → All (λ e. bound ≤ e.start) later
starts_above size bound position [] within follows = All-nil (λ (e : Entry). bound ≤ e.start)
starts_above size bound position (e ∷ later) within follows = All-cons (λ (f : Entry). bound ≤ f.start) e later (omega (arith, follows.0, within)) (starts_above size bound (position_behind size e) later (omega (arith, follows.0, within)) follows.2)

-- ---- the order is settled by its entries

-- the sorted entries are the same entries
flip : (e f : Entry) (es : List Entry) → IsPermutation (e ∷ f ∷ es) (f ∷ e ∷ es)
flip e f es = IsPermutation-sym (f ∷ e ∷ es) (e ∷ f ∷ es) (IsPermutation-middle (f ∷ []) e es)

insert_permutes : (e : Entry) (es : List Entry) → IsPermutation (e ∷ es) (insert_by_start e es)
insert_permutes e [] = IsPermutation-refl (e ∷ [])
insert_permutes e (f ∷ es) = cond_both (leb e.start f.start) (e ∷ f ∷ es) (f ∷ insert_by_start e es) (IsPermutation (e ∷ f ∷ es)) (λ _. IsPermutation-refl (e ∷ f ∷ es)) (λ _. IsPermutation-trans (e ∷ f ∷ es) (f ∷ e ∷ es) (f ∷ insert_by_start e es) (flip e f es) (IsPermutation-cons f (e ∷ es) (insert_by_start e es) (insert_permutes e es)))

pub sorted_permutes : (es : List Entry) → IsPermutation es (sorted_by_start es)
sorted_permutes [] = IsPermutation-refl []
sorted_permutes (e ∷ es) = IsPermutation-trans (e ∷ es) (e ∷ sorted_by_start es) (insert_by_start e (sorted_by_start es)) (IsPermutation-cons e es (sorted_by_start es) (sorted_permutes es)) (insert_permutes e (sorted_by_start es))

all_behind : (e : Entry) (es : List Entry) → IsRising (e ∷ es) → All (λ (f : Entry). e.start < f.start) es
all_behind e [] rising = All-nil (λ (f : Entry). e.start < f.start)
all_behind e (g ∷ es) rising = All-cons (λ (f : Entry). e.start < f.start) g es rising.0 (All-weaker (λ (f : Entry). g.start < f.start) (λ (f : Entry). e.start < f.start) (λ f lt. omega (arith, lt, rising.0)) es (all_behind g es rising.1))

none_in : (x : Entry) → Contains [] x → ⊥
none_in x c = omega (arith, c.1)

first_in : (x : Entry) (xs : List Entry) → Contains (x ∷ xs) x
first_in x xs = Contains-append_left (x ∷ []) xs x (Contains-push [] x)

cases_in : (y : Entry) (xs : List Entry) (x : Entry) → Contains (y ∷ xs) x → (y ≡ x) ⊎ Contains xs x
cases_in y xs x c =
    elim (Contains-append_cases (y ∷ []) xs x c) [
      | inl first ↦ elim (Contains-push_cases [] y x first) [
        | inl none ↦ absurd (none_in x none)
        | inr is ↦ inl is
      ]
      | inr later ↦ inr later
    ]

-- lists that rise and have the same entries are the same
same_first : (x y : Entry) (xs ys : List Entry) → IsRising (x ∷ xs) → IsRising (y ∷ ys) → Contains (y ∷ ys) x → Contains (x ∷ xs) y → x ≡ y
same_first x y xs ys first second there back =
    elim (cases_in y ys x there) [
      | inl is ↦ sym is
      | inr later ↦ elim (cases_in x xs y back) [
        | inl is ↦ is
        | inr also ↦ absurd (omega (arith, All-contains (λ (f : Entry). y.start < f.start) ys x (all_behind y ys second) later, All-contains (λ (f : Entry). x.start < f.start) xs y (all_behind x xs first) also))
      ]
    ]

rest_has : (x y : Entry) (xs ys : List Entry) → IsRising (x ∷ xs) → x ≡ y → ((z : Entry) → Contains (x ∷ xs) z → Contains (y ∷ ys) z) → (z : Entry) → Contains xs z → Contains ys z
rest_has x y xs ys rising same has z c =
    elim (cases_in y ys z (has z (Contains-append_right (x ∷ []) xs z c))) [
      | inl is ↦ absurd (omega (arith, All-contains (λ (f : Entry). x.start < f.start) xs z (all_behind x xs rising) c, ap (λ (f : Entry). f.start) (same ∙ is)))
      | inr later ↦ later
    ]

same_rising : (xs ys : List Entry) → IsRising xs → IsRising ys → ((z : Entry) → Contains xs z → Contains ys z) → ((z : Entry) → Contains ys z → Contains xs z) → xs ≡ ys
same_rising [] [] first second there back = refl
same_rising [] (y ∷ ys) first second there back = absurd (none_in y (back y (first_in y ys)))
same_rising (x ∷ xs) [] first second there back = absurd (none_in x (there x (first_in x xs)))
same_rising (x ∷ xs) (y ∷ ys) first second there back =
    let same = same_first x y xs ys first second (there x (first_in x xs)) (back y (first_in y ys)) in
    let rest = same_rising xs ys (IsRising-tail x xs first) (IsRising-tail y ys second) (rest_has x y xs ys first same there) (rest_has y x ys xs second (sym same) back) in
    ap₂ (λ (z : Entry) (zs : List Entry). z ∷ zs) same rest

-- no entry stands before one that starts earlier
NoneEarlier : List Entry → Type 0
NoneEarlier [] = Unit {0}
NoneEarlier (e ∷ es) = All (λ (f : Entry). e.start ≤ f.start) es × NoneEarlier es

none_earlier_inserted : (e : Entry) (es : List Entry) → NoneEarlier es → NoneEarlier (insert_by_start e es)
unfolding NoneEarlier
none_earlier_inserted e [] none = (All-nil (λ (f : Entry). e.start ≤ f.start), tt)
none_earlier_inserted e (f ∷ es) none =
    cond_both (leb e.start f.start) (e ∷ f ∷ es) (f ∷ insert_by_start e es) NoneEarlier
    (λ before. (All-cons (λ (g : Entry). e.start ≤ g.start) f es (leb-true _ _ before) (All-weaker (λ (g : Entry). f.start ≤ g.start) (λ (g : Entry). e.start ≤ g.start) (λ g le. omega (arith, le, leb-true e.start f.start before)) es none.0), none))
    (λ behind. (All-permutation (λ (g : Entry). f.start ≤ g.start) (e ∷ es) (insert_by_start e es) (insert_permutes e es) (All-cons (λ (g : Entry). f.start ≤ g.start) e es (omega (arith, leb-false e.start f.start behind)) none.0), none_earlier_inserted e es none.1))

none_earlier_sorted : (es : List Entry) → NoneEarlier (sorted_by_start es)
unfolding NoneEarlier
none_earlier_sorted [] = tt
none_earlier_sorted (e ∷ es) = none_earlier_inserted e (sorted_by_start es) (none_earlier_sorted es)

-- entries that rise have starts of their own, and sorted ones rise where they have
abbrev starts_with : Entry → Entry → Bool
starts_with e f = eqb e.start f.start

starts_flip : (e f : Entry) → starts_with e f ≡ starts_with f e
starts_flip e f =
    elim (cases_Bool (eqb e.start f.start)) [
      | inl same ↦ same ∙ sym (eq-eqb f.start e.start (sym (eqb-true e.start f.start same)))
      | inr other ↦ other ∙ sym (ne_eqb f.start e.start (λ is. absurd (omega (arith, is, eqb-false e.start f.start other))))
    ]

rising_distinct : (es : List Entry) → IsRising es → IsDistinct starts_with es
unfolding IsDistinct
rising_distinct [] rising = tt
rising_distinct (e ∷ es) rising = (
  recursion_from_All (λ (f : Entry). starts_with e f ≡ false) es (All-weaker (λ (f : Entry). e.start < f.start) (λ (f : Entry). starts_with e f ≡ false) (λ f lt. ne_eqb e.start f.start (λ is. absurd (omega (arith, is, lt)))) es (all_behind e es rising)),
  rising_distinct es (IsRising-tail e es rising),
)

distinct_rising : (es : List Entry) → NoneEarlier es → IsDistinct starts_with es → IsRising es
unfolding NoneEarlier IsDistinct
distinct_rising [] none distinct = tt
distinct_rising (e ∷ []) none distinct = tt
distinct_rising (e ∷ f ∷ es) none distinct = (
  omega (arith, All-head (λ (g : Entry). e.start ≤ g.start) f es none.0, eqb-false e.start f.start distinct.0.0),
  distinct_rising (f ∷ es) none.1 distinct.1,
)

-- an order without a gap that has these entries is these, sorted
pub order_is_sorted : (size position : ℕ) (entries order : List Entry) → IsPermutation entries order → FollowsFrom size position order → order ≡ sorted_by_start entries
order_is_sorted size position entries order same chained =
    let sorted = sorted_by_start entries in
    let rising = IsRising-FollowsFrom size position order chained in
    let also = IsPermutation-trans order entries sorted (IsPermutation-sym entries order same) (sorted_permutes entries) in
    let distinct = IsDistinct-IsPermutation starts_with starts_flip order sorted also (rising_distinct order rising) in
    same_rising order sorted rising (distinct_rising sorted (none_earlier_sorted entries) distinct) (λ e c. Contains-permutation order sorted e also c) (λ e c. Contains-permutation sorted order e (IsPermutation-sym order sorted also) c)
