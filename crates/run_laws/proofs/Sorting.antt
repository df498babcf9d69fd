-- What the passes of an order reserved, put together pass by pass and sorted, is the order.
use Rattle.std.proofs.Common.{◌≡◌, ◌≢◌, ◌⊎◌, ℕ, suc, zero, ◌+◌, ◌<◌, ◌≤◌, cond, Bool, true, false, leb, ltb, ltb-true, ltb-false, All, List, [], ◌∷◌, ◌++◌, Some, IsSome, inl, inr, refl, sym, ap, ◌∙◌, subst, arith}
use Rattle.std.proofs.lemmas.Bool.{le-leb, lt-leb}
use Rattle.std.proofs.lemmas.List.Elements.{All-head, All-tail}
use Rattle.wal_page.specs.Order.{Entry, FollowsFrom, position_behind}
use Rattle.wal_page.proofs.OrderLaws.{room_at-pos}
use Rattle.machine_state.specs.Ordered.{entries_under, is_pass}
use Rattle.machine_laws.proofs.OrderedEntries.{is_pass_own, is_pass_other}
use Rattle.machine_laws.proofs.OrderUnique.{named}
use Rattle.run_laws.specs.Told.{insert_by_start, sorted_by_start}

-- each starts behind a position
abbrev AreBehind : ℕ → List Entry → Type 0
AreBehind position [] = Unit {0}
AreBehind position (e ∷ es) = (position < e.start) × AreBehind position es

-- the entries of so many passes, from one on
abbrev pub under_from : ℕ → ℕ → List Entry → List Entry
under_from pass zero es = []
under_from pass (suc n) es = entries_under pass es ++ under_from (pass + 1) n es

hit : (n : ℕ) (e : Entry) (es : List Entry) → is_pass n e.pass ≡ true
    → entries_under n (e ∷ es) ≡ e ∷ entries_under n es
hit n e es h = ap (λ (b : Bool). cond b (e ∷ entries_under n es) (entries_under n es)) h

miss : (n : ℕ) (e : Entry) (es : List Entry) → is_pass n e.pass ≡ false
    → entries_under n (e ∷ es) ≡ entries_under n es
miss n e es h = ap (λ (b : Bool). cond b (e ∷ entries_under n es) (entries_under n es)) h

-- ---- what starts behind a position

behind_append : (position : ℕ) (xs ys : List Entry) → AreBehind position xs
    → AreBehind position ys → AreBehind position (xs ++ ys)
behind_append position [] ys p q = q
behind_append position (x ∷ xs) ys p q = (p.0, behind_append position xs ys p.1 q)

behind_first : (position : ℕ) (b : Bool) (e : Entry) (es : List Entry) → position < e.start
    → AreBehind position es → AreBehind position (cond b (e ∷ es) es)
behind_first position true e es p q = (p, q)
behind_first position false e es p q = q

behind_under : (position n : ℕ) (es : List Entry) → AreBehind position es
    → AreBehind position (entries_under n es)
behind_under position n [] p = tt
behind_under position n (e ∷ es) p =
    behind_first position (is_pass n e.pass) e (entries_under n es) p.0
    (behind_under position n es p.1)

behind_under_from : (position pass n : ℕ) (es : List Entry) → AreBehind position es
    → AreBehind position (under_from pass n es)
behind_under_from position pass zero es p = tt
behind_under_from position pass (suc n) es p =
    behind_append position (entries_under pass es) (under_from (pass + 1) n es)
    (behind_under position pass es p) (behind_under_from position (pass + 1) n es p)

behind_insert : (position : ℕ) (e : Entry) (es : List Entry) → position < e.start
    → AreBehind position es → AreBehind position (insert_by_start e es)
behind_insert position e [] p q = (p, tt)
behind_insert position e (f ∷ es) p q =
    by_test (leb e.start f.start) (behind_insert position e es p q.1)
  where
    by_test : (b : Bool) → AreBehind position (insert_by_start e es)
        → AreBehind position (cond b (e ∷ f ∷ es) (f ∷ insert_by_start e es))
    by_test true others = (p, q)
    by_test false others = (q.0, others)

behind_sorted : (position : ℕ) (es : List Entry) → AreBehind position es
    → AreBehind position (sorted_by_start es)
behind_sorted position [] p = tt
behind_sorted position (e ∷ es) p =
    behind_insert position e (sorted_by_start es) p.0 (behind_sorted position es p.1)

-- those of a chain start behind each position before it
behind_chain : (size position low : ℕ) (es : List Entry) → FollowsFrom size position es
    → low < position → AreBehind low es
behind_chain size position low [] chain within = tt
behind_chain size position low (e ∷ es) chain within = (
  omega (arith, chain.0, within),
  behind_chain size (position_behind size e) low es chain.2 (omega (arith, chain.0, within)),
)

-- ---- the first entry of an order, among others

-- before all others it is put first, and others are put behind it
insert_first : (e : Entry) (es : List Entry) → AreBehind e.start es
    → insert_by_start e es ≡ e ∷ es
insert_first e [] p = refl
insert_first e (f ∷ es) p =
    let first : leb e.start f.start ≡ true = le-leb e.start f.start (omega (arith, p.0)) in
    rw first refl

insert_behind : (a e : Entry) (es : List Entry) → e.start < a.start
    → insert_by_start a (e ∷ es) ≡ e ∷ insert_by_start a es
insert_behind a e es p =
    let later : leb a.start e.start ≡ false = lt-leb a.start e.start p in
    rw later refl

sorted_behind : (e : Entry) (front xs ys : List Entry) → AreBehind e.start front
    → sorted_by_start xs ≡ e ∷ sorted_by_start ys
    → sorted_by_start (front ++ xs) ≡ e ∷ sorted_by_start (front ++ ys)
sorted_behind e [] xs ys p is = is
sorted_behind e (a ∷ front) xs ys p is =
    ap (insert_by_start a) (sorted_behind e front xs ys p.1 is)
    ∙ insert_behind a e (sorted_by_start (front ++ ys)) p.0

-- ---- an order's first entry, by its pass

abbrev IsNamed : Entry → Type 0
IsNamed e = IsSome e.pass

-- no passes have entries but so many, from one on
abbrev pub NoneOutside : ℕ → ℕ → List Entry → Type 0
NoneOutside first n es =
    (q : ℕ) → (q < first) ⊎ (first + n ≤ q) → entries_under q es ≡ []

module _ (p : ℕ) (e : Entry) (es : List Entry) (is : e.pass ≡ Some p) where
  miss_other : (n : ℕ) → p ≢ n → entries_under n (e ∷ es) ≡ entries_under n es
  miss_other n apart = miss n e es (ap (is_pass n) is ∙ is_pass_other n p apart)

  hit_own : entries_under p (e ∷ es) ≡ e ∷ entries_under p es
  hit_own = hit p e es (ap (is_pass p) is ∙ is_pass_own p)

  -- passes with greater numbers do not have it
  under_above : (pass n : ℕ) → p < pass → under_from pass n (e ∷ es) ≡ under_from pass n es
  under_above pass zero above = refl
  under_above pass (suc n) above =
      ap (λ (l : List Entry). l ++ under_from (pass + 1) n (e ∷ es))
      (miss_other pass (λ same. omega (arith, same, above)))
      ∙ ap (λ (l : List Entry). entries_under pass es ++ l)
      (under_above (pass + 1) n (omega (arith, above)))

  sorted_first : (pass n : ℕ) → pass ≤ p → p < pass + n → AreBehind e.start es
      → sorted_by_start (under_from pass n (e ∷ es))
      ≡ e ∷ sorted_by_start (under_from pass n es)
  sorted_first pass zero low high behind = absurd (omega (arith, low, high))
  sorted_first pass (suc n) low high behind =
      by_test (ltb pass p) refl
      (λ above. sorted_first (pass + 1) n (omega (arith, above)) (omega (arith, high)) behind)
    where
      own : p ≡ pass → under_from pass (suc n) (e ∷ es) ≡ e ∷ under_from pass (suc n) es
      own same =
          ap (λ (l : List Entry). l ++ under_from (pass + 1) n (e ∷ es))
          (subst (λ (k : ℕ). entries_under k (e ∷ es) ≡ e ∷ entries_under k es) same hit_own)
          ∙ ap (λ (l : List Entry). e ∷ (entries_under pass es ++ l))
          (under_above (pass + 1) n (omega (arith, same)))

      by_test : (b : Bool) → ltb pass p ≡ b
          → (pass < p → sorted_by_start (under_from (pass + 1) n (e ∷ es))
          ≡ e ∷ sorted_by_start (under_from (pass + 1) n es))
          → sorted_by_start (under_from pass (suc n) (e ∷ es))
          ≡ e ∷ sorted_by_start (under_from pass (suc n) es)
      by_test true t others =
          let above = ltb-true pass p t in
          ap (λ (l : List Entry). sorted_by_start (l ++ under_from (pass + 1) n (e ∷ es)))
          (miss_other pass (λ same. omega (arith, same, above)))
          ∙ sorted_behind e (entries_under pass es) (under_from (pass + 1) n (e ∷ es))
          (under_from (pass + 1) n es) (behind_under e.start pass es behind)
          (others above)
      by_test false t others =
          let same : p ≡ pass = omega (arith, low, ltb-false pass p t) in
          ap sorted_by_start (own same)
          ∙ insert_first e (sorted_by_start (under_from pass (suc n) es))
          (behind_sorted e.start (under_from pass (suc n) es)
          (behind_under_from e.start pass (suc n) es behind))

  in_range : (first n : ℕ) → NoneOutside first n (e ∷ es) → (first ≤ p) × (p < first + n)
  in_range first n none = (low (ltb p first) refl, high (ltb p (first + n)) refl)
    where
      outside : (p < first) ⊎ (first + n ≤ p) → ⊥
      outside o = let t = sym (none p o) ∙ hit_own in cc

      low : (b : Bool) → ltb p first ≡ b → first ≤ p
      low true t = absurd (outside (inl (ltb-true p first t)))
      low false t = ltb-false p first t

      high : (b : Bool) → ltb p (first + n) ≡ b → p < first + n
      high true t = ltb-true p (first + n) t
      high false t = absurd (outside (inr (ltb-false p (first + n) t)))

without_first : (b : Bool) (e : Entry) (es : List Entry) → cond b (e ∷ es) es ≡ [] → es ≡ []
without_first true e es is = absurd (cc)
without_first false e es is = is

none_under : (pass n : ℕ) → under_from pass n [] ≡ []
none_under pass zero = refl
none_under pass (suc n) = none_under (pass + 1) n

pub sorted_under : (size position first n : ℕ) (es : List Entry) → FollowsFrom size position es
    → All (λ e. IsSome e.pass) es → NoneOutside first n es
    → sorted_by_start (under_from first n es) ≡ es
sorted_under size position first n [] follows names none = ap sorted_by_start (none_under first n)
sorted_under size position first n (e ∷ es) follows names none =
    let p = named e.pass (All-head IsNamed e es names) in
    let range = in_range p.0 e es p.1 first n none in
    let behind = behind_chain size (position_behind size e) e.start es follows.2
    (omega (arith, room_at-pos size e)) in
    sorted_first p.0 e es p.1 first n range.0 range.1 behind
    ∙ ap (λ (l : List Entry). e ∷ l)
    (sorted_under size (position_behind size e) first n es follows.2 (All-tail IsNamed e es names)
    (λ q o. without_first (is_pass q e.pass) e (entries_under q es) (none q o)))
