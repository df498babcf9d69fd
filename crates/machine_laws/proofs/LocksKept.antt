-- Small laws of lists and choices for the laws of this crate.
use Rattle.std.proofs.Common.{◌≡◌, ◌≢◌, ℕ, zero, suc, ◌<◌, Bool, true, false, cond, eqb, eq-eqb, ne_eqb, List, [], ◌∷◌, length, set, Contains, filter, slice_index_or, sym, ap, ◌∙◌, subst, arith}
use Rattle.std.proofs.lemmas.Bool.{cond-true}
use Rattle.std.proofs.lemmas.List.Elements.{All-contains, All-contains_itself, All-filter, filter_passes}
use mathlib.Core.Logic.{dite}
use native.Mathlib.Decide.{ℕ_discrete}
use Rattle.atomic_table.proofs.Lists.{set_again}
use Rattle.machine_state.specs.Views.{HasAt}

-- ---- choices by an equality of numbers

pub met_cases : (P : Bool → Type 0) (a b : ℕ) → (a ≡ b → P true) → (a ≢ b → P false) → P (eqb a b)
met_cases P a b hit miss = dite (ℕ_discrete a b)
    (λ e. subst P (sym (eq-eqb a b e)) (hit e))
    (λ ne. subst P (sym (ne_eqb a b ne)) (miss ne))

-- ---- what a filter keeps

module _ {X : Type 0} (p : X → Bool) where
  -- what a filter keeps was there and passes
  pub kept_was : (xs : List X) (x : X) → Contains (filter p xs) x → Contains xs x × (p x ≡ true)
  kept_was xs x has = (
    All-contains (λ (y : X). Contains xs y) (filter p xs) x
        (All-filter p (λ (y : X). Contains xs y) xs (All-contains_itself xs)) has,
    All-contains (λ (y : X). p y ≡ true) (filter p xs) x (filter_passes p xs) has,
  )

  further : (b : Bool) (y : X) (ys : List X) (x : X) → Contains ys x
      → Contains (cond b (y ∷ ys) ys) x
  further true y ys x has = (suc has.0, (let lt = has.1 in omega arith), has.2)
  further false y ys x has = has

  kept_at : (xs : List X) (x : X) (k : ℕ) → k < length xs → slice_index_or xs k x ≡ x → p x ≡ true
      → Contains (filter p xs) x
  kept_at [] x k lt is pass = absurd (omega arith)
  kept_at (y ∷ ys) x zero lt is pass = subst (λ (zs : List X). Contains zs x)
      (sym (cond-true (p y) (y ∷ filter p ys) (filter p ys) (ap p is ∙ pass)))
      (0, omega arith, is)
  kept_at (y ∷ ys) x (suc k) lt is pass =
      further (p y) y (filter p ys) x (kept_at ys x k (omega arith) is pass)

  -- what was there and passes is kept
  pub kept : (xs : List X) (x : X) → Contains xs x → p x ≡ true → Contains (filter p xs) x
  kept xs x has pass = kept_at xs x has.0 has.1 has.2 pass

pub none_in_nothing : {X : Type 0} (x : X) → Contains [] x → ⊥
none_in_nothing x has = let lt = has.1 in absurd (omega arith)

-- ---- the elements of a list, set to what they are

module _ {V : Type 0} where
  pub two_set_again : (parts : List V) (id other : ℕ) (v w w' : V) → HasAt parts id v
      → HasAt parts other w → w' ≡ w → set (set parts other w') id v ≡ parts
  two_set_again parts id other v w w' here there is =
      let same : set parts other w' ≡ parts
      = ap (λ (x : V). set parts other x) is ∙ set_again parts other w there in
      ap (λ (xs : List V). set xs id v) same ∙ set_again parts id v here
