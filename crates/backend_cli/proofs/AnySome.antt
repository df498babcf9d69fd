-- What `any` answers, as a fact by recursion: some item is of a kind.
use Rattle.std.proofs.Common.{◌⊎◌, ℕ, zero, suc, ◌<◌, Bool, true, false, List, [], ◌∷◌, length, get_or, MatchBool, refl, inl, inr, ⊎_elim, arith}
use Rattle.std.specs.Prelude.{◌↔◌, IsTrue}
use Rattle.std.specs.List.{AllWithin, HoldsAt}

module _ {X : Type 0} (Some : List X → Type 0) (P : X → Type 0) (none : Some [] → ⊥) (some : (x : X) (xs : List X) → P x ⊎ Some xs → Some (x ∷ xs)) (parts : (x : X) (xs : List X) → Some (x ∷ xs) → P x ⊎ Some xs) where
  some_at : (xs : List X) (k : ℕ) → k < length xs → HoldsAt P xs k → Some xs
  some_at [] k within holds = absurd (omega arith)
  some_at (x ∷ xs) zero within holds = some x xs (inl (holds x))
  some_at (x ∷ xs) (suc k) within holds = some x xs (inr (some_at xs k (omega arith) holds))

  none_of : (xs : List X) → ((k : ℕ) (d : X) → k < length xs → P (get_or xs k d) → ⊥) → Some xs → ⊥
  none_of [] fails found = none found
  none_of (x ∷ xs) fails found = ⊎_elim (λ here. fails zero x (omega arith) here) (λ later. none_of xs (λ k d within. fails (suc k) d (omega arith)) later) (parts x xs found)

  pub some_from_any : (xs : List X) (answer : Bool) → MatchBool answer ((k : ℕ) × (k < length xs) × HoldsAt P xs k) (AllWithin (λ x. P x → ⊥) xs 0 (length xs)) → IsTrue answer ↔ Some xs
  some_from_any xs true here = (λ found. some_at xs here.0 here.1 here.2, λ found. refl)
  some_from_any xs false fails = (λ found. absurd (cc), λ found. absurd (none_of xs (λ k d within. fails k d (omega arith) within) found))
