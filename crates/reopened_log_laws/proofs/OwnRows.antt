-- Tables of checks of which the first one that fails tells only what is wanted.
use Rattle.std.proofs.Common.{◌≡◌, ℕ, zero, suc, ◌+◌, ◌<◌, ◌≤◌, Bool, true, false, List, [], ◌∷◌, ◌++◌, map, Some, None, refl, subst, arith}
use Rattle.std.specs.List.{flat_map, range_with_len}
use Rattle.wal_page.specs.Page.{first_fault}

-- whatever the first row tells that holds, this holds of it
pub record TellsOnly {K : Type 0} (P : K → Type 0) (rows : List (Bool × K)) : Type 0 where
  pub tells : (told : K) → first_fault rows ≡ Some told → P told

same_told : {K : Type 0} (one other : K) → Some one ≡ Some other → one ≡ other
same_told one other same = cc

none_here : {K : Type 0} (told : K) → None ≡ Some told → ⊥
none_here told same = cc

pub none_tells : {K : Type 0} (P : K → Type 0) → TellsOnly P []
none_tells P = record { tells = λ told e. absurd (none_here told e) }

-- a row tells so where it holds, and those behind it where it does not
pub row_tells : {K : Type 0} (P : K → Type 0) (holds : Bool) (here : K) (rows : List (Bool × K)) → (holds ≡ true → P here) → (holds ≡ false → TellsOnly P rows) → TellsOnly P ((holds, here) ∷ rows)
row_tells P true here rows own others = record { tells = λ told e. subst P (same_told here told e) (own refl) }
row_tells P false here rows own others = record { tells = λ told e. (others refl).tells told e }

pub tells_both : {K : Type 0} (P : K → Type 0) (xs ys : List (Bool × K)) → TellsOnly P xs → (first_fault xs ≡ None → TellsOnly P ys) → TellsOnly P (xs ++ ys)
tells_both P [] ys own others = others refl
tells_both P ((true, here) ∷ xs) ys own others = record { tells = λ told e. own.tells told e }
tells_both P ((false, here) ∷ xs) ys own others = let behind = tells_both P xs ys (record { tells = λ told e. own.tells told e }) others in record { tells = λ told e. behind.tells told e }

pub tells_mapped : {K L : Type 0} (P : L → Type 0) (f : K → L) (rows : List (Bool × K)) → TellsOnly (λ (k : K). P (f k)) rows → TellsOnly P (map (λ (row : Bool × K). (row.0, f row.1)) rows)
tells_mapped P f [] own = none_tells P
tells_mapped P f ((true, here) ∷ rows) own = record { tells = λ told e. subst P (same_told (f here) told e) (own.tells here refl) }
tells_mapped P f ((false, here) ∷ rows) own = let behind = tells_mapped P f rows (record { tells = λ told e. own.tells told e }) in record { tells = λ told e. behind.tells told e }

-- tables one behind another, by their numbers
pub run_tells : {K : Type 0} (P : K → Type 0) (rows : ℕ → List (Bool × K)) (a n : ℕ) → ((i : ℕ) → a ≤ i → i < a + n → TellsOnly P (rows i)) → TellsOnly P (flat_map rows (range_with_len a n))
run_tells P rows a zero each = none_tells P
run_tells P rows a (suc n) each =
    tells_both P (rows a) (flat_map rows (range_with_len (a + 1) n)) (each a (omega arith) (omega arith)) (λ _. run_tells P rows (a + 1) n (λ i low high. each i (omega (arith, low)) (omega (arith, high))))
