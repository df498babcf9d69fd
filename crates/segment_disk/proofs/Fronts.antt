-- The front of a list that grows.
use Rattle.std.proofs.Common.{◌≡◌, ℕ, zero, suc, ◌≤◌, List, [], ◌∷◌, ◌++◌, length, take, refl, ap, arith}

pub take-before : {A : Type 0} (xs more : List A) (m : ℕ) → m ≤ length xs → take m (xs ++ more) ≡ take m xs
take-before xs more zero within = refl
take-before [] more (suc m) within = absurd (omega arith)
take-before {A} (x ∷ xs) more (suc m) within = ap (λ (l : List A). x ∷ l) (take-before xs more m (omega arith))
