-- Facts of all of a list.
use Rattle.std.proofs.Common.{ℕ, zero, suc, ◌≤◌, All, List, [], ◌∷◌, ◌++◌, drop, arith}
use Rattle.std.proofs.lemmas.List.Elements.{All-cons, All-drop, All-head, All-nil, All-tail}

module _ {X : Type 0} (P : X → Type 0) where
  -- what holds of all holds of a front, and of what is behind it
  pub parts_all : (front behind : List X) → All P (front ++ behind) → All P front × All P behind
  parts_all [] behind all = (All-nil P, all)
  parts_all (x ∷ front) behind all =
      let rest = parts_all front behind (All-tail P x (front ++ behind) all) in
      (All-cons P x front (All-head P x (front ++ behind) all) rest.0, rest.1)

  -- what holds behind a place holds behind each later one
  pub dropped_further : (n m : ℕ) → n ≤ m → (xs : List X) → All P (drop n xs) → All P (drop m xs)
  dropped_further zero m within xs all = All-drop P m xs all
  dropped_further (suc n) zero within xs all = absurd (omega (arith, within))
  dropped_further (suc n) (suc m) within [] all = All-nil P
  dropped_further (suc n) (suc m) within (x ∷ xs) all = dropped_further n m (omega (arith, within)) xs all
