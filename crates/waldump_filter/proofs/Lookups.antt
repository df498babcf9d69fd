-- A name looked up in a list, from the front.
use Rattle.std.proofs.Common.{◌≡◌, ℕ, ◌+◌, ◌<◌, Bool, true, false, List, length, slice_index_or, drop, Some, refl}
use Rattle.std.specs.List.{position_from}
use Rattle.std.proofs.lemmas.List.{drop_more}

-- a place that does not pass is passed over
pub position_from-next : {X : Type 0} (p : X → Bool) (xs : List X) (i : ℕ) (d : X) → i < length xs → p (slice_index_or xs i d) ≡ false → position_from p (i + 1) (drop (i + 1) xs) ≡ position_from p i (drop i xs)
position_from-next p xs i d within fails = rw (drop_more xs i d within, fails) refl

-- the first place that passes is found
pub position_from-here : {X : Type 0} (p : X → Bool) (xs : List X) (i : ℕ) (d : X) → i < length xs → p (slice_index_or xs i d) ≡ true → position_from p i (drop i xs) ≡ Some i
position_from-here p xs i d within passes = rw (drop_more xs i d within, passes) refl
