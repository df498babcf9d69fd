-- Lists by index, and lines with what they ask for.
use Rattle.std.proofs.Common.{◌≡◌, ◌≢◌, ◌⊎◌, inl, inr, ⊎_elim, ℕ, zero, suc, ◌<◌, List, [], ◌∷◌, length, set, slice_get, Some, None, refl, sym, ap, arith}
use Rattle.machine_turns.specs.Doing.{Ask}
use Rattle.machine_turns.specs.declared.script.PlainLine.{PlainLine}
use Rattle.wal_core.specs.Lines.{AreLinesFor, IsLineFor}

module _ {A : Type 0} where
  pub set_cases : (xs : List A) (i j : ℕ) (x y : A) → slice_get (set xs i x) j ≡ Some y
      → ((j ≡ i) × (x ≡ y)) ⊎ ((j ≢ i) × (slice_get xs j ≡ Some y))
  set_cases [] i j x y e = absurd (cc)
  set_cases (z ∷ zs) zero zero x y e = inl (refl, cc)
  set_cases (z ∷ zs) zero (suc j) x y e = inr (λ is. omega (arith, is), e)
  set_cases (z ∷ zs) (suc i) zero x y e = inr (λ is. omega (arith, is), e)
  set_cases (z ∷ zs) (suc i) (suc j) x y e = ⊎_elim
      (λ (h : (j ≡ i) × (x ≡ y)). inl (ap suc h.0, h.1))
      (λ (h : (j ≢ i) × (slice_get zs j ≡ Some y)). inr (λ is. h.0 (omega (arith, is)), h.1))
      (set_cases zs i j x y e)

  pub set_here : (xs : List A) (i : ℕ) (x y : A) → slice_get xs i ≡ Some x
      → slice_get (set xs i y) i ≡ Some y
  set_here [] i x y e = absurd (cc)
  set_here (z ∷ zs) zero x y e = refl
  set_here (z ∷ zs) (suc i) x y e = set_here zs i x y e

  pub set_there : (xs : List A) (i j : ℕ) (x y : A) → j ≢ i → slice_get xs j ≡ Some x
      → slice_get (set xs i y) j ≡ Some x
  set_there [] i j x y apart e = absurd (cc)
  set_there (z ∷ zs) zero zero x y apart e = absurd (apart refl)
  set_there (z ∷ zs) zero (suc j) x y apart e = e
  set_there (z ∷ zs) (suc i) zero x y apart e = e
  set_there (z ∷ zs) (suc i) (suc j) x y apart e =
      set_there zs i j x y (λ is. apart (ap suc is)) e

  pub set_same : (xs : List A) (i : ℕ) (x : A) → slice_get xs i ≡ Some x → set xs i x ≡ xs
  set_same [] i x e = refl
  set_same (z ∷ zs) zero x e = let is : z ≡ x = cc in ap (λ (y : A). y ∷ zs) (sym is)
  set_same (z ∷ zs) (suc i) x e = ap (λ (ys : List A). z ∷ ys) (set_same zs i x e)

  pub length_set : (xs : List A) (i : ℕ) (x : A) → length (set xs i x) ≡ length xs
  length_set [] i x = refl
  length_set (z ∷ zs) zero x = refl
  length_set (z ∷ zs) (suc i) x = ap suc (length_set zs i x)

  pub got_below : (xs : List A) (i : ℕ) (x : A) → slice_get xs i ≡ Some x → i < length xs
  got_below [] i x e = absurd (cc)
  got_below (z ∷ zs) zero x e = omega arith
  got_below (z ∷ zs) (suc i) x e = let low = got_below zs i x e in omega arith

  pub below_got : (xs : List A) (i : ℕ) → i < length xs → (x : A) × (slice_get xs i ≡ Some x)
  below_got [] i low = absurd (omega arith)
  below_got (z ∷ zs) zero low = (z, refl)
  below_got (z ∷ zs) (suc i) low = below_got zs i (omega arith)

-- a line and what it asks for stand at the same number, or neither does
pub lines_agree : (asks : List Ask) (lines : List PlainLine) → AreLinesFor asks lines → (i : ℕ)
    → ((slice_get asks i ≡ None) × (slice_get lines i ≡ None))
    ⊎ ((ask : Ask) × (line : PlainLine) × (slice_get asks i ≡ Some ask)
    × (slice_get lines i ≡ Some line) × IsLineFor ask line)
lines_agree [] [] are i = inl (refl, refl)
lines_agree [] (line ∷ lines) are i = absurd are
lines_agree (ask ∷ asks) [] are i = absurd are
lines_agree (ask ∷ asks) (line ∷ lines) are zero = inr (ask, line, refl, refl, are.0)
lines_agree (ask ∷ asks) (line ∷ lines) are (suc i) = lines_agree asks lines are.1 i
