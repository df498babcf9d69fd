-- The locks under which an entry stands: whether one is among them, and what a release leaves.
use Rattle.std.proofs.Common.{◌≡◌, ◌⊎◌, ℕ, ◌≤◌, Bool, true, false, cond, eqb-true, List, [], ◌∷◌, length, Contains, sym, refl, ◌∙◌, inl, inr, arith}
use Rattle.std.specs.Cmp.{nat_eq_equiv}
use Rattle.std.proofs.lemmas.Map.Views.{Contains-from_any, list_any-from_Contains}
use Rattle.machine_state.specs.Views.{Copy, Flight, Landed, Copying, is_among, AreSomeOf}
use Rattle.machine_state.specs.Moves.{landed, standing, without_lock}

pub among_cases : (P : Bool → Type 0) (locks : List ℕ) (i : ℕ) → (Contains locks i → P true)
    → ((Contains locks i → ⊥) → P false) → P (is_among locks i)
among_cases P locks i hit miss = of_value (is_among locks i) refl
  where
    apart : true ≡ false → ⊥
    apart e = absurd (cc)

    of_value : (b : Bool) → is_among locks i ≡ b → P b
    of_value true e = hit (Contains-from_any (λ x y same. eqb-true x y same) i locks e)
    of_value false e =
        miss (λ has. apart (sym (list_any-from_Contains nat_eq_equiv i locks has) ∙ e))

pub is_among_them : (locks : List ℕ) (i : ℕ) → Contains locks i → is_among locks i ≡ true
is_among_them locks i has = list_any-from_Contains nat_eq_equiv i locks has

pub lock_of : (few all : List ℕ) → AreSomeOf few all
    → (lock : ℕ) × Contains few lock × Contains all lock
lock_of [] all some = let none = some.0 in absurd (omega arith)
lock_of (lock ∷ few) all some =
    let first : Contains (lock ∷ few) lock = (0, omega arith, refl) in
    (lock, first, some.1 lock first)

pub none_lands : (c : Copy) → Landed ≡ Copying c → ⊥
none_lands c is = cc

standing_was : (d c : Copy) (locks : List ℕ) → standing d locks ≡ Copying c
    → (record d { locks = locks } ≡ c) × (1 ≤ length locks)
standing_was d c [] is = absurd (none_lands c is)
standing_was d c (lock ∷ locks) is = (cc, omega arith)

-- a flight that a release leaves is the one that was: as it was, where the lock is none of its own,
-- or without that lock, and with another one
pub landed_was : (i : ℕ) (f : Flight) (c : Copy) → landed i f ≡ Copying c
    → (d : Copy) × (f ≡ Copying d)
    × (((Contains d.locks i → ⊥) × (d ≡ c))
    ⊎ (Contains d.locks i × (record d { locks = without_lock i d.locks } ≡ c)
    × (1 ≤ length (without_lock i d.locks))))
landed_was i Landed c is = absurd (none_lands c is)
landed_was i (Copying d) c is = (
  d,
  refl,
  among_cases
      (λ (b : Bool).
      cond b (standing d (without_lock i d.locks)) (Copying d) ≡ Copying c → CallOutcome) d.locks i
      (λ has is. let was = standing_was d c (without_lock i d.locks) is in
      inr (has, was.0, was.1))
      (λ other is. inl (other, cc))
      is,
)
  where
    CallOutcome : Type 0
    CallOutcome = ((Contains d.locks i → ⊥) × (d ≡ c))
        ⊎ (Contains d.locks i × (record d { locks = without_lock i d.locks } ≡ c)
        × (1 ≤ length (without_lock i d.locks)))

pub landed_stays : (i : ℕ) (c : Copy) → (Contains c.locks i → ⊥) → landed i (Copying c) ≡ Copying c
landed_stays i c other = among_cases
    (λ (b : Bool). cond b (standing c (without_lock i c.locks)) (Copying c) ≡ Copying c) c.locks i
    (λ has. absurd (other has)) (λ none. refl)
