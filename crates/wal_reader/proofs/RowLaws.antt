-- Laws of tables of checks, and of numbers in the front of bytes.
use Rattle.std.proofs.Common.{◌≡◌, ℕ, ◌+◌, ◌-◌, ◌≤◌, Bool, true, false, cond, Option, Some, None, option_map, List, [], ◌∷◌, ◌++◌, take, drop, map, refl, ap, ◌∙◌, arith}
use Rattle.std.specs.Int.{Width, byte_len, from_le_bytes}
use Rattle.std.proofs.lemmas.List.{take-take, drop-take}
use Rattle.wal_spelling.specs.Numbers.{number_at}
use Rattle.wal_page.specs.Page.{first_fault}

-- the first of two answers
abbrev pub first_of : {K : Type 0} → Option K → Option K → Option K
first_of None other = other
first_of (Some answer) other = Some answer

pub first_fault-append : {K : Type 0} (xs ys : List (Bool × K)) → first_fault (xs ++ ys) ≡ first_of (first_fault xs) (first_fault ys)
first_fault-append [] ys = refl
first_fault-append (x ∷ xs) ys =
    elim x.0 as (λ b. cond b (Some x.1) (first_fault (xs ++ ys)) ≡ first_of (cond b (Some x.1) (first_fault xs)) (first_fault ys)) [ true ↦ refl | false ↦ first_fault-append xs ys ]

pub first_fault-map : {K L : Type 0} (f : K → L) (rows : List (Bool × K)) → first_fault (map (λ (row : Bool × K). (row.0, f row.1)) rows) ≡ option_map f (first_fault rows)
first_fault-map f [] = refl
first_fault-map {K} f (row ∷ rows) =
    elim row.0 as (λ b. cond b (Some (f row.1)) (first_fault (map (λ (r : Bool × K). (r.0, f r.1)) rows)) ≡ option_map f (cond b (Some row.1) (first_fault rows))) [ true ↦ refl | false ↦ first_fault-map f rows ]

-- a number that lies in the front of bytes
pub number_at-take : (w : Width) (bytes : List ℕ) (n at : ℕ) → at + byte_len w ≤ n → number_at w (take n bytes) at ≡ number_at w bytes at
number_at-take w bytes n at within =
    let m = n - at in
    let split : n ≡ at + m = omega arith in
    let front : drop at (take n bytes) ≡ take m (drop at bytes) = ap (λ (j : ℕ). drop at (take j bytes)) split ∙ drop-take at m bytes in
    ap (λ (bs : List ℕ). from_le_bytes w (take (byte_len w) bs)) front ∙ ap (from_le_bytes w) (take-take (byte_len w) m (drop at bytes) (omega arith))
