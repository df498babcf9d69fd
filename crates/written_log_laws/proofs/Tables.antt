-- Tables of checks, of which the first one whose test holds tells.
use Rattle.std.proofs.Common.{◌≡◌, Bool, true, false, List, [], ◌∷◌, ◌++◌, map, Some, None, refl, ◌∙◌}
use Rattle.std.proofs.lemmas.Bool.{cond-true, cond-false}
use Rattle.wal_page.specs.Page.{first_fault}

-- no test of a table holds
pub data NoneHolds {K : Type 0} : List (Bool × K) → Type 0 where
  none : NoneHolds []
  past : {row : Bool × K} {rows : List (Bool × K)} → row.0 ≡ false → NoneHolds rows → NoneHolds (row ∷ rows)

-- the first test of a table that holds tells this
pub data Tells {K : Type 0} : List (Bool × K) → K → Type 0 where
  at_once : {row : Bool × K} {rows : List (Bool × K)} → row.0 ≡ true → Tells (row ∷ rows) row.1
  behind : {row : Bool × K} {rows : List (Bool × K)} {told : K} → row.0 ≡ false → Tells rows told → Tells (row ∷ rows) told

pub NoneHolds-append : {K : Type 0} {xs ys : List (Bool × K)} → NoneHolds xs → NoneHolds ys → NoneHolds (xs ++ ys)
NoneHolds-append none k = k
NoneHolds-append (past e h) k = past e (NoneHolds-append h k)

-- whatever the tests tell
pub NoneHolds-map : {K L : Type 0} (f : K → L) {rows : List (Bool × K)} → NoneHolds rows → NoneHolds (map (λ (row : Bool × K). (row.0, f row.1)) rows)
NoneHolds-map f none = none
NoneHolds-map f (past e h) = past e (NoneHolds-map f h)

-- tests that do not hold are passed over
pub Tells-append : {K : Type 0} {xs ys : List (Bool × K)} {told : K} → NoneHolds xs → Tells ys told → Tells (xs ++ ys) told
Tells-append none t = t
Tells-append (past e h) t = behind e (Tells-append h t)

pub first_fault-none : {K : Type 0} {rows : List (Bool × K)} → NoneHolds rows → first_fault rows ≡ None
first_fault-none none = refl
first_fault-none (past {row = row} {rows = rows} e h) = cond-false row.0 (Some row.1) (first_fault rows) e ∙ first_fault-none h

pub first_fault-told : {K : Type 0} {rows : List (Bool × K)} {told : K} → Tells rows told → first_fault rows ≡ Some told
first_fault-told (at_once {row = row} {rows = rows} e) = cond-true row.0 (Some row.1) (first_fault rows) e
first_fault-told (behind {row = row} {rows = rows} e t) = cond-false row.0 (Some row.1) (first_fault rows) e ∙ first_fault-told t
