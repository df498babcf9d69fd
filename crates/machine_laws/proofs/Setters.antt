-- How many passes set the down word, where one view changes, one comes, and one takes another in.
use Rattle.std.proofs.Common.{◌≡◌, ◌≢◌, ℕ, zero, suc, ◌+◌, ◌≤◌, List, [], ◌∷◌, ◌++◌, set, refl, sym, ap, arith}
use mathlib.Core.Option.{some-injective, some-ne-none}
use Rattle.machine_state.specs.Views.{HasAt, Joined, Receipts}
use Rattle.machine_state.specs.Durable.{setters, setters_among, setters_of}
use Rattle.machine_state.proofs.Lists.{at_else}

pub setters_append : (js ks : List Joined)
    → setters_among (js ++ ks) ≡ setters_among js + setters_among ks
setters_append [] ks = omega arith
setters_append (j ∷ js) ks = let more = setters_append js ks in omega (arith, more)

pub setters_set : (parts : List Receipts) (id : ℕ) (x y : Receipts) → HasAt parts id x
    → setters (set parts id y) + setters_of x ≡ setters parts + setters_of y
setters_set [] id x y here = absurd (some-ne-none x (sym here))
setters_set (p ∷ ps) zero x y here =
    let same = ap setters_of (some-injective p x here) in omega (arith, same)
setters_set (p ∷ ps) (suc id) x y here =
    let more = setters_set ps id x y here in omega (arith, more)

pub setters_added : (parts : List Receipts) (x : Receipts)
    → setters (parts ++ x ∷ []) ≡ setters parts + setters_of x
setters_added [] x = omega arith
setters_added (p ∷ ps) x = let more = setters_added ps x in omega (arith, more)

pub setters_low : (parts : List Receipts) (id : ℕ) (x : Receipts) → HasAt parts id x
    → setters_of x ≤ setters parts
setters_low [] id x here = absurd (some-ne-none x (sym here))
setters_low (p ∷ ps) zero x here =
    let same = ap setters_of (some-injective p x here) in omega (arith, same)
setters_low (p ∷ ps) (suc id) x here = let more = setters_low ps id x here in omega (arith, more)

-- a view that changes, and has as many as before
pub setters_still : (parts : List Receipts) (id : ℕ) (x y : Receipts) → HasAt parts id x
    → setters_of y ≡ setters_of x → setters (set parts id y) ≡ setters parts
setters_still parts id x y here same =
    let changed = setters_set parts id x y here in omega (arith, changed, same)

-- a view whose own go to another one
pub setters_moved : (parts : List Receipts) (id other : ℕ) (x y gone both : Receipts)
    → HasAt parts id x → HasAt parts other y → id ≢ other → setters_of gone ≡ 0
    → setters_of both ≡ setters_of x + setters_of y
    → setters (set (set parts other gone) id both) ≡ setters parts
setters_moved parts id other x y gone both here there apart none sum =
    let first = setters_set parts other y gone there in
    let second = setters_set (set parts other gone) id x both
    (at_else parts other id gone x apart here) in
    omega (arith, first, second, none, sum)

none_set : (parts : List Receipts) → ((j : ℕ) (y : Receipts) → HasAt parts j y → setters_of y ≡ 0)
    → setters parts ≡ 0
none_set [] none = omega arith
none_set (p ∷ ps) none =
    let own = none 0 p refl in
    let more = none_set ps (λ j y at. none (suc j) y at) in omega (arith, own, more)

-- the only view that has any
pub setters_alone : (parts : List Receipts) (id : ℕ) (x : Receipts) → HasAt parts id x
    → ((j : ℕ) (y : Receipts) → HasAt parts j y → j ≢ id → setters_of y ≡ 0)
    → setters parts ≡ setters_of x
setters_alone [] id x here others = absurd (some-ne-none x (sym here))
setters_alone (p ∷ ps) zero x here others =
    let same = ap setters_of (some-injective p x here) in
    let more = none_set ps (λ j y at. others (suc j) y at (λ e. omega arith)) in
    omega (arith, same, more)
setters_alone (p ∷ ps) (suc id) x here others =
    let own = others 0 p refl (λ e. omega arith) in
    let more = setters_alone ps id x here
    (λ j y at apart. others (suc j) y at (λ e. apart (omega arith))) in
    omega (arith, own, more)
