-- What the passes reserved fixes the order: there is one order at most whose entries, pass by pass,
-- are theirs.
use Rattle.std.proofs.Common.{◌≡◌, ℕ, ◌≤◌, cond, Bool, true, false, All, List, [], ◌∷◌, Option, Some, None, IsSome, true≢false, refl, sym, ap, ◌∙◌, subst, arith}
use Rattle.std.proofs.lemmas.List.Elements.{All-head, All-tail}
use Rattle.wal_page.specs.Order.{Entry, FollowsFrom, position_behind}
use Rattle.wal_page.proofs.OrderLaws.{room_at-pos}
use Rattle.machine_state.specs.Words.{Opening, GoesOnAtPlace}
use Rattle.machine_state.specs.Ordered.{is_pass, entries_under}
use Rattle.machine_laws.proofs.OrderedEntries.{is_pass_own}

abbrev IsNamed : Entry → Type 0
IsNamed e = IsSome e.pass

-- the pass of an entry
pub named : (p : Option ℕ) → IsSome p → (n : ℕ) × (p ≡ Some n)
named None h = absurd (true≢false (sym h))
named (Some n) h = (n, refl)

-- an entry of a chain starts where the chain does, or later
later : (size position n : ℕ) (es : List Entry) (e : Entry) (rest : List Entry)
    → FollowsFrom size position es → entries_under n es ≡ e ∷ rest → position ≤ e.start
later size position n [] e rest c is = absurd (cc)
later size position n (x ∷ xs) e rest c is = first (is_pass n x.pass) is
    (λ t. later size (position_behind size x) n xs e rest c.2 t)
  where
    first : (b : Bool) → cond b (x ∷ entries_under n xs) (entries_under n xs) ≡ e ∷ rest
        → (entries_under n xs ≡ e ∷ rest → position_behind size x ≤ e.start) → position ≤ e.start
    first true t behind =
        let one : x ≡ e = cc in
        omega (arith, c.0, ap (λ (y : Entry). y.start) one)
    first false t behind = omega (arith, c.0, behind t)

tails : (b : Bool) (e : Entry) (xs ys : List Entry)
    → cond b (e ∷ xs) xs ≡ cond b (e ∷ ys) ys → xs ≡ ys
tails true e xs ys h = cc
tails false e xs ys h = h

hit : (n : ℕ) (e : Entry) (es : List Entry) → is_pass n e.pass ≡ true
    → entries_under n (e ∷ es) ≡ e ∷ entries_under n es
hit n e es h = ap (λ (b : Bool). cond b (e ∷ entries_under n es) (entries_under n es)) h

miss : (n : ℕ) (e : Entry) (es : List Entry) → is_pass n e.pass ≡ false
    → entries_under n (e ∷ es) ≡ entries_under n es
miss n e es h = ap (λ (b : Bool). cond b (e ∷ entries_under n es) (entries_under n es)) h

of_pass : (n : ℕ) (e : Entry) → e.pass ≡ Some n → is_pass n e.pass ≡ true
of_pass n e is = ap (is_pass n) is ∙ is_pass_own n

module _ (size position : ℕ) (e f : Entry) (es fs : List Entry)
    (c : FollowsFrom size position (e ∷ es)) (d : FollowsFrom size position (f ∷ fs))
    (same : (n : ℕ) → entries_under n (e ∷ es) ≡ entries_under n (f ∷ fs)) where
  heads_of : (n : ℕ) → e.pass ≡ Some n → (b : Bool) → is_pass n f.pass ≡ b → e ≡ f
  heads_of n is true mine =
      let t = sym (hit n e es (of_pass n e is)) ∙ same n ∙ hit n f fs mine in
      cc
  heads_of n is false not_mine =
      let t = sym (miss n f fs not_mine) ∙ sym (same n) ∙ hit n e es (of_pass n e is) in
      let h = later size (position_behind size f) n fs e (entries_under n es) d.2 t in
      absurd (omega (arith, h, c.0, d.0, room_at-pos size f))

  heads : IsNamed e → e ≡ f
  heads h = let n = named e.pass h in heads_of n.0 n.1 (is_pass n.0 f.pass) refl

nobody : (e : Entry) (es : List Entry) → IsNamed e
    → ((n : ℕ) → entries_under n (e ∷ es) ≡ []) → ⊥
nobody e es h none =
    let n = named e.pass h in
    let t = sym (none n.0) ∙ hit n.0 e es (of_pass n.0 e n.1) in
    cc

follows_one : (size position : ℕ) (es fs : List Entry) → FollowsFrom size position es
    → FollowsFrom size position fs → All IsNamed es → All IsNamed fs
    → ((n : ℕ) → entries_under n es ≡ entries_under n fs) → es ≡ fs
follows_one size position [] [] c d p q same = refl
follows_one size position [] (f ∷ fs) c d p q same =
    absurd (nobody f fs (All-head IsNamed f fs q) (λ n. sym (same n)))
follows_one size position (e ∷ es) [] c d p q same =
    absurd (nobody e es (All-head IsNamed e es p) same)
follows_one size position (e ∷ es) (f ∷ fs) c d p q same =
    let is : e ≡ f = heads size position e f es fs c d same (All-head IsNamed e es p) in
    let behind : FollowsFrom size (position_behind size f) es =
    subst (λ (y : Entry). FollowsFrom size (position_behind size y) es) is c.2 in
    let rest : (n : ℕ) → entries_under n es ≡ entries_under n fs =
    λ n. tails (is_pass n e.pass) e (entries_under n es) (entries_under n fs)
    (same n ∙ ap (λ (y : Entry).
    cond (is_pass n y.pass) (y ∷ entries_under n fs) (entries_under n fs)) (sym is)) in
    λ i. is i ∷ follows_one size (position_behind size f) es fs behind d.2
    (All-tail IsNamed e es p) (All-tail IsNamed f fs q) rest i

pub one_order : (opening : Opening) (es fs : List Entry) → GoesOnAtPlace opening es
    → GoesOnAtPlace opening fs → All IsNamed es → All IsNamed fs
    → ((n : ℕ) → entries_under n es ≡ entries_under n fs) → es ≡ fs
one_order opening es fs c d p q same =
    follows_one opening.setup.seg_size opening.place.position es fs c d p q same
