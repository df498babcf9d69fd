-- Laws of the order of the log's records, for the proofs of this crate and of those above.
use Rattle.std.proofs.Common.{◌≡◌, ℕ, suc, zero, ◌+◌, ◌<◌, ◌≤◌, List, [], ◌∷◌, ◌++◌, length, get_or, take, ltb, refl, ap, subst, ◌∙◌, arith}
use Rattle.std.proofs.lemmas.Bool.{lt-ltb, le-ltb, cond-true, cond-false}
use Rattle.std.proofs.lemmas.List.{take-take}
use Rattle.std.proofs.lemmas.List.Sums.{sum_by_push, sum_by-cons, sum_by-append, sum_by_more, sum_by-take-le}
use Rattle.byte_position.specs.Position.{address_of, first_position}
use Rattle.wal_spelling.specs.Spelling.{IsLogRecord}
use Rattle.wal_page.specs.Order.{Entry, FollowsFrom, IsChained, position_behind, rooms_of, prev_of, prev_before, prev_in, room_at}

-- no record takes up less than its header
pub room_at-pos : (size : ℕ) (e : Entry) → 24 ≤ room_at size e.start e.value
room_at-pos size e = omega arith

pub rooms_of_cons : (size : ℕ) (e : Entry) (es : List Entry) → rooms_of size (e ∷ es) ≡ room_at size e.start e.value + rooms_of size es
rooms_of_cons size e es = sum_by-cons (λ f. room_at size f.start f.value) e es

pub rooms_of_push : (size : ℕ) (es : List Entry) (e : Entry) → rooms_of size (es ++ e ∷ []) ≡ rooms_of size es + room_at size e.start e.value
rooms_of_push size es e = sum_by_push (λ f. room_at size f.start f.value) es e

pub rooms_of-append : (size : ℕ) (es fs : List Entry) → rooms_of size (es ++ fs) ≡ rooms_of size es + rooms_of size fs
rooms_of-append size es fs = sum_by-append (λ f. room_at size f.start f.value) es fs

pub prev_of_push : (size prev : ℕ) (es : List Entry) (e : Entry) → prev_of size prev (es ++ e ∷ []) ≡ address_of size e.start
prev_of_push size prev [] e = refl
prev_of_push size prev (f ∷ es) e = prev_of_push size (address_of size f.start) es e

-- an entry may follow that starts where the others end
pub FollowsFrom_push : (size position : ℕ) (es : List Entry) (e : Entry) → FollowsFrom size position es → e.start ≡ position + rooms_of size es → IsLogRecord e.value → FollowsFrom size position (es ++ e ∷ [])
FollowsFrom_push size position [] e chain at logged = (omega (arith, at), logged, tt)
FollowsFrom_push size position (f ∷ es) e chain at logged =
    (chain.0, chain.1, FollowsFrom_push size (position_behind size f) es e chain.2 (omega (arith, at, chain.0, rooms_of_cons size f es)) logged)

pub IsChained_push : (size : ℕ) (es : List Entry) (e : Entry) → IsChained size es → e.start ≡ first_position size + rooms_of size es → IsLogRecord e.value → IsChained size (es ++ e ∷ [])
IsChained_push size es e = FollowsFrom_push size (first_position size) es e

-- orders that follow each other are one order, and an order may be parted anywhere
pub FollowsFrom-append : (size position : ℕ) (es fs : List Entry) → FollowsFrom size position es → FollowsFrom size (position + rooms_of size es) fs → FollowsFrom size position (es ++ fs)
FollowsFrom-append size position [] fs chain behind = subst (λ (p : ℕ). FollowsFrom size p fs) (omega arith) behind
FollowsFrom-append size position (e ∷ es) fs chain behind =
    let at : position + rooms_of size (e ∷ es) ≡ position_behind size e + rooms_of size es = omega (arith, chain.0, rooms_of_cons size e es) in
    (chain.0, chain.1, FollowsFrom-append size (position_behind size e) es fs chain.2 (subst (λ (p : ℕ). FollowsFrom size p fs) at behind))

pub FollowsFrom-parts : (size position : ℕ) (es fs : List Entry) → FollowsFrom size position (es ++ fs) → FollowsFrom size position es × FollowsFrom size (position + rooms_of size es) fs
FollowsFrom-parts size position [] fs chain = (tt, subst (λ (p : ℕ). FollowsFrom size p fs) (omega arith) chain)
FollowsFrom-parts size position (e ∷ es) fs chain =
    let parts = FollowsFrom-parts size (position_behind size e) es fs chain.2 in
    let at : position_behind size e + rooms_of size es ≡ position + rooms_of size (e ∷ es) = omega (arith, chain.0, rooms_of_cons size e es) in
    ((chain.0, chain.1, parts.0), subst (λ (p : ℕ). FollowsFrom size p fs) at parts.1)

-- each entry starts behind those before it, and its record is one that the log may hold
pub FollowsFrom-start : (size position : ℕ) (es : List Entry) → FollowsFrom size position es → (k : ℕ) (d : Entry) → k < length es → (get_or es k d).start ≡ position + rooms_of size (take k es)
FollowsFrom-start size position [] chain k d within = absurd (omega arith)
FollowsFrom-start size position (e ∷ es) chain zero d within = omega (arith, chain.0)
FollowsFrom-start size position (e ∷ es) chain (suc k) d within =
    omega (arith, chain.0, rooms_of_cons size e (take k es), FollowsFrom-start size (position_behind size e) es chain.2 k d (omega arith))

pub FollowsFrom-logged : (size position : ℕ) (es : List Entry) → FollowsFrom size position es → (k : ℕ) (d : Entry) → k < length es → IsLogRecord (get_or es k d).value
FollowsFrom-logged size position [] chain k d within = absurd (omega arith)
FollowsFrom-logged size position (e ∷ es) chain zero d within = chain.1
FollowsFrom-logged size position (e ∷ es) chain (suc k) d within =
    FollowsFrom-logged size (position_behind size e) es chain.2 k d (omega arith)

-- a later entry starts at the end of an earlier one or behind it, and no record is empty
pub FollowsFrom-rises : (size position : ℕ) (es : List Entry) → FollowsFrom size position es → (i j : ℕ) (d : Entry) → i < j → j < length es → (position_behind size (get_or es i d) ≤ (get_or es j d).start) × ((get_or es i d).start < (get_or es j d).start)
FollowsFrom-rises size position es chain i j d before within =
    let at_i = FollowsFrom-start size position es chain i d (omega arith) in
    let at_j = FollowsFrom-start size position es chain j d within in
    let more : rooms_of size (take (i + 1) es) ≡ rooms_of size (take i es) + room_at size (get_or es i d).start (get_or es i d).value = sum_by_more (λ e. room_at size e.start e.value) es i d (omega arith) in
    let fewer : rooms_of size (take (i + 1) (take j es)) ≤ rooms_of size (take j es) = sum_by-take-le (λ e. room_at size e.start e.value) (take j es) (i + 1) in
    let same = ap (rooms_of size) (take-take (i + 1) j es (omega arith)) in
    (omega (arith, at_i, at_j, more, fewer, same), omega (arith, at_i, at_j, more, fewer, same))

-- the entry before one in an order is the last of those before it
pub prev_before-entry : (size prev position : ℕ) (front back : List Entry) (e : Entry) → FollowsFrom size position (front ++ e ∷ back) → prev_before size prev (front ++ e ∷ back) e.start ≡ prev_of size prev front
prev_before-entry size prev position [] back e chain = cond-false (ltb e.start e.start) _ _ (le-ltb e.start e.start (omega arith))
prev_before-entry size prev position (f ∷ front) back e chain =
    let parts = FollowsFrom-parts size (position_behind size f) front (e ∷ back) chain.2 in
    let earlier : f.start < e.start = omega (arith, parts.1.0, room_at-pos size f) in
    cond-true (ltb f.start e.start) _ _ (lt-ltb f.start e.start earlier) ∙ prev_before-entry size (address_of size f.start) (position_behind size f) front back e chain.2

pub prev_in-entry : (size : ℕ) (front back : List Entry) (e : Entry) → IsChained size (front ++ e ∷ back) → prev_in size (front ++ e ∷ back) e ≡ prev_of size 0 front
prev_in-entry size front back e chain = prev_before-entry size 0 (first_position size) front back e chain
