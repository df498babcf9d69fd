-- Which entry of an order has a byte position, for the proofs of this crate and of those above.
use Rattle.std.proofs.Common.{◌≡◌, ℕ, ◌+◌, ◌%◌, ◌<◌, ◌≤◌, ◌⊎◌, ◌↔◌, ◌&&◌, leb, ltb, List, [], ◌∷◌, ◌++◌, Some, None, refl, sym, subst, ◌∙◌, inl, inr, arith}
use Rattle.std.specs.Prelude.{IsSome}
use Rattle.std.proofs.lemmas.Bool.{cases_lt, le-leb, lt-leb, lt-ltb, le-ltb, and_from, and_left, and_right, cond-true, cond-false}
use Rattle.std.proofs.lemmas.Option.{same_Some, none-some}
use Rattle.byte_position.specs.Geometry.{IsSegmentSize}
use Rattle.byte_position.specs.Position.{position_of, end_address_of, first_position}
use Rattle.byte_position.proofs.EndAddresses.{le-position_of, end_address_of-le}
use Rattle.wal_spelling.specs.Record.{switch_record}
use Rattle.wal_spelling.specs.Spelling.{Assembled, assembled}
use Rattle.wal_page.specs.Order.{Entry, FollowsFrom, IsChained, end_position, next_segment, position_behind, rooms_of, assembled_room_at}
use Rattle.wal_page.specs.Log.{owner_of, owner_at}
use Rattle.wal_page.specs.Placed.{Owns}
use Rattle.wal_page.proofs.OrderLaws.{rooms_of_cons, FollowsFrom-parts}
use Rattle.wal_page.proofs.PaddingLaws.{position_behind-switch_record, room_at-whole}
use Rattle.wal_page.proofs.WordPositions.{first_position-whole, end_address_of-first_position}

-- ---- one entry more at the front

owner_of-has : (size : ℕ) (e : Entry) (es : List Entry) (p : ℕ) → e.start ≤ p → p < position_behind size e → owner_of size (e ∷ es) p ≡ Some e
owner_of-has size e es p from below = cond-true (leb e.start p && ltb p (position_behind size e)) (Some e) (owner_of size es p) (and_from _ _ (le-leb e.start p from) (lt-ltb p (position_behind size e) below))

owner_of-before : (size : ℕ) (e : Entry) (es : List Entry) (p : ℕ) → p < e.start → owner_of size (e ∷ es) p ≡ owner_of size es p
owner_of-before size e es p before = cond-false (leb e.start p && ltb p (position_behind size e)) (Some e) (owner_of size es p) (and_left _ _ (lt-leb e.start p before))

owner_of-behind : (size : ℕ) (e : Entry) (es : List Entry) (p : ℕ) → position_behind size e ≤ p → owner_of size (e ∷ es) p ≡ owner_of size es p
owner_of-behind size e es p behind = cond-false (leb e.start p && ltb p (position_behind size e)) (Some e) (owner_of size es p) (and_right _ _ (le-ltb p (position_behind size e) behind))

-- where a position lies: in an entry's room or on one side of it
data Lies (size : ℕ) (e : Entry) (p : ℕ) : Type 0 where
  lies_before : p < e.start → Lies size e p
  lies_inside : e.start ≤ p → p < position_behind size e → Lies size e p
  lies_behind : position_behind size e ≤ p → Lies size e p

lies : (size : ℕ) (e : Entry) (p : ℕ) → Lies size e p
lies size e p =
    elim (cases_lt p e.start) [ inl lt ↦ lies_before lt | inr from ↦ elim (cases_lt p (position_behind size e)) [ inl lt ↦ lies_inside from lt | inr le ↦ lies_behind le ] ]

-- ---- an owner has the position in its room

pub owner_of-found : (size : ℕ) (es : List Entry) (p : ℕ) (e : Entry) → owner_of size es p ≡ Some e → (e.start ≤ p) × (p < position_behind size e)
owner_of-found size [] p e h = absurd (none-some e h)
owner_of-found size (f ∷ es) p e h =
    elim (lies size f p) [
      | lies_before lt ↦ owner_of-found size es p e (sym (owner_of-before size f es p lt) ∙ h)
      | lies_inside from below ↦ subst (λ (g : Entry). (g.start ≤ p) × (p < position_behind size g)) (same_Some f e (sym (owner_of-has size f es p from below) ∙ h)) (from, below)
      | lies_behind le ↦ owner_of-found size es p e (sym (owner_of-behind size f es p le) ∙ h)
    ]

-- ---- in an order that follows from a position on

pub owner_of-entry : (size position : ℕ) (front back : List Entry) (e : Entry) → FollowsFrom size position (front ++ e ∷ back) → (p : ℕ) → e.start ≤ p → p < position_behind size e → owner_of size (front ++ e ∷ back) p ≡ Some e
owner_of-entry size position [] back e chain p from below = owner_of-has size e back p from below
owner_of-entry size position (f ∷ front) back e chain p from below =
    let parts = FollowsFrom-parts size (position_behind size f) front (e ∷ back) chain.2 in
    owner_of-behind size f (front ++ e ∷ back) p (omega (arith, parts.1.0)) ∙ owner_of-entry size (position_behind size f) front back e chain.2 p from below

pub owner_of-none_before : (size position : ℕ) (es : List Entry) → FollowsFrom size position es → (p : ℕ) → p < position → owner_of size es p ≡ None
owner_of-none_before size position [] chain p lt = refl
owner_of-none_before size position (e ∷ es) chain p lt =
    owner_of-before size e es p (omega (arith, chain.0)) ∙ owner_of-none_before size (position_behind size e) es chain.2 p (omega (arith, chain.0))

pub owner_of-none_behind : (size position : ℕ) (es : List Entry) → FollowsFrom size position es → (p : ℕ) → position + rooms_of size es ≤ p → owner_of size es p ≡ None
owner_of-none_behind size position [] chain p le = refl
owner_of-none_behind size position (e ∷ es) chain p le =
    let rooms = rooms_of_cons size e es in
    owner_of-behind size e es p (omega (arith, chain.0)) ∙ owner_of-none_behind size (position_behind size e) es chain.2 p (omega (arith, chain.0))

pub owner_of-some : (size position : ℕ) (es : List Entry) → FollowsFrom size position es → (p : ℕ) → position ≤ p → p < position + rooms_of size es → IsSome (owner_of size es p)
owner_of-some size position [] chain p from below = absurd (omega arith)
owner_of-some size position (e ∷ es) chain p from below =
    let rooms = rooms_of_cons size e es in
    elim (lies size e p) [
      | lies_before lt ↦ absurd (omega (arith, chain.0))
      | lies_inside le lt ↦ rw (owner_of-has size e es p le lt) refl
      | lies_behind le ↦ rw (owner_of-behind size e es p le) (owner_of-some size (position_behind size e) es chain.2 p le (omega (arith, chain.0)))
    ]

-- a position has an owner just within the order
pub owner_of-none_where : (size position : ℕ) (es : List Entry) → FollowsFrom size position es → (p : ℕ) → owner_of size es p ≡ None → (p < position) ⊎ (position + rooms_of size es ≤ p)
owner_of-none_where size position es chain p none =
    elim (cases_lt p position) [
      | inl lt ↦ inl lt
      | inr from ↦ elim (cases_lt p (position + rooms_of size es)) [
        | inl lt ↦ (let some = owner_of-some size position es chain p from lt in absurd (cc (none, some)))
        | inr le ↦ inr le
      ]
    ]

-- ---- an entry that follows

-- whoever had a position that the new entry does not have, has it still
pub owner_of_push : (size : ℕ) (es : List Entry) (e : Entry) (p : ℕ) → (p < e.start) ⊎ (position_behind size e ≤ p) → owner_of size (es ++ e ∷ []) p ≡ owner_of size es p
owner_of_push size [] e p away = elim away [ inl lt ↦ owner_of-before size e [] p lt | inr le ↦ owner_of-behind size e [] p le ]
owner_of_push size (f ∷ es) e p away =
    elim (lies size f p) [
      | lies_before lt ↦ owner_of-before size f (es ++ e ∷ []) p lt ∙ owner_of_push size es e p away ∙ sym (owner_of-before size f es p lt)
      | lies_inside from below ↦ owner_of-has size f (es ++ e ∷ []) p from below ∙ sym (owner_of-has size f es p from below)
      | lies_behind le ↦ owner_of-behind size f (es ++ e ∷ []) p le ∙ owner_of_push size es e p away ∙ sym (owner_of-behind size f es p le)
    ]

-- ---- addresses

pub owns_or_not : (size : ℕ) (a : Assembled) (start address : ℕ) → (Owns size a start address → ⊥) → (position_of size address < start) ⊎ (start + assembled_room_at size start a ≤ position_of size address)
owns_or_not size a start address h =
    elim (cases_lt (position_of size address) start) [
      | inl lt ↦ inl lt
      | inr from ↦ elim (cases_lt (position_of size address) (start + assembled_room_at size start a)) [ inl lt ↦ absurd (h (from, lt)) | inr le ↦ inr le ]
    ]

-- an entry owns the addresses from its start's end form up to the end form behind it
pub Owns-between : (size : ℕ) → IsSegmentSize size → (a : Assembled) (start address : ℕ) → Owns size a start address → (end_address_of size start ≤ address) × (address < end_address_of size (start + assembled_room_at size start a))
Owns-between size valid a start address owns = (
  end_address_of-le size valid start address owns.0,
  elim (cases_lt address (end_address_of size (start + assembled_room_at size start a))) [ inl lt ↦ lt | inr le ↦ absurd (omega (arith, le-position_of size valid (start + assembled_room_at size start a) address le, owns.1)) ],
)

pub Owns-from_between : (size : ℕ) → IsSegmentSize size → (a : Assembled) (start address : ℕ) → end_address_of size start ≤ address → address < end_address_of size (start + assembled_room_at size start a) → Owns size a start address
Owns-from_between size valid a start address from below = (
  le-position_of size valid start address from,
  elim (cases_lt (position_of size address) (start + assembled_room_at size start a)) [ inl lt ↦ lt | inr le ↦ absurd (omega (arith, end_address_of-le size valid (start + assembled_room_at size start a) address le)) ],
)

-- a chained order's bytes have owners from segment 1 on up to its end
pub owner_at-some : (size : ℕ) → IsSegmentSize size → (es : List Entry) → IsChained size es → (address : ℕ) → size ≤ address → address < end_address_of size (first_position size + rooms_of size es) → IsSome (owner_at size es address)
owner_at-some size valid es chain address from below =
    let first = end_address_of-first_position size valid in
    let low = le-position_of size valid (first_position size) address (omega (arith, first)) in
    elim (cases_lt (position_of size address) (first_position size + rooms_of size es)) [
      | inl lt ↦ owner_of-some size (first_position size) es chain (position_of size address) low lt
      | inr le ↦ absurd (omega (arith, end_address_of-le size valid (first_position size + rooms_of size es) address le))
    ]

pub owner_at-none_before : (size : ℕ) → IsSegmentSize size → (es : List Entry) → IsChained size es → (address : ℕ) → address < size → owner_at size es address ≡ None
owner_at-none_before size valid es chain address before =
    let first = end_address_of-first_position size valid in
    elim (cases_lt (position_of size address) (first_position size)) [
      | inl lt ↦ owner_of-none_before size (first_position size) es chain (position_of size address) lt
      | inr le ↦ absurd (omega (arith, first, end_address_of-le size valid (first_position size) address le))
    ]

pub owner_at-none_behind : (size : ℕ) → IsSegmentSize size → (es : List Entry) → IsChained size es → (address : ℕ) → end_address_of size (first_position size + rooms_of size es) ≤ address → owner_at size es address ≡ None
owner_at-none_behind size valid es chain address behind =
    owner_of-none_behind size (first_position size) es chain (position_of size address) (le-position_of size valid (first_position size + rooms_of size es) address behind)

-- ---- positions come in words

pub FollowsFrom-whole : (size : ℕ) → IsSegmentSize size → (position : ℕ) (es : List Entry) → FollowsFrom size position es → position % 8 ≡ 0 → rooms_of size es % 8 ≡ 0
FollowsFrom-whole size valid position [] chain whole = refl
FollowsFrom-whole size valid position (e ∷ es) chain whole =
    let room = room_at-whole size valid e.start e.value (omega (arith, whole, chain.0)) in
    omega (arith, rooms_of_cons size e es, room, FollowsFrom-whole size valid (position_behind size e) es chain.2 (omega (arith, whole, chain.0, room)))

pub rooms_of-whole : (size : ℕ) → IsSegmentSize size → (es : List Entry) → IsChained size es → rooms_of size es % 8 ≡ 0
rooms_of-whole size valid es chain = FollowsFrom-whole size valid (first_position size) es chain (first_position-whole size valid)

pub end_position-whole : (size : ℕ) → IsSegmentSize size → (es : List Entry) → IsChained size es → end_position size es % 8 ≡ 0
end_position-whole size valid es chain = omega (arith, rooms_of-whole size valid es chain, first_position-whole size valid)

pub start-whole : (size : ℕ) → IsSegmentSize size → (front back : List Entry) (e : Entry) → IsChained size (front ++ e ∷ back) → e.start % 8 ≡ 0
start-whole size valid front back e chain =
    let parts = FollowsFrom-parts size (first_position size) front (e ∷ back) chain in
    omega (arith, parts.1.0, end_position-whole size valid front parts.0)

-- the entry behind a switch starts with the segment behind the one in which the switch ends
pub start-behind_switch : (size : ℕ) → IsSegmentSize size → (front back : List Entry) (e next : Entry) → IsChained size (front ++ e ∷ next ∷ back) → e.value ≡ switch_record → next.start ≡ next_segment size (e.start + 23)
start-behind_switch size valid front back e next chain switch =
    let parts = FollowsFrom-parts size (first_position size) front (e ∷ next ∷ back) chain in
    parts.1.2.0 ∙ position_behind-switch_record size valid e (start-whole size valid front (next ∷ back) e chain) switch

-- ---- both ways at once

pub owner_at-entry_iff : (size : ℕ) (front back : List Entry) (e : Entry) → IsChained size (front ++ e ∷ back) → (address : ℕ) → (owner_at size (front ++ e ∷ back) address ≡ Some e) ↔ Owns size (assembled e.value) e.start address
owner_at-entry_iff size front back e chain address = (λ owner. owner_of-found size (front ++ e ∷ back) (position_of size address) e owner, λ owns. owner_of-entry size (first_position size) front back e chain (position_of size address) owns.0 owns.1)

pub Owns_iff : (size : ℕ) → IsSegmentSize size → (a : Assembled) (start address : ℕ) → Owns size a start address ↔ ((end_address_of size start ≤ address) × (address < end_address_of size (start + assembled_room_at size start a)))
Owns_iff size valid a start address = (Owns-between size valid a start address, λ between. Owns-from_between size valid a start address between.0 between.1)

pub owner_at-some_iff : (size : ℕ) → IsSegmentSize size → (es : List Entry) → IsChained size es → (address : ℕ) → IsSome (owner_at size es address) ↔ ((size ≤ address) × (address < end_address_of size (first_position size + rooms_of size es)))
owner_at-some_iff size valid es chain address = (
  λ some. elim (cases_lt address size) [
    | inl before ↦ (let none = owner_at-none_before size valid es chain address before in absurd (cc (none, some)))
    | inr from ↦ elim (cases_lt address (end_address_of size (first_position size + rooms_of size es))) [
      | inl below ↦ (from, below)
      | inr behind ↦ (let none = owner_at-none_behind size valid es chain address behind in absurd (cc (none, some)))
    ]
  ],
  λ between. owner_at-some size valid es chain address between.0 between.1,
)
