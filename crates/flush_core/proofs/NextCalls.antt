-- What a writer calls next.
use Rattle.std.specs.Prelude.{◌⊎◌, not, None, Some}
use Rattle.std.specs.Option.{is_some}
use Rattle.std.proofs.Common.{◌≡◌, ◌≢◌, ℕ, ◌/◌, ◌%◌, ◌≤◌, ◌&&◌, Bool, true, false, inl, inr, eqb, nat_lt, if◌then◌else◌, refl, sym, ap, ◌∙◌, arith}
use Rattle.std.proofs.lemmas.Bool.{and_parts, cases_Bool, eq-eqb, eqb-true, le-ltb, ltb-false, not-true}
use mathlib.Core.Option.{Option, none, some}
use Rattle.flush_core.specs.declared.protocol.NextCall.TheVariants.{Create, Sync, Write}
use Rattle.byte_position.specs.Geometry.{pages_of}
use Rattle.flush_core.specs.Calls.{is_create, next_behind, next_call, to_sync}

-- ---- what is called first

-- what is synced is what waits
pub to_sync_waits : (made segment other : ℕ) (waiting : Option ℕ)
    → to_sync (next_call made waiting segment) ≡ Some other → waiting ≡ some other
to_sync_waits made segment other none is = absurd (elim (cases_Bool (nat_lt made segment)) [
  | inl new ↦ (
      let none : None ≡ Some other = ap (λ (b : Bool). to_sync (if b then Create else Write))
      (sym new) ∙ is in cc
      )
  | inr old ↦ (
      let none : None ≡ Some other = ap (λ (b : Bool). to_sync (if b then Create else Write))
      (sym old) ∙ is in cc
      )
])
to_sync_waits made segment other (some n) is =
    elim (cases_Bool (eqb n segment && not (nat_lt made segment))) [
      | inl own ↦ absurd (
          let none : None ≡ Some other = ap (λ (b : Bool). to_sync (if b then Write else Sync n))
          (sym own) ∙ is in cc
          )
      | inr strange ↦ (
          let same : Some n ≡ Some other = ap (λ (b : Bool). to_sync (if b then Write else Sync n))
          (sym strange) ∙ is in ap (λ (o : ℕ). some o) (cc)
          )
    ]

-- where nothing is synced nothing waits, or only what is of the segment, which is there
pub none_to_sync : (made segment : ℕ) (waiting : Option ℕ)
    → to_sync (next_call made waiting segment) ≡ None
    → (waiting ≡ none) ⊎ ((waiting ≡ some segment) × (segment ≤ made))
none_to_sync made segment none is = inl refl
none_to_sync made segment (some n) is =
    elim (cases_Bool (eqb n segment && not (nat_lt made segment))) [
      | inl own ↦ (
          let both = and_parts (eqb n segment) (not (nat_lt made segment)) own in
          let there = ltb-false made segment (not-true (nat_lt made segment) both.1) in
          inr (ap (λ (o : ℕ). some o) (eqb-true n segment both.0), omega (arith, there))
          )
      | inr strange ↦ absurd (
          let none : Some n ≡ None = ap (λ (b : Bool). to_sync (if b then Write else Sync n))
          (sym strange) ∙ is in cc
          )
    ]

-- where nothing else waits the segment is made if it is new
pub creates_new : (made segment : ℕ) (waiting : Option ℕ)
    → (waiting ≡ none) ⊎ ((waiting ≡ some segment) × (segment ≤ made))
    → is_create (next_call made waiting segment) ≡ nat_lt made segment
creates_new made segment waiting (inl free) =
    ap (λ (o : Option ℕ). is_create (next_call made o segment)) free
    ∙ (elim (cases_Bool (nat_lt made segment)) [
      | inl new ↦ ap (λ (b : Bool). is_create (if b then Create else Write)) new ∙ sym new
      | inr old ↦ ap (λ (b : Bool). is_create (if b then Create else Write)) old ∙ sym old
    ])
creates_new made segment waiting (inr own) =
    let old = le-ltb made segment own.1 in
    ap (λ (o : Option ℕ). is_create (next_call made o segment)) own.0
    ∙ ap (λ (b : Bool). is_create (if b && not (nat_lt made segment) then Write else Sync segment))
    (eq-eqb segment segment refl)
    ∙ ap (λ (b : Bool). is_create (if true && not b then Write else Sync segment)) old
    ∙ sym old

-- a page that has the disk's writer for itself comes to a new segment, or to one that is there
pub creates_if : (made segment : ℕ) → is_create (next_call made none segment) ≡ nat_lt made segment
creates_if made segment = creates_new made segment none (inl refl)

-- a segment is synced behind a page just where it is full
pub syncs_if : (full : Bool) (segment : ℕ)
    → is_some (to_sync (if full then Sync segment else Write)) ≡ full
syncs_if true segment = refl
syncs_if false segment = refl

-- what is synced behind a page is its segment, which is full; else it is not
pub behind_some : (size page upto segment : ℕ) → to_sync (next_behind size page upto) ≡ Some segment
    → (upto % size ≡ 0) × (segment ≡ page / pages_of size)
behind_some size page upto segment is = elim (cases_Bool (eqb (upto % size) 0)) [
  | inl ends ↦ (
    eqb-true (upto % size) 0 ends,
    (let same : Some (page / pages_of size) ≡ Some segment = sym (ap (λ (b : Bool).
        to_sync (if b then Sync (page / pages_of size) else Write)) ends) ∙ is in cc),
  )
  | inr inside ↦ absurd (
      let none : None ≡ Some segment = sym (ap (λ (b : Bool).
      to_sync (if b then Sync (page / pages_of size) else Write)) inside) ∙ is in cc
      )
]

pub behind_none : (size page upto : ℕ) → to_sync (next_behind size page upto) ≡ None
    → upto % size ≢ 0
behind_none size page upto is ends = absurd (
    let none : Some (page / pages_of size) ≡ None = sym (ap (λ (b : Bool).
    to_sync (if b then Sync (page / pages_of size) else Write)) (eq-eqb (upto % size) 0 ends)) ∙ is
    in cc)
