-- Laws of byte positions and addresses, for the proofs of this crate and of those above.
use Rattle.std.proofs.Common.{◌≡◌, ℕ, zero, suc, ◌+◌, ◌-◌, ◌<◌, true, false, cond, sym, ap, ◌∙◌, inl, inr, arith, refl, add-one, add-zero}
use Rattle.std.proofs.lemmas.Bool.{cases_Bool}
use Rattle.byte_position.specs.Geometry.{IsSegmentSize}
use Rattle.byte_position.specs.Position.{is_in_header, position_of, behind_header, address_of, end_address_of}
use Rattle.byte_position.proofs.Headers.{behind_header-outside, behind_header-inside, is_in_header-behind_header, behind_header_bounds}

-- ---- one byte on

pub position_of-inside : (size a : ℕ) → is_in_header size a ≡ true → position_of size (a + 1) ≡ position_of size a
unfolding position_of
position_of-inside size a h =
    ap (position_of size) (add-one a) ∙ ap (λ b. position_of size a + cond b 0 1) h ∙ add-zero (position_of size a)

pub position_of-outside : (size a : ℕ) → is_in_header size a ≡ false → position_of size (a + 1) ≡ position_of size a + 1
unfolding position_of
position_of-outside size a h =
    ap (position_of size) (add-one a) ∙ ap (λ b. position_of size a + cond b 0 1) h

pub position_of-zero : (size : ℕ) → position_of size 0 ≡ 0
unfolding position_of
position_of-zero size = refl

pub address_of-zero : (size : ℕ) → address_of size 0 ≡ behind_header size 0
unfolding address_of
address_of-zero size = refl

pub address_of-next : (size b : ℕ) → address_of size (b + 1) ≡ behind_header size (address_of size b + 1)
unfolding address_of
address_of-next size b = ap (address_of size) (add-one b)

pub end_address_of-zero : (size : ℕ) → end_address_of size 0 ≡ 0
unfolding end_address_of
end_address_of-zero size = refl

pub end_address_of-next : (size b : ℕ) → end_address_of size (b + 1) ≡ address_of size b + 1
unfolding end_address_of
end_address_of-next size b = ap (end_address_of size) (add-one b)

-- between two addresses with no header byte, positions count on
pub position_of-run : (size a k : ℕ) → ((i : ℕ) → i < k → is_in_header size (a + i) ≡ false) → position_of size (a + k) ≡ position_of size a + k
position_of-run size a zero h = ap (position_of size) (add-zero a) ∙ sym (add-zero (position_of size a))
position_of-run size a (suc k) h =
    let e : a + suc k ≡ a + k + 1 = omega arith in
    let here = position_of-outside size (a + k) (h k (omega arith)) in
    let before = position_of-run size a k (λ i b. h i (omega arith)) in
    omega (arith, ap (position_of size) e)

module _ (size : ℕ) (valid : IsSegmentSize size) where
  -- the bytes of a header have the position of the byte behind it
  position_of-header : (n a : ℕ) → behind_header size a ≡ a + n → position_of size (a + n) ≡ position_of size a
  position_of-header zero a e = ap (position_of size) (add-zero a)
  position_of-header (suc n) a e =
      elim (cases_Bool (is_in_header size a)) [
        | inl t ↦
            (let further : behind_header size (a + 1) ≡ a + 1 + n = omega (arith, behind_header-inside size valid a t) in
            let split : a + suc n ≡ a + 1 + n = omega arith in
            ap (position_of size) split ∙ position_of-header n (a + 1) further ∙ position_of-inside size a t)
        | inr f ↦ absurd (omega (arith, behind_header-outside size valid a f))
      ]

  pub position_of-behind_header : (a : ℕ) → position_of size (behind_header size a) ≡ position_of size a
  position_of-behind_header a =
      let bounds = behind_header_bounds size valid a in
      let e : behind_header size a ≡ a + (behind_header size a - a) = omega arith in
      ap (position_of size) e ∙ position_of-header (behind_header size a - a) a e

  -- ---- positions and addresses undo each other

  pub is_in_header-address_of : (b : ℕ) → is_in_header size (address_of size b) ≡ false
  unfolding address_of
  is_in_header-address_of zero = is_in_header-behind_header size valid 0
  is_in_header-address_of (suc b) = is_in_header-behind_header size valid (address_of size b + 1)

  pub position_of-address_of : (b : ℕ) → position_of size (address_of size b) ≡ b
  unfolding address_of
  position_of-address_of zero = position_of-behind_header 0 ∙ position_of-zero size
  position_of-address_of (suc b) =
      position_of-behind_header (address_of size b + 1) ∙ position_of-outside size (address_of size b) (is_in_header-address_of b) ∙ ap (λ (p : ℕ). p + 1) (position_of-address_of b) ∙ add-one b

  -- the address of the position of any byte, in a header or not
  pub address_of-position_of_any : (a : ℕ) → address_of size (position_of size a) ≡ behind_header size a
  address_of-position_of_any zero = ap (address_of size) (position_of-zero size) ∙ address_of-zero size
  address_of-position_of_any (suc a) =
      let rest = address_of-position_of_any a in
      let next = sym (add-one a) in
      ap (λ (x : ℕ). address_of size (position_of size x)) next ∙ elim (cases_Bool (is_in_header size a)) [ inl t ↦ ap (address_of size) (position_of-inside size a t) ∙ rest ∙ sym (behind_header-inside size valid a t) | inr f ↦ ap (address_of size) (position_of-outside size a f) ∙ address_of-next size (position_of size a) ∙ ap (λ (x : ℕ). behind_header size (x + 1)) (rest ∙ behind_header-outside size valid a f) ] ∙ ap (behind_header size) (add-one a)

  pub address_of-position_of : (a : ℕ) → is_in_header size a ≡ false → address_of size (position_of size a) ≡ a
  address_of-position_of a h = address_of-position_of_any a ∙ behind_header-outside size valid a h
