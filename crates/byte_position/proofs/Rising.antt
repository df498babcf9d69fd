-- Positions and addresses rise together: laws of their order, for the proofs of this crate and of those above.
use Rattle.std.proofs.Common.{◌≡◌, ℕ, zero, suc, ◌+◌, ◌-◌, ◌*◌, ◌/◌, ◌<◌, ◌≤◌, ap, inl, inr, arith, add-zero}
use Rattle.std.proofs.lemmas.Bool.{cases_Bool, cases_lt}
use Rattle.byte_position.specs.Geometry.{IsSegmentSize}
use Rattle.byte_position.specs.Position.{is_in_header, position_of, address_of}
use Rattle.byte_position.proofs.Headers.{behind_header_bounds}
use Rattle.byte_position.proofs.HeaderSizes.{header_size_bounds}
use Rattle.byte_position.proofs.PositionLaws.{position_of-zero, position_of-inside, position_of-outside, position_of-address_of, address_of-next, is_in_header-address_of}
use Rattle.byte_position.proofs.Pages.{position_of-next_page, position_by_page, header_below_position}

-- ---- over further addresses a position rises by no more than their number

pub position_of_rises : (size a k : ℕ) → (position_of size a ≤ position_of size (a + k)) × (position_of size (a + k) ≤ position_of size a + k)
position_of_rises size a zero =
    let e = ap (position_of size) (add-zero a) in
    (omega arith, omega arith)
position_of_rises size a (suc k) =
    let e : a + suc k ≡ a + k + 1 = omega arith in
    let same = ap (position_of size) e in
    let before = position_of_rises size a k in
    elim (cases_Bool (is_in_header size (a + k))) [ inl t ↦ (omega (arith, position_of-inside size (a + k) t), omega (arith, position_of-inside size (a + k) t)) | inr f ↦ (omega (arith, position_of-outside size (a + k) f), omega (arith, position_of-outside size (a + k) f)) ]

pub position_of-mono : (size a b : ℕ) → a ≤ b → position_of size a ≤ position_of size b
position_of-mono size a b h =
    let e : a + (b - a) ≡ b = omega arith in
    omega (arith, position_of_rises size a (b - a), ap (position_of size) e)

pub position_of-le_self : (size a : ℕ) → position_of size a ≤ a
position_of-le_self size a =
    let e : 0 + a ≡ a = omega arith in
    omega (arith, position_of_rises size 0 a, ap (position_of size) e, position_of-zero size)

module _ (size : ℕ) (valid : IsSegmentSize size) where
  -- ---- over further positions an address rises by their number at least

  pub address_of_rises : (p k : ℕ) → address_of size p + k ≤ address_of size (p + k)
  address_of_rises p zero = omega (arith, ap (address_of size) (add-zero p))
  address_of_rises p (suc k) =
      let e : p + suc k ≡ p + k + 1 = omega arith in
      omega (arith, ap (address_of size) e, address_of-next size (p + k), behind_header_bounds size valid (address_of size (p + k) + 1), address_of_rises p k)

  pub address_of-mono : (p q : ℕ) → p ≤ q → address_of size p ≤ address_of size q
  address_of-mono p q h =
      let e : p + (q - p) ≡ q = omega arith in
      omega (arith, address_of_rises p (q - p), ap (address_of size) e)

  pub address_of-mono_lt : (p q : ℕ) → p < q → address_of size p < address_of size q
  address_of-mono_lt p q h =
      let e : p + (q - p) ≡ q = omega arith in
      omega (arith, address_of_rises p (q - p), ap (address_of size) e)

  pub le-address_of : (p : ℕ) → p ≤ address_of size p
  le-address_of p =
      let e : 0 + p ≡ p = omega arith in
      omega (arith, address_of_rises 0 p, ap (address_of size) e)

  -- ---- the address is below another where the position is

  pub lt-position_of : (p a : ℕ) → address_of size p < a → p < position_of size a
  lt-position_of p a h =
      let behind = position_of-outside size (address_of size p) (is_in_header-address_of size valid p) in
      omega (arith, position_of-mono size (address_of size p + 1) a (omega arith), position_of-address_of size valid p)

  pub address_of-lt : (p a : ℕ) → p < position_of size a → address_of size p < a
  address_of-lt p a h =
      elim (cases_lt (address_of size p) a) [ inl l ↦ l | inr g ↦ absurd (omega (arith, position_of-mono size a (address_of size p) g, position_of-address_of size valid p)) ]

  -- ---- an address is not far above its position

  pub le-position_of-page : (page : ℕ) → 8152 * page ≤ position_of size (8192 * page)
  le-position_of-page zero = omega arith
  le-position_of-page (suc page) =
      let e : 8192 * suc page ≡ 8192 * (page + 1) = omega arith in
      omega (arith, ap (position_of size) e, position_of-next_page size valid page, header_size_bounds size valid page, le-position_of-page page)

  pub address_of-bound : (p : ℕ) → address_of size p ≤ 2 * p + 40
  address_of-bound p =
      let page = address_of size p / 8192 in
      let pages = le-position_of-page page in
      let at = position_by_page size valid p in
      let below = header_below_position size valid p in
      let bounds = header_size_bounds size valid page in
      omega arith
