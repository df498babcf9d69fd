-- Laws of end addresses, for the proofs of this crate and of those above.
use Rattle.std.proofs.Common.{◌≡◌, ℕ, zero, suc, ◌+◌, ◌-◌, ◌*◌, ◌/◌, ◌%◌, ◌<◌, ◌≤◌, false, ap, ◌∙◌, inl, inr, arith}
use Rattle.std.proofs.lemmas.Bool.{cases_lt}
use Rattle.byte_position.specs.Geometry.{IsSegmentSize}
use Rattle.byte_position.specs.Position.{header_size, is_in_header, position_of, address_of, end_address_of}
use Rattle.byte_position.proofs.HeaderSizes.{header_size_bounds}
use Rattle.byte_position.proofs.PositionLaws.{position_of-zero, position_of-outside, position_of-address_of, address_of-position_of, is_in_header-address_of, end_address_of-zero, end_address_of-next}
use Rattle.byte_position.proofs.Pages.{position_of-next_page, address_of-page, position_by_page}
use Rattle.byte_position.proofs.Rising.{address_of-mono, le-address_of, lt-position_of, address_of-lt}

-- a position's end form and its start form, where a byte is before it
pub end_address_of-before : (size p : ℕ) → 0 < p → end_address_of size p ≡ address_of size (p - 1) + 1
end_address_of-before size p h =
    let e : p ≡ p - 1 + 1 = omega arith in
    ap (end_address_of size) e ∙ end_address_of-next size (p - 1)

module _ (size : ℕ) (valid : IsSegmentSize size) where
  -- ---- the end addresses of a page's positions

  pub end_address_of-page : (page k : ℕ) → 0 < k → k ≤ 8192 - header_size size page → end_address_of size (position_of size (8192 * page) + k) ≡ 8192 * page + header_size size page + k
  end_address_of-page page k h b =
      let e : position_of size (8192 * page) + k - 1 ≡ position_of size (8192 * page) + (k - 1) = omega arith in
      let last = address_of-page size valid page (k - 1) (omega arith) in
      omega (arith, end_address_of-before size (position_of size (8192 * page) + k) (omega arith), ap (address_of size) e)

  -- what fills a page ends at the page's end, and not behind the next page's header
  pub end_address_of-page_start : (page : ℕ) → end_address_of size (position_of size (8192 * page)) ≡ 8192 * page
  end_address_of-page_start zero =
      omega (arith, ap (end_address_of size) (position_of-zero size), end_address_of-zero size)
  end_address_of-page_start (suc page) =
      let bounds = header_size_bounds size valid page in
      let e : 8192 * suc page ≡ 8192 * (page + 1) = omega arith in
      let full = ap (position_of size) e ∙ position_of-next_page size valid page in
      let last = end_address_of-page page (8192 - header_size size page) (omega arith) (omega arith) in
      omega (arith, ap (end_address_of size) full)

  -- behind a byte of its own page a position's end form is its start form
  pub end_address_of-inside : (p : ℕ) → header_size size (address_of size p / 8192) < address_of size p % 8192 → end_address_of size p ≡ address_of size p
  end_address_of-inside p h =
      let page = address_of size p / 8192 in
      let k = address_of size p % 8192 - header_size size page in
      let within : address_of size p % 8192 < 8192 = omega arith in
      let last = end_address_of-page page k (omega arith) (omega arith) in
      omega (arith, ap (end_address_of size) (position_by_page size valid p))

  pub end_address_of-not_page_start : (p : ℕ) → ((page : ℕ) → p ≡ position_of size (8192 * page) → ⊥) → end_address_of size p ≡ address_of size p
  end_address_of-not_page_start p h =
      let page = address_of size p / 8192 in
      elim (cases_lt (header_size size page) (address_of size p % 8192)) [ inl b ↦ end_address_of-inside p b | inr g ↦ absurd (h page (omega (arith, position_by_page size valid p))) ]

  -- ---- end addresses and positions

  pub position_of-end_address_of : (p : ℕ) → position_of size (end_address_of size p) ≡ p
  position_of-end_address_of p =
      elim (cases_lt 0 p) [
        | inl h ↦
            (let last = position_of-outside size (address_of size (p - 1)) (is_in_header-address_of size valid (p - 1)) in
            omega (arith, ap (position_of size) (end_address_of-before size p h), position_of-address_of size valid (p - 1)))
        | inr h ↦
            (let e : p ≡ 0 = omega arith in
            let none = ap (end_address_of size) e ∙ end_address_of-zero size in
            omega (arith, ap (position_of size) none, position_of-zero size))
      ]

  -- behind a byte in no header
  pub end_address_of-position_of : (a : ℕ) → is_in_header size a ≡ false → end_address_of size (position_of size (a + 1)) ≡ a + 1
  end_address_of-position_of a h =
      ap (end_address_of size) (position_of-outside size a h) ∙ end_address_of-next size (position_of size a) ∙ ap (λ (x : ℕ). x + 1) (address_of-position_of size valid a h)

  -- ---- the end address is at another or below it where the position is

  pub end_address_of-le : (p a : ℕ) → p ≤ position_of size a → end_address_of size p ≤ a
  end_address_of-le p a h =
      elim (cases_lt 0 p) [
        | inl b ↦ omega (arith, end_address_of-before size p b, address_of-lt size valid (p - 1) a (omega arith))
        | inr z ↦
            (let e : p ≡ 0 = omega arith in
            omega (arith, ap (end_address_of size) e, end_address_of-zero size))
      ]

  pub le-position_of : (p a : ℕ) → end_address_of size p ≤ a → p ≤ position_of size a
  le-position_of p a h =
      elim (cases_lt 0 p) [ inl b ↦ omega (arith, end_address_of-before size p b, lt-position_of size valid (p - 1) a (omega (arith, end_address_of-before size p b))) | inr z ↦ omega arith ]

  pub end_address_of-le_address_of : (p : ℕ) → end_address_of size p ≤ address_of size p
  end_address_of-le_address_of p =
      end_address_of-le p (address_of size p) (omega (arith, position_of-address_of size valid p))

  pub le-end_address_of : (p : ℕ) → p ≤ end_address_of size p
  le-end_address_of p =
      elim (cases_lt 0 p) [ inl b ↦ omega (arith, end_address_of-before size p b, le-address_of size valid (p - 1)) | inr z ↦ omega arith ]

  pub end_address_of-mono : (p q : ℕ) → p ≤ q → end_address_of size p ≤ end_address_of size q
  end_address_of-mono p q h =
      end_address_of-le p (end_address_of size q) (omega (arith, position_of-end_address_of q))

  -- the byte at a position is at or behind the end of each position up to it
  pub end_address_of-mono_lt : (p q : ℕ) → p < q → end_address_of size p < end_address_of size q
  end_address_of-mono_lt p q h =
      omega (arith, end_address_of-before size q (omega arith), address_of-mono size valid p (q - 1) (omega arith), end_address_of-le_address_of p)
