-- Laws of the bytes, positions and addresses of each page, for the proofs of this crate and of those above.
use Rattle.std.proofs.Common.{◌≡◌, ℕ, zero, suc, ◌+◌, ◌-◌, ◌*◌, ◌/◌, ◌%◌, ◌<◌, ◌≤◌, true, false, sym, ap, ◌∙◌, inl, inr, arith, add-zero}
use Rattle.std.specs.Prelude.{nat_lt}
use Rattle.std.proofs.lemmas.Bool.{cases_lt, lt-ltb, le-ltb, both_ways}
use Rattle.byte_position.specs.Geometry.{IsSegmentSize}
use Rattle.byte_position.specs.Position.{header_size, is_in_header, position_of, address_of}
use Rattle.byte_position.proofs.Headers.{in_first, in_other, in_none}
use Rattle.byte_position.proofs.HeaderSizes.{byte_in_segment, header_size_cases, header_size_bounds}
use Rattle.byte_position.proofs.PositionLaws.{position_of-inside, position_of-run, position_of-address_of, address_of-position_of, is_in_header-address_of}

module _ (size : ℕ) (valid : IsSegmentSize size) where
  -- ---- which bytes of a page are in its header

  pub is_in_header-page_header : (page k : ℕ) → k < header_size size page → is_in_header size (8192 * page + k) ≡ true
  is_in_header-page_header page k b =
      let bounds = header_size_bounds size valid page in
      let place = byte_in_segment size valid page k (omega arith) in
      elim (header_size_cases size valid page) [ inl h ↦ in_first size valid (8192 * page + k) (omega arith) | inr h ↦ in_other size valid (8192 * page + k) (omega arith) ]

  pub is_in_header-page_rest : (page k : ℕ) → header_size size page ≤ k → k < 8192 → is_in_header size (8192 * page + k) ≡ false
  is_in_header-page_rest page k h b =
      let bounds = header_size_bounds size valid page in
      let place = byte_in_segment size valid page k b in
      elim (header_size_cases size valid page) [ inl c ↦ in_none size valid (8192 * page + k) (omega arith) (omega arith) | inr c ↦ in_none size valid (8192 * page + k) (omega arith) (omega arith) ]

  -- any byte, by its place in its page
  pub is_in_header-by_page : (a : ℕ) → is_in_header size a ≡ nat_lt (a % 8192) (header_size size (a / 8192))
  is_in_header-by_page a =
      let e : 8192 * (a / 8192) + a % 8192 ≡ a = omega arith in
      ap (is_in_header size) (sym e) ∙ elim (cases_lt (a % 8192) (header_size size (a / 8192))) [ inl b ↦ is_in_header-page_header (a / 8192) (a % 8192) b ∙ sym (lt-ltb (a % 8192) (header_size size (a / 8192)) b) | inr h ↦ is_in_header-page_rest (a / 8192) (a % 8192) h (omega arith) ∙ sym (le-ltb (a % 8192) (header_size size (a / 8192)) h) ]

  -- a byte in no header stands behind its page's header
  pub header_below : (a : ℕ) → is_in_header size a ≡ false → header_size size (a / 8192) ≤ a % 8192
  header_below a h =
      elim (cases_lt (a % 8192) (header_size size (a / 8192))) [ inl b ↦ absurd (both_ways _ h (is_in_header-by_page a ∙ lt-ltb (a % 8192) (header_size size (a / 8192)) b)) | inr g ↦ g ]

  -- ---- the positions of a page's bytes

  pub position_of-page_header : (page k : ℕ) → k ≤ header_size size page → position_of size (8192 * page + k) ≡ position_of size (8192 * page)
  position_of-page_header page zero h = ap (position_of size) (add-zero (8192 * page))
  position_of-page_header page (suc k) h =
      let e : 8192 * page + suc k ≡ 8192 * page + k + 1 = omega arith in
      ap (position_of size) e ∙ position_of-inside size (8192 * page + k) (is_in_header-page_header page k (omega arith)) ∙ position_of-page_header page k (omega arith)

  pub position_of-page_rest : (page k : ℕ) → k ≤ 8192 - header_size size page → position_of size (8192 * page + header_size size page + k) ≡ position_of size (8192 * page) + k
  position_of-page_rest page k b =
      let outside : (i : ℕ) → i < k → is_in_header size (8192 * page + header_size size page + i) ≡ false = λ i c.
      let e : 8192 * page + header_size size page + i ≡ 8192 * page + (header_size size page + i) = omega arith in
      ap (is_in_header size) e ∙ is_in_header-page_rest page (header_size size page + i) (omega arith) (omega arith) in
      position_of-run size (8192 * page + header_size size page) k outside ∙ ap (λ (x : ℕ). x + k) (position_of-page_header page (header_size size page) (omega arith))

  pub position_of-next_page : (page : ℕ) → position_of size (8192 * (page + 1)) ≡ position_of size (8192 * page) + (8192 - header_size size page)
  position_of-next_page page =
      let bounds = header_size_bounds size valid page in
      let e : 8192 * (page + 1) ≡ 8192 * page + header_size size page + (8192 - header_size size page) = omega arith in
      ap (position_of size) e ∙ position_of-page_rest page (8192 - header_size size page) (omega arith)

  -- any byte's, by its place in its page
  pub position_of-by_page : (a : ℕ) → position_of size a ≡ position_of size (8192 * (a / 8192)) + (a % 8192 - header_size size (a / 8192))
  position_of-by_page a =
      let page = a / 8192 in
      let within : a % 8192 < 8192 = omega arith in
      elim (cases_lt (a % 8192) (header_size size page)) [
        | inl b ↦
            (let e : a ≡ 8192 * page + a % 8192 = omega arith in
            omega (arith, ap (position_of size) e, position_of-page_header page (a % 8192) (omega arith)))
        | inr h ↦
            (let e : a ≡ 8192 * page + header_size size page + (a % 8192 - header_size size page) = omega arith in
            ap (position_of size) e ∙ position_of-page_rest page (a % 8192 - header_size size page) (omega arith))
      ]

  -- ---- the addresses of a page's positions

  pub address_of-page : (page k : ℕ) → k < 8192 - header_size size page → address_of size (position_of size (8192 * page) + k) ≡ 8192 * page + header_size size page + k
  address_of-page page k b =
      let e : 8192 * page + header_size size page + k ≡ 8192 * page + (header_size size page + k) = omega arith in
      ap (address_of size) (sym (position_of-page_rest page k (omega arith))) ∙ address_of-position_of size valid (8192 * page + header_size size page + k) (ap (is_in_header size) e ∙ is_in_header-page_rest page (header_size size page + k) (omega arith) (omega arith))

  pub address_of-page_start : (page : ℕ) → address_of size (position_of size (8192 * page)) ≡ 8192 * page + header_size size page
  address_of-page_start page =
      let bounds = header_size_bounds size valid page in
      ap (address_of size) (sym (add-zero (position_of size (8192 * page)))) ∙ address_of-page page 0 (omega arith) ∙ add-zero (8192 * page + header_size size page)

  -- ---- the page of a position

  pub header_below_position : (p : ℕ) → header_size size (address_of size p / 8192) ≤ address_of size p % 8192
  header_below_position p = header_below (address_of size p) (is_in_header-address_of size valid p)

  pub position_by_page : (p : ℕ) → p ≡ position_of size (8192 * (address_of size p / 8192)) + (address_of size p % 8192 - header_size size (address_of size p / 8192))
  position_by_page p = sym (position_of-address_of size valid p) ∙ position_of-by_page (address_of size p)

  pub position_in_page : (p : ℕ) → (position_of size (8192 * (address_of size p / 8192)) ≤ p) × (p < position_of size (8192 * (address_of size p / 8192 + 1)))
  position_in_page p =
      let page = address_of size p / 8192 in
      let at = position_by_page p in
      let below = header_below_position p in
      let next = position_of-next_page page in
      let within : address_of size p % 8192 < 8192 = omega arith in
      (omega arith, omega arith)
