-- A record's start is where the one before ends, but at a page's start; and where it ends on the
-- page on which it starts.
use Rattle.std.proofs.Common.{◌≡◌, ◌≢◌, ◌⊎◌, ℕ, ◌+◌, ◌-◌, ◌*◌, ◌/◌, ◌%◌, ◌<◌, ◌≤◌, inl, inr, ap, ◌∙◌, arith}
use Rattle.std.proofs.lemmas.Bool.{cases_lt}
use Rattle.byte_position.specs.Geometry.{IsSegmentSize, pages_of}
use Rattle.byte_position.specs.Position.{address_of, end_address_of, header_size, position_of}
use Rattle.byte_position.proofs.EndAddresses.{end_address_of-inside, end_address_of-page, end_address_of-page_start}
use Rattle.byte_position.proofs.HeaderSizes.{header_size-first, header_size-other, page_in_segment}
use Rattle.byte_position.proofs.Pages.{header_below_position, position_by_page}

module _ (size : ℕ) (valid : IsSegmentSize size) (p : ℕ) where
  abbrev page : ℕ
  page = address_of size p / 8192

  -- behind a byte of its page a position has one address; at the page's start it has two
  starts : ((end_address_of size p ≡ address_of size p) × (0 < address_of size p % 8192))
      ⊎ ((end_address_of size p ≡ 8192 * page)
      × (address_of size p ≡ 8192 * page + header_size size page))
  starts =
      let below = header_below_position size valid p in
      elim (cases_lt (header_size size page) (address_of size p % 8192)) [
        | inl b ↦ inl (end_address_of-inside size valid p b, omega (arith, b))
        | inr h ↦ inr (
          (let is = position_by_page size valid p in
              let at : p ≡ position_of size (8192 * page) = omega (arith, is, below, h) in
              ap (end_address_of size) at ∙ end_address_of-page_start size valid page),
          omega (arith, below, h),
        )
      ]

  module _ (end : ℕ) (end_is : end ≡ end_address_of size p) where
    pub start_inside : end % 8192 ≢ 0 → end ≡ address_of size p
    start_inside inside = elim starts [
      | inl (same, some) ↦ end_is ∙ same
      | inr (at, start) ↦
          (let whole : end ≡ 8192 * page = end_is ∙ at in absurd (inside (omega (arith, whole))))
    ]

    -- at a page's start, which is a segment's too, or not
    first : end % 8192 ≡ 0
        → (end ≡ 8192 * page) × (address_of size p ≡ 8192 * page + header_size size page)
    first whole = elim starts [
      | inl (same, some) ↦
          (let is : end ≡ address_of size p = end_is ∙ same in
          let offset = ap (λ (n : ℕ). n % 8192) is in absurd (omega (arith, whole, some, offset)))
      | inr (at, start) ↦ (end_is ∙ at, start)
    ]

    module _ (bytes : ℕ) (bytes_is : bytes ≡ size) (whole : end % 8192 ≡ 0) where
      in_segment : end % bytes ≡ 8192 * (page % pages_of size)
      in_segment = ap (λ (n : ℕ). end % n) bytes_is ∙ ap (λ (n : ℕ). n % size) (first whole).0
          ∙ page_in_segment size valid page

      pub start_first : end % bytes ≡ 0 → end + 40 ≡ address_of size p
      start_first none =
          let is = in_segment in
          let both = first whole in
          let header = header_size-first size page (omega (arith, is, none)) in
          let at = both.0 in
          let start = both.1 in
          omega (arith, at, start, header)

      pub start_other : end % bytes ≢ 0 → end + 24 ≡ address_of size p
      start_other some =
          let is = in_segment in
          let both = first whole in
          let header = header_size-other size page (omega (arith, is, some)) in
          let at = both.0 in
          let start = both.1 in
          omega (arith, at, start, header)

  pub end_on_page : (start room : ℕ) → start ≡ address_of size p → 1 ≤ room
      → start % 8192 + room ≤ 8192 → start + room ≡ end_address_of size (p + room)
  end_on_page start room start_is some within =
      let below = header_below_position size valid p in
      let is = position_by_page size valid p in
      let offset = ap (λ (n : ℕ). n % 8192) start_is in
      let k = address_of size p % 8192 - header_size size page + room in
      let e : p + room ≡ position_of size (8192 * page) + k = omega (arith, is, below) in
      let end = end_address_of-page size valid page k (omega (arith, some))
      (omega (arith, below, offset, within)) in
      let at = ap (end_address_of size) e in
      omega (arith, at, end, start_is, below)
