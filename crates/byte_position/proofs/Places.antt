-- Which addresses have a byte position, for the proofs of this crate and of those above.
use Rattle.std.proofs.Common.{◌≡◌, ℕ, ◌+◌, ◌-◌, ◌/◌, ◌%◌, ◌<◌, ◌≤◌, not, sym, ap, subst, ◌∙◌, inl, inr, arith}
use Rattle.std.proofs.lemmas.Bool.{cases_lt, or_left, or_right, or_from, eq-eqb, ne_eqb, lt-ltb, le-ltb, both_ways}
use Rattle.byte_position.specs.Geometry.{IsSegmentSize}
use Rattle.byte_position.specs.Position.{header_size, address_of, end_address_of, HasPosition}
use Rattle.byte_position.proofs.PositionLaws.{end_address_of-zero}
use Rattle.byte_position.proofs.Pages.{is_in_header-by_page, header_below_position}
use Rattle.byte_position.proofs.EndAddresses.{end_address_of-before}

module _ (size : ℕ) (valid : IsSegmentSize size) where
  pub HasPosition-page_start : (a : ℕ) → a % 8192 ≡ 0 → HasPosition size a
  HasPosition-page_start a h = or_left _ _ (eq-eqb (a % 8192) 0 h)

  pub HasPosition-behind_header : (a : ℕ) → header_size size (a / 8192) ≤ a % 8192 → HasPosition size a
  HasPosition-behind_header a h =
      or_right _ _ (ap not (is_in_header-by_page size valid a ∙ le-ltb (a % 8192) (header_size size (a / 8192)) h))

  pub inside_header_has_no_position : (a : ℕ) → 0 < a % 8192 → a % 8192 < header_size size (a / 8192) → HasPosition size a → ⊥
  inside_header_has_no_position a b h has =
      both_ways _ (or_from _ _ (ne_eqb (a % 8192) 0 (λ e. omega arith)) (ap not (is_in_header-by_page size valid a ∙ lt-ltb (a % 8192) (header_size size (a / 8192)) h))) has

  pub HasPosition-address_of : (p : ℕ) → HasPosition size (address_of size p)
  HasPosition-address_of p =
      HasPosition-behind_header (address_of size p) (header_below_position size valid p)

  -- a page's end is the next page's start
  pub HasPosition-end_address_of : (p : ℕ) → HasPosition size (end_address_of size p)
  HasPosition-end_address_of p =
      elim (cases_lt 0 p) [
        | inl h ↦
            (let last = address_of size (p - 1) in
            let below = header_below_position size valid (p - 1) in
            let e = end_address_of-before size p h in
            elim (cases_lt (last % 8192) 8191) [
              | inl b ↦
                  (let page : (last + 1) / 8192 ≡ last / 8192 = omega arith in
                  let place : (last + 1) % 8192 ≡ last % 8192 + 1 = omega arith in
                  subst (HasPosition size) (sym e) (HasPosition-behind_header (last + 1) (omega (arith, ap (header_size size) page))))
              | inr g ↦ HasPosition-page_start (end_address_of size p) (omega arith)
            ])
        | inr z ↦
            (let none : p ≡ 0 = omega arith in
            HasPosition-page_start (end_address_of size p) (omega (arith, ap (end_address_of size) none, end_address_of-zero size)))
      ]
