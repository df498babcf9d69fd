-- Which header a page has, and where the page stands in its segment.
use Rattle.std.proofs.Common.{◌≡◌, ℕ, ◌+◌, ◌*◌, ◌/◌, ◌%◌, ◌<◌, ◌≤◌, ◌⊎◌, ap, ◌∙◌, inl, inr, arith}
use Rattle.std.proofs.lemmas.Bool.{cases_lt, cond-true, cond-false, eq-eqb, ne_eqb}
use Rattle.std.proofs.Math.Arith.{mod-mul}
use Rattle.std.proofs.Math.Nat.{div-add-mod}
use Rattle.byte_position.specs.Geometry.{IsSegmentSize, pages_of}
use Rattle.byte_position.specs.Position.{header_size}
use Rattle.byte_position.proofs.SegmentSizes.{segment_size_in_pages}
use Rattle.byte_position.proofs.Headers.{in_segment}

pub header_size-first : (size page : ℕ) → page % pages_of size ≡ 0 → header_size size page ≡ 40
header_size-first size page h = cond-true _ _ _ (eq-eqb (page % pages_of size) 0 h)

pub header_size-other : (size page : ℕ) → 0 < page % pages_of size → header_size size page ≡ 24
header_size-other size page h = cond-false _ _ _ (ne_eqb (page % pages_of size) 0 (λ e. omega arith))

module _ (size : ℕ) (valid : IsSegmentSize size) where
  -- a page's place in its segment
  pub page_in_segment : (page : ℕ) → 8192 * page % size ≡ 8192 * (page % pages_of size)
  page_in_segment page =
      let whole = segment_size_in_pages size valid in
      let e : size ≡ pages_of size * 8192 = omega arith in
      let quotient : 8192 * page / 8192 ≡ page = omega arith in
      let parts = mod-mul (8192 * page) {m = pages_of size} {c = 8192} (omega arith) (omega arith) in
      omega (arith, ap (λ (n : ℕ). 8192 * page % n) e, ap (λ (n : ℕ). n % pages_of size) quotient)

  -- the place in its segment of a page's byte
  pub byte_in_segment : (page k : ℕ) → k < 8192 → (8192 * page + k) % size ≡ 8192 * (page % pages_of size) + k
  byte_in_segment page k b =
      let whole = segment_size_in_pages size valid in
      let place = page_in_segment page in
      let e : 8192 * page + k ≡ size * (8192 * page / size) + (8192 * (page % pages_of size) + k) = omega (arith, div-add-mod (8192 * page) size) in
      ap (λ (x : ℕ). x % size) e ∙ in_segment size valid (8192 * page / size) (8192 * (page % pages_of size) + k) (omega arith)

  -- a segment's first page has 40 bytes of header, each other one 24
  pub header_size_cases : (page : ℕ) → ((page % pages_of size ≡ 0) × (header_size size page ≡ 40)) ⊎ ((0 < page % pages_of size) × (header_size size page ≡ 24))
  header_size_cases page =
      elim (cases_lt 0 (page % pages_of size)) [ inl h ↦ inr (h, header_size-other size page h) | inr h ↦ inl (omega arith, header_size-first size page (omega arith)) ]

  pub header_size_bounds : (page : ℕ) → (24 ≤ header_size size page) × (header_size size page ≤ 40) × (header_size size page % 8 ≡ 0)
  header_size_bounds page =
      elim (header_size_cases page) [ inl h ↦ (omega arith, omega arith, omega arith) | inr h ↦ (omega arith, omega arith, omega arith) ]
