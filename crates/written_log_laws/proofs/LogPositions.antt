-- Byte positions and the pages of a log.
use Rattle.std.proofs.Common.{◌≡◌, ℕ, ◌+◌, ◌-◌, ◌*◌, ◌/◌, ◌%◌, ◌<◌, ◌≤◌, sym, ap, ◌∙◌, inl, inr, arith}
use Rattle.std.proofs.lemmas.Bool.{cases_lt}
use Rattle.byte_position.specs.Geometry.{IsSegmentSize, pages_of}
use Rattle.byte_position.specs.Position.{position_of, address_of, end_address_of, first_position, header_size}
use Rattle.byte_position.proofs.HeaderSizes.{header_size_bounds}
use Rattle.byte_position.proofs.Pages.{position_of-next_page}
use Rattle.byte_position.proofs.SegmentSizes.{segment_size_in_pages}
use Rattle.byte_position.proofs.PositionLaws.{position_of-address_of, end_address_of-next}
use Rattle.byte_position.proofs.Rising.{position_of-mono, lt-position_of}
use Rattle.byte_position.proofs.EndAddresses.{end_address_of-mono}
use Rattle.byte_position.proofs.PagesTimes.{position_of-page_header_times}

module _ (size : ℕ) (valid : IsSegmentSize size) where
  -- an address at or below that of a byte has no higher position
  pub position_of-le : (p a : ℕ) → a ≤ address_of size p → position_of size a ≤ p
  position_of-le p a le = omega (arith, position_of-mono size a (address_of size p) le, position_of-address_of size valid p)

  -- a byte below the end stands below the end's address
  pub address_of-below_end : (p last : ℕ) → p < last → address_of size p < end_address_of size last
  address_of-below_end p last lt =
      omega (arith, end_address_of-next size p, end_address_of-mono size valid (p + 1) last (omega arith))

  -- ---- the log's pages are those from the first one of segment 1 on

  pub page_of-start : pages_of size * 8192 ≡ size
  page_of-start = omega (arith, (segment_size_in_pages size valid).0)

  -- what is in the log stands behind its start
  pub start-le-address_of : (p : ℕ) → first_position size ≤ p → size ≤ address_of size p
  start-le-address_of p from = elim (cases_lt (address_of size p) size) [ inl below ↦ absurd (omega (arith, lt-position_of size valid p size below)) | inr above ↦ above ]

  -- the page of a byte of the log is one of them
  pub page_from_first : (p : ℕ) → first_position size ≤ p → pages_of size ≤ address_of size p / 8192
  page_from_first p from = omega (arith, page_of-start, start-le-address_of p from)

  pub position_of-log_page : (page : ℕ) → pages_of size ≤ page → first_position size ≤ position_of size (page * 8192)
  position_of-log_page page from = position_of-mono size size (page * 8192) (omega (arith, page_of-start))

  -- the page of a byte begins at the byte's position or before it
  pub page_begins : (p : ℕ) → position_of size (address_of size p / 8192 * 8192) ≤ p
  page_begins p = position_of-le p (address_of size p / 8192 * 8192) (omega arith)

  -- a byte that stands just behind a page's header has the page's first position
  pub opening_position : (p : ℕ) → address_of size p % 8192 ≡ header_size size (address_of size p / 8192) → position_of size (address_of size p / 8192 * 8192) ≡ p
  opening_position p e =
      let page = address_of size p / 8192 in
      let at : page * 8192 + header_size size page ≡ address_of size p = omega arith in
      sym (position_of-page_header_times size valid page (header_size size page) (omega arith)) ∙ ap (position_of size) at ∙ position_of-address_of size valid p

  -- the position before a page's first is one of the page before
  pub page_before : (page : ℕ) → address_of size (position_of size ((page + 1) * 8192) - 1) / 8192 ≡ page
  page_before page =
      let q = position_of size ((page + 1) * 8192) in
      let turned : (page + 1) * 8192 ≡ 8192 * (page + 1) = omega arith in
      let own : page * 8192 ≡ 8192 * page = omega arith in
      let next = ap (position_of size) turned ∙ position_of-next_page size valid page in
      let first = ap (position_of size) own in
      let header = header_size_bounds size valid page in
      let low : page * 8192 ≤ address_of size (q - 1) = elim (cases_lt (address_of size (q - 1)) (page * 8192)) [
        | inl below ↦ absurd (omega (arith, next, first, header, lt-position_of size valid (q - 1) (page * 8192) below))
        | inr from ↦ from
      ] in
      let high : address_of size (q - 1) < (page + 1) * 8192 = elim (cases_lt (address_of size (q - 1)) ((page + 1) * 8192)) [
        | inl below ↦ below
        | inr from ↦ absurd (omega (arith, next, header, position_of-le (q - 1) ((page + 1) * 8192) from))
      ] in
      omega (arith, low, high)
