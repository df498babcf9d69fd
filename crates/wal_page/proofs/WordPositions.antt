-- Byte positions of the log's words, each at an address that is a multiple of 8, for the proofs of this crate and of those above.
use Rattle.std.proofs.Common.{◌≡◌, ℕ, ◌+◌, ◌*◌, ◌/◌, ◌%◌, ◌<◌, ◌≤◌, true, false, subst, sym, ◌∙◌, arith}
use Rattle.std.proofs.lemmas.Bool.{ltb-true}
use Rattle.byte_position.specs.Geometry.{IsSegmentSize, pages_of}
use Rattle.byte_position.specs.Position.{is_in_header, position_of, end_address_of, first_position}
use Rattle.byte_position.proofs.SegmentSizes.{segment_size_in_pages}
use Rattle.byte_position.proofs.HeaderSizes.{header_size_bounds}
use Rattle.byte_position.proofs.Headers.{behind_header_bounds}
use Rattle.byte_position.proofs.Pages.{is_in_header-by_page}
use Rattle.byte_position.proofs.PagesTimes.{is_in_header-page_header_times, position_of-page_header_times, end_address_of-page_start_times}
use Rattle.byte_position.proofs.PositionLaws.{address_of-position_of_any}
use Rattle.byte_position.proofs.Rising.{address_of-bound}
use Rattle.byte_position.proofs.Words as words
use Rattle.wal_page.specs.Page.{header_size}

module _ (size : ℕ) (valid : IsSegmentSize size) where
  in_words : (a : ℕ) → a % 8 ≡ 0 → 8 * (a / 8) ≡ a
  in_words a whole = omega arith

  -- a word's bytes are all in a header or none is
  pub is_in_header-word : (a i : ℕ) → a % 8 ≡ 0 → i < 8 → is_in_header size (a + i) ≡ is_in_header size a
  is_in_header-word a i whole within = subst (λ (b : ℕ). is_in_header size (b + i) ≡ is_in_header size b) (in_words a whole) (words.is_in_header-word size valid (a / 8) i within)

  pub position_of-header_word : (a i : ℕ) → a % 8 ≡ 0 → i ≤ 8 → is_in_header size a ≡ true → position_of size (a + i) ≡ position_of size a
  position_of-header_word a i whole within =
      subst (λ (b : ℕ). is_in_header size b ≡ true → position_of size (b + i) ≡ position_of size b) (in_words a whole) (words.position_of-word_inside size valid (a / 8) i within)

  pub position_of-own_word : (a i : ℕ) → a % 8 ≡ 0 → i ≤ 8 → is_in_header size a ≡ false → position_of size (a + i) ≡ position_of size a + i
  position_of-own_word a i whole within =
      subst (λ (b : ℕ). is_in_header size b ≡ false → position_of size (b + i) ≡ position_of size b + i) (in_words a whole) (words.position_of-word_outside size valid (a / 8) i within)

  -- words lie at positions that are multiples of 8
  pub position_of-whole : (a : ℕ) → a % 8 ≡ 0 → position_of size a % 8 ≡ 0
  position_of-whole a whole = subst (λ (b : ℕ). position_of size b % 8 ≡ 0) (in_words a whole) (words.position_of-mod_word size valid (a / 8))

  pub first_position-whole : first_position size % 8 ≡ 0
  first_position-whole = position_of-whole size (omega (arith, (segment_size_in_pages size valid).0))

  pub end_address_of-first_position : end_address_of size (first_position size) ≡ size
  end_address_of-first_position =
      let at : pages_of size * 8192 ≡ size = omega (arith, (segment_size_in_pages size valid).0) in
      subst (λ (a : ℕ). end_address_of size (position_of size a) ≡ a) at (end_address_of-page_start_times size valid (pages_of size))

  -- the words of a page's header, and the position that they have
  pub header_word_in_page : (a : ℕ) → a % 8 ≡ 0 → is_in_header size a ≡ true → a % 8192 + 8 ≤ header_size size (a / 8192)
  header_word_in_page a whole inside =
      let bounds = header_size_bounds size valid (a / 8192) in
      let within = ltb-true (a % 8192) (header_size size (a / 8192)) (sym (is_in_header-by_page size valid a) ∙ inside) in
      omega (arith, bounds.2, within)

  pub in_header-page : (page n : ℕ) → 8 * n < header_size size page → is_in_header size (page * 8192 + 8 * n) ≡ true
  in_header-page page n within = is_in_header-page_header_times size valid page (8 * n) within

  pub position_of-header_of_page : (page n : ℕ) → 8 * n < header_size size page → position_of size (page * 8192 + 8 * n) ≡ position_of size (page * 8192)
  position_of-header_of_page page n within = position_of-page_header_times size valid page (8 * n) (omega arith)

  -- addresses are at most about twice their positions
  pub address-bound : (a : ℕ) → a ≤ 2 * position_of size a + 40
  address-bound a =
      let bounds = behind_header_bounds size valid a in
      omega (arith, bounds.0, address_of-position_of_any size valid a, address_of-bound size valid (position_of size a))
