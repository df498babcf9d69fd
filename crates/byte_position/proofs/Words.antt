-- Laws of words of 8 bytes: headers begin and end at words, so each word is in one header or in none. For the proofs of this crate and of those above.
use Rattle.std.proofs.Common.{◌≡◌, ℕ, zero, suc, ◌+◌, ◌-◌, ◌*◌, ◌/◌, ◌%◌, ◌<◌, ◌≤◌, true, false, sym, ap, ◌∙◌, inl, inr, arith, add-zero}
use Rattle.std.proofs.lemmas.Bool.{cases_Bool, cases_lt}
use Rattle.byte_position.specs.Geometry.{IsSegmentSize}
use Rattle.byte_position.specs.Position.{header_size, is_in_header, position_of, address_of, end_address_of}
use Rattle.byte_position.proofs.HeaderSizes.{header_size_bounds}
use Rattle.byte_position.proofs.PositionLaws.{position_of-zero, position_of-inside, position_of-run, position_of-address_of, address_of-position_of, is_in_header-address_of, end_address_of-zero, end_address_of-next}
use Rattle.byte_position.proofs.Pages.{is_in_header-page_header, is_in_header-page_rest, position_by_page, header_below_position}

module _ (size : ℕ) (valid : IsSegmentSize size) where
  -- a word is in a header where its first byte is
  pub is_in_header-word : (k i : ℕ) → i < 8 → is_in_header size (8 * k + i) ≡ is_in_header size (8 * k)
  is_in_header-word k i b =
      let page = 8 * k / 8192 in
      let place = 8 * k % 8192 in
      let bounds = header_size_bounds size valid page in
      let e : 8 * k + i ≡ 8192 * page + (place + i) = omega arith in
      let first : 8 * k ≡ 8192 * page + place = omega arith in
      let same = ap (is_in_header size) e in
      let same_first = ap (is_in_header size) first in
      elim (cases_lt place (header_size size page)) [
        | inl l ↦ same ∙ is_in_header-page_header size valid page (place + i) (omega arith) ∙ sym (same_first ∙ is_in_header-page_header size valid page place l)
        | inr g ↦ same ∙ is_in_header-page_rest size valid page (place + i) (omega arith) (omega arith) ∙ sym (same_first ∙ is_in_header-page_rest size valid page place g (omega arith))
      ]

  -- ---- the positions of a word's bytes, and of the byte behind it

  pub position_of-word_inside : (k i : ℕ) → i ≤ 8 → is_in_header size (8 * k) ≡ true → position_of size (8 * k + i) ≡ position_of size (8 * k)
  position_of-word_inside k zero b h = ap (position_of size) (add-zero (8 * k))
  position_of-word_inside k (suc i) b h =
      let e : 8 * k + suc i ≡ 8 * k + i + 1 = omega arith in
      ap (position_of size) e ∙ position_of-inside size (8 * k + i) (is_in_header-word k i (omega arith) ∙ h) ∙ position_of-word_inside k i (omega arith) h

  pub position_of-word_outside : (k i : ℕ) → i ≤ 8 → is_in_header size (8 * k) ≡ false → position_of size (8 * k + i) ≡ position_of size (8 * k) + i
  position_of-word_outside k i b h =
      position_of-run size (8 * k) i (λ j c. is_in_header-word k j (omega arith) ∙ h)

  -- ---- positions and addresses of words are multiples of 8

  pub position_of-mod_word : (k : ℕ) → position_of size (8 * k) % 8 ≡ 0
  position_of-mod_word zero = omega (arith, position_of-zero size)
  position_of-mod_word (suc k) =
      let e : 8 * suc k ≡ 8 * k + 8 = omega arith in
      let same = ap (position_of size) e in
      let before = position_of-mod_word k in
      elim (cases_Bool (is_in_header size (8 * k))) [ inl t ↦ omega (arith, position_of-word_inside k 8 (omega arith) t) | inr f ↦ omega (arith, position_of-word_outside k 8 (omega arith) f) ]

  pub address_of-mod_word : (p : ℕ) → p % 8 ≡ 0 → address_of size p % 8 ≡ 0
  address_of-mod_word p h =
      let page = address_of size p / 8192 in
      let e : 8192 * page ≡ 8 * (1024 * page) = omega arith in
      let start = position_of-mod_word (1024 * page) in
      let same = ap (position_of size) e in
      let at = position_by_page size valid p in
      let below = header_below_position size valid p in
      let bounds = header_size_bounds size valid page in
      omega arith

  pub address_of-word : (k : ℕ) → address_of size (8 * k) % 8 ≡ 0
  address_of-word k = address_of-mod_word (8 * k) (omega arith)

  -- ---- within a word addresses count on

  pub address_of-in_word : (p i : ℕ) → p % 8 ≡ 0 → i < 8 → address_of size (p + i) ≡ address_of size p + i
  address_of-in_word p i h b =
      let whole = address_of-mod_word p h in
      let k = address_of size p / 8 in
      let e : 8 * k ≡ address_of size p = omega arith in
      let outside : is_in_header size (8 * k) ≡ false = ap (is_in_header size) e ∙ is_in_header-address_of size valid p in
      let at : position_of size (8 * k + i) ≡ p + i = position_of-word_outside k i (omega arith) outside ∙ ap (λ (x : ℕ). x + i) (ap (position_of size) e ∙ position_of-address_of size valid p) in
      ap (address_of size) (sym at) ∙ address_of-position_of size valid (8 * k + i) (is_in_header-word k i b ∙ outside) ∙ ap (λ (x : ℕ). x + i) e

  pub end_address_of-mod_word : (p : ℕ) → p % 8 ≡ 0 → end_address_of size p % 8 ≡ 0
  end_address_of-mod_word p h =
      elim (cases_lt 0 p) [
        | inl b ↦
            (let e : p ≡ p - 8 + 7 + 1 = omega arith in
            let last = address_of-in_word (p - 8) 7 (omega arith) (omega arith) in
            omega (arith, ap (end_address_of size) e, end_address_of-next size (p - 8 + 7), address_of-mod_word (p - 8) (omega arith)))
        | inr z ↦
            (let e : p ≡ 0 = omega arith in
            omega (arith, ap (end_address_of size) e, end_address_of-zero size))
      ]
