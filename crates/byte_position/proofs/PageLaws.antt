-- Laws of the positions and addresses on one page, for the proofs of this crate and of those above.
use Rattle.std.proofs.Common.{◌≡◌, ℕ, ◌+◌, ◌-◌, ◌*◌, ◌/◌, ◌%◌, ◌<◌, ◌≤◌, false, sym, ap, ◌∙◌, arith}
use Rattle.std.proofs.Math.Nat.{div-add-mod, mod_self}
use Rattle.byte_position.specs.Geometry.{IsSegmentSize}
use Rattle.byte_position.specs.Position.{is_in_header, position_of, behind_header, address_of, end_address_of, first_position}
use Rattle.byte_position.proofs.SegmentSizes.{segment_size_in_pages}
use Rattle.byte_position.proofs.Headers.{in_page, in_segment, in_none, behind_first, behind_other}
use Rattle.byte_position.proofs.PositionLaws.{position_of-run, position_of-behind_header, address_of-position_of, address_of-position_of_any, end_address_of-next}

module _ (size : ℕ) (valid : IsSegmentSize size) where
  -- ---- a segment's first page, which begins at address p: a header of 40 bytes and 8152 others

  pub is_in_header-first_page_from : (p k : ℕ) → p % size ≡ 0 → k < 8152 → is_in_header size (p + 40 + k) ≡ false
  is_in_header-first_page_from p k h b =
      let whole = segment_size_in_pages size valid in
      let low = div-add-mod p size in
      let e : p + 40 + k ≡ size * (p / size) + (40 + k) = omega arith in
      let at = ap (λ (x : ℕ). x % size) e ∙ in_segment size valid (p / size) (40 + k) (omega arith) in
      let page = in_page size valid (p + 40 + k) in
      in_none size valid (p + 40 + k) (omega arith) (omega arith)

  pub behind_header-first_page_from : (p : ℕ) → p % size ≡ 0 → behind_header size p ≡ p + 40
  behind_header-first_page_from p h = omega (arith, behind_first size valid p (omega arith))

  pub position_of-first_page_from : (p k : ℕ) → p % size ≡ 0 → k ≤ 8152 → position_of size (p + 40 + k) ≡ position_of size p + k
  position_of-first_page_from p k h b =
      position_of-run size (p + 40) k (λ i c. is_in_header-first_page_from p i h (omega arith)) ∙ ap (λ (x : ℕ). x + k) (ap (position_of size) (sym (behind_header-first_page_from p h)) ∙ position_of-behind_header size valid p)

  pub address_of-first_page_from : (p k : ℕ) → p % size ≡ 0 → k < 8152 → address_of size (position_of size p + k) ≡ p + 40 + k
  address_of-first_page_from p k h b =
      ap (address_of size) (sym (position_of-first_page_from p k h (omega arith))) ∙ address_of-position_of size valid (p + 40 + k) (is_in_header-first_page_from p k h b)

  -- ---- a further page, which begins at address p: a header of 24 bytes and 8168 others

  pub is_in_header-other_page_from : (p k : ℕ) → p % 8192 ≡ 0 → 0 < p % size → k < 8168 → is_in_header size (p + 24 + k) ≡ false
  is_in_header-other_page_from p k h s b =
      let whole = segment_size_in_pages size valid in
      let low = div-add-mod p size in
      let within : p % size < size = omega arith in
      let start = in_page size valid p in
      let e : p + 24 + k ≡ size * (p / size) + (p % size + (24 + k)) = omega arith in
      let at = ap (λ (x : ℕ). x % size) e ∙ in_segment size valid (p / size) (p % size + (24 + k)) (omega arith) in
      in_none size valid (p + 24 + k) (omega arith) (omega arith)

  pub behind_header-other_page_from : (p : ℕ) → p % 8192 ≡ 0 → 0 < p % size → behind_header size p ≡ p + 24
  behind_header-other_page_from p h s =
      let start = in_page size valid p in
      omega (arith, behind_other size valid p (omega arith) (omega arith))

  pub position_of-other_page_from : (p k : ℕ) → p % 8192 ≡ 0 → 0 < p % size → k ≤ 8168 → position_of size (p + 24 + k) ≡ position_of size p + k
  position_of-other_page_from p k h s b =
      position_of-run size (p + 24) k (λ i c. is_in_header-other_page_from p i h s (omega arith)) ∙ ap (λ (x : ℕ). x + k) (ap (position_of size) (sym (behind_header-other_page_from p h s)) ∙ position_of-behind_header size valid p)

  pub address_of-other_page_from : (p k : ℕ) → p % 8192 ≡ 0 → 0 < p % size → k < 8168 → address_of size (position_of size p + k) ≡ p + 24 + k
  address_of-other_page_from p k h s b =
      ap (address_of size) (sym (position_of-other_page_from p k h s (omega arith))) ∙ address_of-position_of size valid (p + 24 + k) (is_in_header-other_page_from p k h s b)

  -- ---- the log's first page, that of segment 1

  pub is_in_header-first_page : (k : ℕ) → k < 8152 → is_in_header size (size + 40 + k) ≡ false
  is_in_header-first_page k b = is_in_header-first_page_from size k (mod_self size) b

  pub position_of-first_page : (k : ℕ) → k ≤ 8152 → position_of size (size + 40 + k) ≡ first_position size + k
  position_of-first_page k b = position_of-first_page_from size k (mod_self size) b

  pub address_of-first_page : (k : ℕ) → k < 8152 → address_of size (first_position size + k) ≡ size + 40 + k
  address_of-first_page k b = address_of-first_page_from size k (mod_self size) b

  pub end_address_of-first_page : (k : ℕ) → 0 < k → k ≤ 8152 → end_address_of size (first_position size + k) ≡ size + 40 + k
  end_address_of-first_page k h b =
      let e : first_position size + k ≡ first_position size + (k - 1) + 1 = omega arith in
      let last = address_of-first_page (k - 1) (omega arith) in
      omega (arith, ap (end_address_of size) e, end_address_of-next size (first_position size + (k - 1)))

  pub address_of-second_page : address_of size (first_position size + 8152) ≡ size + 8192 + 24
  address_of-second_page =
      let whole = segment_size_in_pages size valid in
      let e : size * 1 + 8192 ≡ size + 8192 = omega arith in
      let at = ap (λ (x : ℕ). x % size) (sym e) ∙ in_segment size valid 1 8192 (omega arith) in
      let start = in_page size valid (size + 8192) in
      let full = position_of-first_page 8152 (omega arith) in
      let joined : size + 40 + 8152 ≡ size + 8192 = omega arith in
      ap (address_of size) (sym full ∙ ap (position_of size) joined) ∙ address_of-position_of_any size valid (size + 8192) ∙ behind_header-other_page_from (size + 8192) (omega arith) (omega arith)
