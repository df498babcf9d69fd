-- Laws of the positions and addresses of each segment, for the proofs of this crate and of those above.
use Rattle.std.proofs.Common.{◌≡◌, ℕ, zero, suc, ◌+◌, ◌-◌, ◌*◌, ◌%◌, ◌<◌, ◌≤◌, sym, ap, ◌∙◌, arith, add-zero, add-one}
use Rattle.std.proofs.Math.Nat.{mul_assoc, mul-add-mod_self_left, mod-eq_of_lt, mul-suc, suc-mul}
use Rattle.byte_position.specs.Geometry.{IsSegmentSize, pages_of}
use Rattle.byte_position.specs.Position.{header_size, usable_bytes_in_segment, position_of, address_of, end_address_of, first_position}
use Rattle.byte_position.proofs.SegmentSizes.{segment_size_in_pages}
use Rattle.byte_position.proofs.HeaderSizes.{header_size-first, header_size-other}
use Rattle.byte_position.proofs.PositionLaws.{position_of-zero}
use Rattle.byte_position.proofs.Pages.{position_of-next_page, address_of-page}
use Rattle.byte_position.proofs.EndAddresses.{end_address_of-page, end_address_of-page_start}

module _ (size : ℕ) (valid : IsSegmentSize size) where
  -- segment n begins with page `pages_of size * n`
  pub segment_start : (n : ℕ) → size * n ≡ 8192 * (pages_of size * n)
  segment_start n =
      let whole = (segment_size_in_pages size valid).0 in
      ap (λ (s : ℕ). s * n) whole ∙ mul_assoc 8192 (pages_of size) n

  page_place : (n j : ℕ) → j < pages_of size → (pages_of size * n + j) % pages_of size ≡ j
  page_place n j b = mul-add-mod_self_left (pages_of size) n j ∙ mod-eq_of_lt b

  pub header_size-segment_start : (n : ℕ) → header_size size (pages_of size * n) ≡ 40
  header_size-segment_start n =
      let whole = segment_size_in_pages size valid in
      header_size-first size (pages_of size * n) (ap (λ (x : ℕ). x % pages_of size) (sym (add-zero (pages_of size * n))) ∙ page_place n 0 (omega arith))

  pub header_size-further_page : (n j : ℕ) → j + 1 < pages_of size → header_size size (pages_of size * n + (j + 1)) ≡ 24
  header_size-further_page n j b =
      header_size-other size (pages_of size * n + (j + 1)) (omega (arith, page_place n (j + 1) b))

  -- ---- positions of the pages and the segments

  pub position_of-further_page : (n j : ℕ) → j < pages_of size → position_of size (8192 * (pages_of size * n + (j + 1))) ≡ position_of size (size * n) + (8152 + 8168 * j)
  position_of-further_page n zero b =
      let e : 8192 * (pages_of size * n + (zero + 1)) ≡ 8192 * (pages_of size * n + 1) = omega arith in
      let start = ap (position_of size) (segment_start n) in
      let long = header_size-segment_start n in
      omega (arith, ap (position_of size) e, position_of-next_page size valid (pages_of size * n))
  position_of-further_page n (suc j) b =
      let e : 8192 * (pages_of size * n + (suc j + 1)) ≡ 8192 * (pages_of size * n + (j + 1) + 1) = omega arith in
      let short = header_size-further_page n j (omega arith) in
      let before = position_of-further_page n j (omega arith) in
      omega (arith, ap (position_of size) e, position_of-next_page size valid (pages_of size * n + (j + 1)))

  pub position_of-next_segment : (n : ℕ) → position_of size (size * (n + 1)) ≡ position_of size (size * n) + usable_bytes_in_segment size
  position_of-next_segment n =
      let whole = segment_size_in_pages size valid in
      let last = position_of-further_page n (pages_of size - 1) (omega arith) in
      let start = segment_start (n + 1) in
      let further : pages_of size * (n + 1) ≡ pages_of size * n + (pages_of size - 1 + 1) = omega (arith, ap (λ (x : ℕ). pages_of size * x) (sym (add-one n)), mul-suc (pages_of size) n) in
      let e = start ∙ ap (λ (x : ℕ). 8192 * x) further in
      omega (arith, ap (position_of size) e)

  pub position_of-segment : (n : ℕ) → position_of size (size * n) ≡ n * usable_bytes_in_segment size
  position_of-segment zero =
      let e : size * zero ≡ 0 = omega arith in
      let none : zero * usable_bytes_in_segment size ≡ 0 = omega arith in
      ap (position_of size) e ∙ position_of-zero size ∙ sym none
  position_of-segment (suc n) =
      let e = ap (λ (x : ℕ). position_of size (size * x)) (sym (add-one n)) in
      omega (arith, position_of-next_segment n, position_of-segment n, suc-mul n (usable_bytes_in_segment size))

  pub first_position-usable : first_position size ≡ usable_bytes_in_segment size
  first_position-usable =
      let e : size ≡ size * 1 = omega arith in
      omega (arith, ap (position_of size) e, position_of-segment 1)

  -- ---- addresses, by a position's place in its segment

  pub address_of-first_page_of : (n k : ℕ) → k < 8152 → address_of size (n * usable_bytes_in_segment size + k) ≡ size * n + 40 + k
  address_of-first_page_of n k b =
      let long = header_size-segment_start n in
      let start = segment_start n in
      let e : n * usable_bytes_in_segment size + k ≡ position_of size (8192 * (pages_of size * n)) + k = ap (λ (x : ℕ). x + k) (sym (position_of-segment n) ∙ ap (position_of size) start) in
      omega (arith, ap (address_of size) e, address_of-page size valid (pages_of size * n) k (omega arith))

  pub address_of-further_page_of : (n j k : ℕ) → j + 1 < pages_of size → k < 8168 → address_of size (n * usable_bytes_in_segment size + 8152 + 8168 * j + k) ≡ size * n + 8192 * (j + 1) + 24 + k
  address_of-further_page_of n j k h b =
      let short = header_size-further_page n j h in
      let start = segment_start n in
      let at = position_of-further_page n j (omega arith) in
      let e : n * usable_bytes_in_segment size + 8152 + 8168 * j + k ≡ position_of size (8192 * (pages_of size * n + (j + 1))) + k = omega (arith, position_of-segment n) in
      omega (arith, ap (address_of size) e, address_of-page size valid (pages_of size * n + (j + 1)) k (omega arith))

  pub end_address_of-segment_start : (n : ℕ) → end_address_of size (n * usable_bytes_in_segment size) ≡ size * n
  end_address_of-segment_start n =
      let start = segment_start n in
      ap (end_address_of size) (sym (position_of-segment n) ∙ ap (position_of size) start) ∙ end_address_of-page_start size valid (pages_of size * n) ∙ sym start

  pub end_address_of-first_page_of : (n k : ℕ) → 0 < k → k ≤ 8152 → end_address_of size (n * usable_bytes_in_segment size + k) ≡ size * n + 40 + k
  end_address_of-first_page_of n k h b =
      let long = header_size-segment_start n in
      let start = segment_start n in
      let e : n * usable_bytes_in_segment size + k ≡ position_of size (8192 * (pages_of size * n)) + k = ap (λ (x : ℕ). x + k) (sym (position_of-segment n) ∙ ap (position_of size) start) in
      omega (arith, ap (end_address_of size) e, end_address_of-page size valid (pages_of size * n) k h (omega arith))

  pub end_address_of-further_page_of : (n j k : ℕ) → j + 1 < pages_of size → 0 < k → k ≤ 8168 → end_address_of size (n * usable_bytes_in_segment size + 8152 + 8168 * j + k) ≡ size * n + 8192 * (j + 1) + 24 + k
  end_address_of-further_page_of n j k h p b =
      let short = header_size-further_page n j h in
      let start = segment_start n in
      let at = position_of-further_page n j (omega arith) in
      let e : n * usable_bytes_in_segment size + 8152 + 8168 * j + k ≡ position_of size (8192 * (pages_of size * n + (j + 1))) + k = omega (arith, position_of-segment n) in
      omega (arith, ap (end_address_of size) e, end_address_of-page size valid (pages_of size * n + (j + 1)) k p (omega arith))
