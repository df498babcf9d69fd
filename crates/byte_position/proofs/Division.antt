-- Positions and addresses by division: whole segments, then whole pages, then the rest.
use Rattle.std.proofs.Common.{◌≡◌, ℕ, ◌+◌, ◌-◌, ◌*◌, ◌/◌, ◌%◌, ◌<◌, ◌≤◌, sym, ap, ◌∙◌, arith}
use Rattle.std.proofs.Math.Nat.{div-add-mod, mul_comm}
use Rattle.byte_position.specs.Geometry.{IsSegmentSize, pages_of}
use Rattle.byte_position.specs.Position.{usable_bytes_in_segment, position_of, address_of}
use Rattle.byte_position.proofs.SegmentSizes.{segment_size_in_pages}
use Rattle.byte_position.proofs.Rising.{position_of-le_self}
use Rattle.byte_position.proofs.Segments.{segment_start, position_of-segment, position_of-further_page, address_of-first_page_of, address_of-further_page_of}

module _ (size : ℕ) (valid : IsSegmentSize size) where
  pub usable_bytes_bounds : (8152 < usable_bytes_in_segment size) × (usable_bytes_in_segment size ≡ 8152 + 8168 * (pages_of size - 1))
  usable_bytes_bounds =
      let whole = segment_size_in_pages size valid in
      (omega arith, omega arith)

  pub address_of-by_division_first : (p usable bytes : ℕ) → usable ≡ usable_bytes_in_segment size → bytes ≡ size → p % usable < 8152 → p / usable * bytes + 40 + p % usable ≡ address_of size p
  address_of-by_division_first p usable bytes u s b =
      let n = p / usable in
      let e : p ≡ n * usable_bytes_in_segment size + p % usable = omega (arith, div-add-mod p usable, mul_comm n usable, ap (λ (x : ℕ). n * x) u) in
      omega (arith, ap (address_of size) e, address_of-first_page_of size valid n (p % usable) b, mul_comm n size, ap (λ (x : ℕ). n * x) s)

  pub address_of-by_division_further : (p usable bytes : ℕ) → usable ≡ usable_bytes_in_segment size → bytes ≡ size → 8152 ≤ p % usable → p / usable * bytes + 8192 * ((p % usable - 8152) / 8168 + 1) + 24 + (p % usable - 8152) % 8168 ≡ address_of size p
  address_of-by_division_further p usable bytes u s b =
      let bounds = usable_bytes_bounds in
      let within : p % usable < usable = omega arith in
      let n = p / usable in
      let left = p % usable - 8152 in
      let j = left / 8168 in
      let k = left % 8168 in
      let e : p ≡ n * usable_bytes_in_segment size + 8152 + 8168 * j + k = omega (arith, div-add-mod p usable, mul_comm n usable, ap (λ (x : ℕ). n * x) u) in
      omega (arith, ap (address_of size) e, address_of-further_page_of size valid n j k (omega arith) (omega arith), mul_comm n size, ap (λ (x : ℕ). n * x) s)

  -- ---- the position of a page's start

  pub position_of-by_division_first : (page pages usable : ℕ) → pages ≡ pages_of size → usable ≡ usable_bytes_in_segment size → page % pages ≡ 0 → page / pages * usable ≡ position_of size (8192 * page)
  position_of-by_division_first page pages usable c u h =
      let n = page / pages in
      let e : 8192 * page ≡ size * n = omega (arith, div-add-mod page pages, segment_start size valid n, ap (λ (x : ℕ). x * n) c) in
      sym (ap (position_of size) e ∙ position_of-segment size valid n ∙ ap (λ (x : ℕ). n * x) (sym u))

  pub position_of-by_division_further : (page pages usable : ℕ) → pages ≡ pages_of size → usable ≡ usable_bytes_in_segment size → 0 < page % pages → page / pages * usable + 8152 + (page % pages - 1) * 8168 ≡ position_of size (8192 * page)
  position_of-by_division_further page pages usable c u h =
      let whole = segment_size_in_pages size valid in
      let within : page % pages < pages = omega arith in
      let n = page / pages in
      let j = page % pages - 1 in
      let e : 8192 * page ≡ 8192 * (pages_of size * n + (j + 1)) = omega (arith, div-add-mod page pages, ap (λ (x : ℕ). x * n) c) in
      omega (arith, ap (position_of size) e, position_of-further_page size valid n j (omega arith), position_of-segment size valid n, ap (λ (x : ℕ). n * x) u)

  -- a page's start has no larger position than address
  pub segment_start_fits : (page pages usable : ℕ) → pages ≡ pages_of size → usable ≡ usable_bytes_in_segment size → page / pages * usable ≤ 8192 * page
  segment_start_fits page pages usable c u =
      let n = page / pages in
      let start = position_of-segment size valid n in
      omega (arith, div-add-mod page pages, segment_start size valid n, ap (λ (x : ℕ). x * n) c, ap (λ (x : ℕ). n * x) u, position_of-le_self size (size * n))
