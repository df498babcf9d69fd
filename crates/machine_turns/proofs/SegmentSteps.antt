-- Which segment a page lies in, as the log is written on.
use Rattle.std.proofs.Common.{◌≡◌, ◌≢◌, inl, inr, ℕ, ◌+◌, ◌*◌, ◌/◌, ◌%◌, ◌<◌, ◌≤◌, ap, ◌∙◌, arith}
use Rattle.std.proofs.lemmas.Bool.{cases_lt}
use Rattle.std.proofs.lemmas.Nat.{div-mul-add}
use Rattle.std.proofs.Math.Nat.{div-add-mod, mul-mod_right, div-le_of_le-mul, le-div_iff_mul-le, mod-lt}
use Rattle.byte_position.specs.Geometry.{IsSegmentSize, pages_of}
use Rattle.byte_position.proofs.SegmentSizes.{segment_size_in_pages}

module _ (size : ℕ) (valid : IsSegmentSize size) where
  abbrev pages : ℕ
  pages = pages_of size

  -- the next segment is at most the one behind the last made
  pub next-near : (written made : ℕ) → written ≤ made * size + size
      → written / 8192 / pages ≤ made + 1
  next-near written made within =
      let geometry = segment_size_in_pages size valid in
      let count : ℕ = pages in
      let multiplied : made * size ≡ made * (8192 * count) = ap (λ (n : ℕ). made * n) geometry.0 in
      let whole : written ≤ 8192 * (count * (made + 1)) = omega (arith, multiplied, geometry.0) in
      let page : written / 8192 ≤ count * (made + 1) = omega arith in
      div-le_of_le-mul count page

  -- a page written on stays in its segment, unless it ends it
  pub segment-still : (page upto : ℕ) → page * 8192 < upto → upto ≤ (page + 1) * 8192
      → upto % size ≢ 0 → upto / 8192 / pages ≡ page / pages
  segment-still page upto from to apart = elim (cases_lt upto ((page + 1) * 8192)) [
    | inl inside ↦ (let same : upto / 8192 ≡ page = omega arith in ap (λ (n : ℕ). n / pages) same)
    | inr ends ↦ (
        let geometry = segment_size_in_pages size valid in
        let count : ℕ = pages in
        let split = div-add-mod page count in
        let low : page % count < count = mod-lt page (omega (arith, geometry.1)) in
        let at_end : upto ≡ (page + 1) * 8192 = omega arith in
        let next : upto / 8192 ≡ page + 1 = omega arith in
        elim (cases_lt (page % count + 1) count) [
          | inl more ↦ (let one : page + 1 ≡ page / count * count + (page % count + 1) = omega
              (arith, split) in
              ap (λ (n : ℕ). n / count) (next ∙ one)
              ∙ div-mul-add (page / count) count (page % count + 1) more)
          | inr full ↦ (let one : page + 1 ≡ count * (page / count + 1) = omega
              (arith, split, low, full) in
              let all : upto ≡ 8192 * count * (page / count + 1) = omega (
                arith,
                at_end,
                ap (λ
                    (n : ℕ). 8192 * n) one,
              ) in
              absurd (apart (ap (λ (n : ℕ). n % size) all
              ∙ ap (λ (n : ℕ). (8192 * count * (page / count + 1)) % n) geometry.0
              ∙ mul-mod_right (8192 * count) (page / count + 1))))
        ])
  ]

  -- where the next segment is not made, it begins at or below what is written
  pub next-begins : (written made : ℕ) → made < written / 8192 / pages
      → (made + 1) * size ≤ written
  next-begins written made fresh =
      let geometry = segment_size_in_pages size valid in
      let count : ℕ = pages in
      let some_page : 0 < count = omega (arith, geometry.1) in
      let whole : (made + 1) * count ≤ written / 8192 =
      (le-div_iff_mul-le some_page).0 (omega arith) in
      let multiplied : (made + 1) * size ≡ (made + 1) * (8192 * count) =
      ap (λ (n : ℕ). (made + 1) * n) geometry.0 in
      omega (arith, multiplied, whole)
