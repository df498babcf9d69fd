-- Which bytes are in headers, and what is behind them.
use Rattle.std.proofs.Common.{◌≡◌, ℕ, ◌+◌, ◌-◌, ◌*◌, ◌/◌, ◌%◌, ◌<◌, ◌≤◌, true, false, sym, ap, subst, ◌∙◌, inl, inr, arith}
use Rattle.std.proofs.lemmas.Bool.{cases_lt, lt-ltb, le-ltb, or_left, or_right, or_from, cond-true, cond-false, both_ways}
use Rattle.std.proofs.Math.Nat.{div-add-mod, mod-mod_of_dvd, mod-eq_of_lt, mul-add-mod_self_left, dvd-mul_right}
use Rattle.byte_position.specs.Geometry.{IsSegmentSize, pages_of}
use Rattle.byte_position.specs.Position.{is_in_header, behind_header}
use Rattle.byte_position.proofs.SegmentSizes.{segment_size_in_pages}

module _ (size : ℕ) (valid : IsSegmentSize size) where
  -- a byte has the same place in its page, counted in the log or in its segment
  pub in_page : (a : ℕ) → a % size % 8192 ≡ a % 8192
  in_page a =
      let whole = (segment_size_in_pages size valid).0 in
      mod-mod_of_dvd 8192 a (rw whole (dvd-mul_right 8192 (pages_of size)))

  -- place m of segment t
  pub in_segment : (t m : ℕ) → m < size → (size * t + m) % size ≡ m
  in_segment t m h = mul-add-mod_self_left size t m ∙ mod-eq_of_lt h

  pub next_in_segment : (a : ℕ) → a % size + 1 < size → (a + 1) % size ≡ a % size + 1
  next_in_segment a h =
      let e : a + 1 ≡ size * (a / size) + (a % size + 1) = omega (arith, div-add-mod a size) in
      ap (λ (x : ℕ). x % size) e ∙ in_segment (a / size) (a % size + 1) h

  -- ---- the three cases: a segment's first header, another page's, none

  pub in_first : (a : ℕ) → a % size < 40 → is_in_header size a ≡ true
  in_first a h = or_left _ _ (lt-ltb (a % size) 40 h)

  pub in_other : (a : ℕ) → a % 8192 < 24 → is_in_header size a ≡ true
  in_other a h = or_right _ _ (lt-ltb (a % 8192) 24 h)

  pub in_none : (a : ℕ) → 40 ≤ a % size → 24 ≤ a % 8192 → is_in_header size a ≡ false
  in_none a h k = or_from _ _ (le-ltb (a % size) 40 h) (le-ltb (a % 8192) 24 k)

  pub behind_first : (a : ℕ) → a % size < 40 → behind_header size a ≡ a - a % size + 40
  behind_first a h = cond-true _ _ _ (lt-ltb (a % size) 40 h)

  pub behind_other : (a : ℕ) → 40 ≤ a % size → a % 8192 < 24 → behind_header size a ≡ a - a % 8192 + 24
  behind_other a h k =
      cond-false _ _ _ (le-ltb (a % size) 40 h) ∙ cond-true _ _ _ (lt-ltb (a % 8192) 24 k)

  pub behind_none : (a : ℕ) → 40 ≤ a % size → 24 ≤ a % 8192 → behind_header size a ≡ a
  behind_none a h k =
      cond-false _ _ _ (le-ltb (a % size) 40 h) ∙ cond-false _ _ _ (le-ltb (a % 8192) 24 k)

  -- ---- what is behind a header

  -- a byte in no header is itself the first one from there on
  pub behind_header-outside : (a : ℕ) → is_in_header size a ≡ false → behind_header size a ≡ a
  behind_header-outside a h =
      elim (cases_lt (a % size) 40) [ inl f ↦ absurd (both_ways _ h (in_first a f)) | inr f ↦ elim (cases_lt (a % 8192) 24) [ inl k ↦ absurd (both_ways _ h (in_other a k)) | inr k ↦ behind_none a f k ] ]

  -- from the next byte of a header on, the same byte is the first one
  pub behind_header-inside : (a : ℕ) → is_in_header size a ≡ true → behind_header size (a + 1) ≡ behind_header size a
  behind_header-inside a h =
      let whole = segment_size_in_pages size valid in
      let low = div-add-mod a size in
      let within : a % size < size = omega arith in
      let page = in_page a in
      let next_page = in_page (a + 1) in
      elim (cases_lt (a % size) 40) [
        | inl f ↦
            (let next = next_in_segment a (omega arith) in
            elim (cases_lt (a % size) 39) [ inl g ↦ omega (arith, behind_first (a + 1) (omega arith), behind_first a f) | inr g ↦ omega (arith, behind_none (a + 1) (omega arith) (omega arith), behind_first a f) ])
        | inr f ↦ elim (cases_lt (a % 8192) 24) [
          | inl k ↦
              (let next = next_in_segment a (omega arith) in
              elim (cases_lt (a % 8192) 23) [ inl g ↦ omega (arith, behind_other (a + 1) (omega arith) (omega arith), behind_other a f k) | inr g ↦ omega (arith, behind_none (a + 1) (omega arith) (omega arith), behind_other a f k) ])
          | inr k ↦ absurd (both_ways _ (in_none a f k) h)
        ]
      ]

  -- it is in no header
  pub is_in_header-behind_header : (a : ℕ) → is_in_header size (behind_header size a) ≡ false
  is_in_header-behind_header a =
      let whole = segment_size_in_pages size valid in
      let low = div-add-mod a size in
      let within : a % size < size = omega arith in
      let page = in_page a in
      elim (cases_lt (a % size) 40) [
        | inl f ↦
            (let b = size * (a / size) + 40 in
            let at = in_segment (a / size) 40 (omega arith) in
            let at_page = in_page b in
            let e : behind_header size a ≡ b = omega (arith, behind_first a f) in
            subst (λ (x : ℕ). is_in_header size x ≡ false) (sym e) (in_none b (omega arith) (omega arith)))
        | inr f ↦ elim (cases_lt (a % 8192) 24) [
          | inl k ↦
              (let m = a % size - a % 8192 + 24 in
              let b = size * (a / size) + m in
              let at = in_segment (a / size) m (omega arith) in
              let at_page = in_page b in
              let e : behind_header size a ≡ b = omega (arith, behind_other a f k) in
              subst (λ (x : ℕ). is_in_header size x ≡ false) (sym e) (in_none b (omega arith) (omega arith)))
          | inr k ↦ subst (λ (x : ℕ). is_in_header size x ≡ false) (sym (behind_none a f k)) (in_none a f k)
        ]
      ]

  pub behind_header_bounds : (a : ℕ) → (a ≤ behind_header size a) × (behind_header size a ≤ a + 40)
  behind_header_bounds a =
      let low = div-add-mod a size in
      elim (cases_lt (a % size) 40) [ inl f ↦ (omega (arith, behind_first a f), omega (arith, behind_first a f)) | inr f ↦ elim (cases_lt (a % 8192) 24) [ inl k ↦ (omega (arith, behind_other a f k), omega (arith, behind_other a f k)) | inr k ↦ (omega (arith, behind_none a f k), omega (arith, behind_none a f k)) ] ]
