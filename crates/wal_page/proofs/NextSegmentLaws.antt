-- Laws of where the next segment begins, for the proofs of this crate and of those above.
use Rattle.std.proofs.Common.{◌≡◌, ℕ, ◌+◌, ◌-◌, ◌*◌, ◌/◌, ◌%◌, ◌^◌, ◌<◌, ◌≤◌, sym, ap, subst, ◌∙◌, arith}
use Rattle.std.proofs.lemmas.Nat.{pow-add}
use Rattle.std.proofs.Math.Nat.{div-add-mod, le_of_mul-le-mul_left, lt-mul-div-succ, lt_of_mul-lt-mul_left, mul-div-le, mul-le-mul_left, mul-suc}
use Rattle.byte_position.specs.Geometry.{IsSegmentSize, pages_of}
use Rattle.byte_position.specs.Position.{position_of, address_of, end_address_of}
use Rattle.byte_position.proofs.EndAddresses.{end_address_of-page_start}
use Rattle.byte_position.proofs.PositionLaws.{is_in_header-address_of, position_of-address_of, position_of-outside}
use Rattle.byte_position.proofs.Rising.{lt-position_of, position_of-le_self}
use Rattle.byte_position.proofs.SegmentSizes.{segment_size_is_power, segment_size_in_pages}
use Rattle.byte_position.proofs.Segments.{position_of-next_segment, segment_start}
use Rattle.byte_position.proofs.Words.{position_of-mod_word}
use Rattle.wal_page.specs.Order.{next_segment}

module _ (size : ℕ) (valid : IsSegmentSize size) where
  -- the next segment begins behind the position, at a whole word
  pub lt-next_segment : (position : ℕ) → position < next_segment size position
  lt-next_segment position =
      let pages = segment_size_in_pages size valid in
      let address = address_of size position in
      lt-position_of size valid position (size * (address / size + 1)) (lt-mul-div-succ address (omega arith))

  pub next_segment-whole : (position : ℕ) → next_segment size position % 8 ≡ 0
  next_segment-whole position =
      let next = address_of size position / size + 1 in
      let words : size * next ≡ 8 * (1024 * (pages_of size * next)) = omega (arith, segment_start size valid next) in
      ap (λ (a : ℕ). position_of size a % 8) words ∙ position_of-mod_word size valid (1024 * (pages_of size * next))

  -- a segment that starts below address 2 ^ 60 ends there at the latest
  segment_below : (n : ℕ) → size * n < 2 ^ 60 → size * (n + 1) ≤ 2 ^ 60
  segment_below n below =
      let power = segment_size_is_power size valid in
      let rest = 2 ^ (60 - power.0) in
      let sum : power.0 + (60 - power.0) ≡ 60 = omega (arith, power.2) in
      let whole : size * rest ≡ 2 ^ 60 = ap (λ (s : ℕ). s * rest) power.3 ∙ sym (pow-add 2 power.0 (60 - power.0)) ∙ ap (λ (k : ℕ). 2 ^ k) sum in
      let fewer : n < rest = lt_of_mul-lt-mul_left size (subst (λ (m : ℕ). size * n < m) (sym whole) below) in
      subst (λ (m : ℕ). size * (n + 1) ≤ m) whole (mul-le-mul_left size (omega arith))

  pub next_segment-below : (position : ℕ) → address_of size position < 2 ^ 60 → next_segment size position < 2 ^ 60
  next_segment-below position below =
      let n = address_of size position / size in
      let starts = mul-div-le (address_of size position) size in
      let ends = segment_below n (omega arith) in
      let own = position_of-le_self size (size * n) in
      let pages = segment_size_in_pages size valid in
      let more : size * (n + 1) ≡ size * n + size = omega (arith, mul-suc size n) in
      omega (arith, position_of-next_segment size valid n)

  -- it begins at its own start in end form
  pub end_of_switch : (last : ℕ) → end_address_of size (next_segment size last) ≡ size * (address_of size last / size + 1)
  end_of_switch last =
      let n = address_of size last / size + 1 in
      let start = segment_start size valid n in
      ap (λ (a : ℕ). end_address_of size (position_of size a)) start ∙ end_address_of-page_start size valid (pages_of size * n) ∙ sym start

  -- just behind the last byte of a segment
  pub next_segment-last : (last : ℕ) → (address_of size last + 1) % size ≡ 0 → next_segment size last ≡ last + 1
  next_segment-last last ends =
      let pages = segment_size_in_pages size valid in
      let a = address_of size last in
      let m = (a + 1) / size in
      let whole : size * m ≡ a + 1 = omega (arith, div-add-mod (a + 1) size, ends) in
      let below = mul-div-le a size in
      let above : a < size * (a / size + 1) = lt-mul-div-succ a (omega (arith, pages)) in
      let more : a / size < m = lt_of_mul-lt-mul_left size (omega arith) in
      let least : m ≤ a / size + 1 = le_of_mul-le-mul_left {k = size} (omega arith) (omega (arith, pages)) in
      let same : a / size + 1 ≡ m = omega arith in
      let next : size * (a / size + 1) ≡ a + 1 = ap (λ (k : ℕ). size * k) same ∙ whole in
      ap (position_of size) next ∙ position_of-outside size a (is_in_header-address_of size valid last) ∙ ap (λ (p : ℕ). p + 1) (position_of-address_of size valid last)
