-- A segment switch fits wherever its own 24 bytes do, since the log ends with a segment; and what it leaves of a view.
use Rattle.std.specs.Prelude.{Contains, zero, suc}
use Rattle.std.proofs.Common.{◌≡◌, ◌≢◌, ℕ, ◌+◌, ◌-◌, ◌*◌, ◌/◌, ◌%◌, ◌<◌, ◌≤◌, true, refl, ap, ◌∙◌, inl, inr, arith}
use Rattle.std.proofs.lemmas.Bool.{cases_lt}
use Rattle.std.proofs.Math.Nat.{lt_of_mul-lt-mul_left, mul-div-le, mul-le-mul_left, mul-mod_right}
use Rattle.byte_position.specs.Geometry.{IsSegmentSize}
use Rattle.byte_position.specs.Position.{address_of, end_address_of, position_of}
use Rattle.byte_position.proofs.Rising.{address_of-lt, position_of-mono}
use Rattle.byte_position.proofs.Segments.{end_address_of-segment_start, first_position-usable, position_of-segment}
use Rattle.wal_spelling.specs.Spelling.{Assembled, assembled_size, is_assembled_switch}
use Rattle.wal_page.specs.Order.{assembled_room_at, next_segment}
use Rattle.wal_page.proofs.PaddingLaws.{position_behind_switch}
use Rattle.machine_state.specs.declared.setup.Setup.{Setup}
use Rattle.machine_state.specs.Words.{end_form, log_limit}
use Rattle.reserve_lock.specs.Reserved.{every_lock}

-- the log ends with a segment
limit_is : (setup : Setup) → IsSegmentSize setup.seg_size → log_limit setup ≡ position_of setup.seg_size (setup.seg_size * (setup.cap_segments + 1))
limit_is setup valid =
    let size : ℕ = setup.seg_size in
    omega (arith, first_position-usable size valid, position_of-segment size valid (setup.cap_segments + 1))

-- the segment in which a byte of the log stands ends within the log
next_within : (setup : Setup) → IsSegmentSize setup.seg_size → (last : ℕ) → last < log_limit setup → next_segment setup.seg_size last ≤ log_limit setup
next_within setup valid last below =
    let size : ℕ = setup.seg_size in
    let cap = setup.cap_segments + 1 in
    let limit = limit_is setup valid in
    let under : address_of size last < size * cap = address_of-lt size valid last (size * cap) (omega (arith, below, limit)) in
    let starts = mul-div-le (address_of size last) size in
    let own : address_of size last / size < cap = lt_of_mul-lt-mul_left size (omega (arith, starts, under)) in
    let ends : size * (address_of size last / size + 1) ≤ size * cap = mul-le-mul_left size (omega (arith, own)) in
    omega (arith, limit, position_of-mono size (size * (address_of size last / size + 1)) (size * cap) ends)

pub switch_within : (setup : Setup) → IsSegmentSize setup.seg_size → (at : ℕ) (body : Assembled) → at % 8 ≡ 0 → is_assembled_switch body ≡ true → assembled_size body ≡ 24 → at + 24 ≤ log_limit setup → at + assembled_room_at setup.seg_size at body ≤ log_limit setup
switch_within setup valid at body whole switches size fits =
    let behind = position_behind_switch setup.seg_size valid at body whole switches in
    let next = next_within setup valid (at + assembled_size body - 1) (omega (arith, size, fits)) in
    omega (arith, behind, next)

-- so where it does not fit, fewer are left
pub few_left : (setup : Setup) → IsSegmentSize setup.seg_size → (at free : ℕ) (body : Assembled) → at % 8 ≡ 0 → is_assembled_switch body ≡ true → assembled_size body ≡ 24 → at ≤ log_limit setup → free ≡ log_limit setup - at → free < assembled_room_at setup.seg_size at body → free < 24
few_left setup valid at free body whole switches size within free_is short =
    elim (cases_lt free 24) [
      | inl few ↦ few
      | inr many ↦ (
          let fits = switch_within setup valid at body whole switches size (omega (arith, many, free_is, within)) in
          omega (arith, fits, free_is, short, within)
          )
    ]

-- the log's end is a segment's start
limit_starts : (setup : Setup) → IsSegmentSize setup.seg_size
    → end_form setup (log_limit setup) % setup.seg_size ≡ 0
limit_starts setup valid =
    let size : ℕ = setup.seg_size in
    let cap = setup.cap_segments + 1 in
    ap (λ (n : ℕ). end_address_of size n % size)
    (limit_is setup valid ∙ position_of-segment size valid cap)
    ∙ ap (λ (n : ℕ). n % size) (end_address_of-segment_start size valid cap)
    ∙ mul-mod_right size cap

-- so where the log does not stand at a segment's start, some bytes are left
pub some_left : (setup : Setup) → IsSegmentSize setup.seg_size → (at free : ℕ)
    → at ≤ log_limit setup → free ≡ log_limit setup - at
    → end_form setup at % setup.seg_size ≢ 0 → 1 ≤ free
some_left setup valid at free within free_is inside = elim (cases_lt 0 free) [
  | inl some ↦ omega (arith, some)
  | inr none ↦ (
      let last : at ≡ log_limit setup = omega (arith, none, within, free_is) in
      absurd (inside (ap (λ (n : ℕ). end_form setup n % setup.seg_size) last
      ∙ limit_starts setup valid))
      )
]

-- ---- all locks

pub has_every_lock : (lock : ℕ) → lock < 8 → Contains every_lock lock
has_every_lock zero low = (0, omega arith, refl)
has_every_lock (suc zero) low = (1, omega arith, refl)
has_every_lock (suc (suc zero)) low = (2, omega arith, refl)
has_every_lock (suc (suc (suc zero))) low = (3, omega arith, refl)
has_every_lock (suc (suc (suc (suc zero)))) low = (4, omega arith, refl)
has_every_lock (suc (suc (suc (suc (suc zero))))) low = (5, omega arith, refl)
has_every_lock (suc (suc (suc (suc (suc (suc zero)))))) low = (6, omega arith, refl)
has_every_lock (suc (suc (suc (suc (suc (suc (suc zero))))))) low = (7, omega arith, refl)
has_every_lock (suc (suc (suc (suc (suc (suc (suc (suc n)))))))) low = absurd (omega (arith, low))
