-- Laws of the zeros behind a segment switch, and so of how many bytes of the log a record takes up, for the proofs of this crate and of those above.
use Rattle.std.proofs.Common.{◌≡◌, ℕ, ◌+◌, ◌-◌, ◌*◌, ◌/◌, ◌%◌, ◌^◌, ◌<◌, ◌≤◌, true, false, sym, ap, subst, ◌∙◌, inl, inr, arith}
use Rattle.std.proofs.lemmas.Bool.{cases_Bool, cond-true, cond-false}
use Rattle.std.proofs.Math.Nat.{mul-div-le}
use Rattle.byte_position.specs.Geometry.{IsSegmentSize}
use Rattle.byte_position.specs.Position.{position_of, address_of, end_address_of, usable_bytes_in_segment}
use Rattle.byte_position.proofs.PositionLaws.{position_of-address_of}
use Rattle.byte_position.proofs.Rising.{position_of-mono}
use Rattle.byte_position.proofs.SegmentSizes.{segment_size_in_pages}
use Rattle.byte_position.proofs.Segments.{position_of-next_segment}
use Rattle.wal_types.specs.declared.record.Record.{Record}
use Rattle.wal_spelling.specs.Record.{switch_record}
use Rattle.wal_spelling.specs.Spelling.{Assembled, assembled, assembled_room, assembled_size, is_assembled_switch, IsWritable, room_of, size_of}
use Rattle.wal_spelling.proofs.SwitchLaws.{ends_its_segment, is_assembled_switch-inserted, size-switch}
use Rattle.wal_page.specs.Order.{Entry, assembled_padding_at, assembled_room_at, finish_of, next_segment, position_behind, room_at}
use Rattle.wal_page.proofs.NextSegmentLaws.{lt-next_segment, next_segment-whole, end_of_switch}

-- ---- a record that can be inserted has none

pub assembled_padding_at-inserted : (size start : ℕ) (a : Assembled) → is_assembled_switch a ≡ false → assembled_padding_at size start a ≡ 0
assembled_padding_at-inserted size start a plain = cond-false (is_assembled_switch a) (next_segment size (start + assembled_size a - 1) - (start + assembled_room a)) 0 plain

pub assembled_room_at-inserted : (size start : ℕ) (a : Assembled) → is_assembled_switch a ≡ false → assembled_room_at size start a ≡ assembled_room a
assembled_room_at-inserted size start a plain = omega (arith, assembled_padding_at-inserted size start a plain)

pub room_at-inserted : (size start : ℕ) (value : Record) → IsWritable value → room_at size start value ≡ room_of value
room_at-inserted size start value writable = assembled_room_at-inserted size start (assembled value) (is_assembled_switch-inserted value writable)

-- ---- no record takes up less than its own room

pub le-assembled_room_at : (size start : ℕ) (a : Assembled) → (24 ≤ assembled_room_at size start a) × (assembled_room a ≤ assembled_room_at size start a)
le-assembled_room_at size start a = (omega arith, omega arith)

-- ---- behind a switch its segment is filled

pub assembled_padding_at-switch : (size start : ℕ) (a : Assembled) → is_assembled_switch a ≡ true → assembled_padding_at size start a ≡ next_segment size (start + assembled_size a - 1) - (start + assembled_room a)
assembled_padding_at-switch size start a switches = cond-true (is_assembled_switch a) (next_segment size (start + assembled_size a - 1) - (start + assembled_room a)) 0 switches

module _ (size : ℕ) (valid : IsSegmentSize size) where
  -- a position's segment has at most a segment's usable bytes from there on
  pub next_segment-bound : (position : ℕ) → next_segment size position ≤ position + usable_bytes_in_segment size
  next_segment-bound position =
      let n = address_of size position / size in
      let begins : position_of size (size * n) ≤ position_of size (address_of size position) = position_of-mono size (size * n) (address_of size position) (mul-div-le (address_of size position) size) in
      omega (arith, begins, position_of-address_of size valid position, position_of-next_segment size valid n)

  pub assembled_room_at-bound : (start : ℕ) (a : Assembled) → assembled_room_at size start a ≤ assembled_room a + usable_bytes_in_segment size
  assembled_room_at-bound start a =
      elim (cases_Bool (is_assembled_switch a)) [
        | inl switches ↦ omega (arith, assembled_padding_at-switch size start a switches, next_segment-bound (start + assembled_size a - 1))
        | inr plain ↦ omega (arith, assembled_padding_at-inserted size start a plain)
      ]

  -- which are fewer than 1 GiB
  pub usable-bound : usable_bytes_in_segment size < 2 ^ 30
  usable-bound = omega (arith, segment_size_in_pages size valid)

  module _ (start : ℕ) (a : Assembled) (whole : start % 8 ≡ 0) where
    room_in_segment : start + assembled_room a ≤ next_segment size (start + assembled_size a - 1)
    room_in_segment =
        let last = start + assembled_size a - 1 in
        omega (arith, whole, lt-next_segment size valid last, next_segment-whole size valid last)

    pub position_behind_switch : is_assembled_switch a ≡ true → start + assembled_room_at size start a ≡ next_segment size (start + assembled_size a - 1)
    position_behind_switch switches = omega (arith, room_in_segment, assembled_padding_at-switch size start a switches)

    -- in end form that is the segment's start
    pub end_behind_switch : is_assembled_switch a ≡ true → end_address_of size (start + assembled_room_at size start a) ≡ size * (address_of size (start + assembled_size a - 1) / size + 1)
    end_behind_switch switches = ap (end_address_of size) (position_behind_switch switches) ∙ end_of_switch size valid (start + assembled_size a - 1)

    pub assembled_padding_at-whole : assembled_padding_at size start a % 8 ≡ 0
    assembled_padding_at-whole =
        elim (cases_Bool (is_assembled_switch a)) [
          | inl switches ↦ omega (arith, whole, assembled_padding_at-switch size start a switches, next_segment-whole size valid (start + assembled_size a - 1))
          | inr plain ↦ omega (arith, assembled_padding_at-inserted size start a plain)
        ]

    pub assembled_room_at-whole : assembled_room_at size start a % 8 ≡ 0
    assembled_room_at-whole = omega (arith, assembled_padding_at-whole)

  pub room_at-whole : (start : ℕ) (value : Record) → start % 8 ≡ 0 → room_at size start value % 8 ≡ 0
  room_at-whole start value whole = assembled_room_at-whole start (assembled value) whole

-- ---- the switch that a log is given, whose 24th byte is its last

pub position_behind-switch_record : (size : ℕ) → IsSegmentSize size → (e : Entry) → e.start % 8 ≡ 0 → e.value ≡ switch_record → position_behind size e ≡ next_segment size (e.start + 23)
position_behind-switch_record size valid e whole switch =
    let last : e.start + size_of switch_record - 1 ≡ e.start + 23 = omega (arith, size-switch) in
    subst (λ (value : Record). e.start + room_at size e.start value ≡ next_segment size (e.start + 23)) (sym switch) (position_behind_switch size valid e.start (assembled switch_record) whole ends_its_segment ∙ ap (next_segment size) last)

pub finish_of-switch_record : (size : ℕ) → IsSegmentSize size → (e : Entry) → e.start % 8 ≡ 0 → e.value ≡ switch_record → finish_of size e ≡ size * (address_of size (e.start + 23) / size + 1)
finish_of-switch_record size valid e whole switch = ap (end_address_of size) (position_behind-switch_record size valid e whole switch) ∙ end_of_switch size valid (e.start + 23)
