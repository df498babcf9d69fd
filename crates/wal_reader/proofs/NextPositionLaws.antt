-- Laws of where the next record starts behind one that was read.
use Rattle.std.proofs.Common.{◌≡◌, ℕ, ◌+◌, ◌-◌, ◌*◌, ◌/◌, ◌%◌, ◌^◌, ◌<◌, true, false, ap, ◌∙◌, inl, inr, arith}
use Rattle.std.proofs.lemmas.Bool.{cases_Bool, cond-true, cond-false}
use Rattle.byte_position.specs.Geometry.{IsSegmentSize}
use Rattle.byte_position.specs.Position.{address_of, end_address_of}
use Rattle.wal_spelling.specs.Record.{is_switch}
use Rattle.wal_types.specs.declared.record.Record.{Record}
use Rattle.wal_page.specs.Order.{next_segment}
use Rattle.wal_page.proofs.NextSegmentLaws.{lt-next_segment, next_segment-whole, next_segment-below, end_of_switch, next_segment-last}
use Rattle.wal_reader.specs.Decodes.{next_position}

-- behind a record that is no switch
pub next_position-rounded : (size position total : ℕ) (value : Record) → is_switch value ≡ false → next_position size position total value ≡ position + (total + 7) / 8 * 8
unfolding next_position
next_position-rounded size position total value plain = cond-false (is_switch value) (next_segment size (position + total - 1)) (position + (total + 7) / 8 * 8) plain

-- behind a switch
pub next_position-segment : (size position total : ℕ) (value : Record) → is_switch value ≡ true → next_position size position total value ≡ next_segment size (position + total - 1)
unfolding next_position
next_position-segment size position total value switches = cond-true (is_switch value) (next_segment size (position + total - 1)) (position + (total + 7) / 8 * 8) switches

module _ (size : ℕ) (valid : IsSegmentSize size) where
  -- ---- the next record starts further on, at a whole word, and within reach
  module _ (position total : ℕ) (value : Record) where
    pub next_position-further : 0 < total → position < next_position size position total value
    next_position-further some =
        elim (cases_Bool (is_switch value)) [
          | inl switches ↦ omega (arith, next_position-segment size position total value switches, lt-next_segment size valid (position + total - 1))
          | inr plain ↦ omega (arith, next_position-rounded size position total value plain)
        ]

    pub next_position-whole : position % 8 ≡ 0 → next_position size position total value % 8 ≡ 0
    next_position-whole whole =
        elim (cases_Bool (is_switch value)) [
          | inl switches ↦ omega (arith, next_position-segment size position total value switches, next_segment-whole size valid (position + total - 1))
          | inr plain ↦ omega (arith, next_position-rounded size position total value plain)
        ]

    pub next_position-below : position + (total + 7) / 8 * 8 < 2 ^ 60 → address_of size (position + total - 1) < 2 ^ 60 → next_position size position total value < 2 ^ 60
    next_position-below rounded last =
        elim (cases_Bool (is_switch value)) [
          | inl switches ↦ omega (arith, next_position-segment size position total value switches, next_segment-below size valid (position + total - 1) last)
          | inr plain ↦ omega (arith, next_position-rounded size position total value plain)
        ]

    -- ---- behind a switch it is the first of a segment

    pub next_position-end : is_switch value ≡ true → end_address_of size (next_position size position total value) ≡ size * (address_of size (position + total - 1) / size + 1)
    next_position-end switches = ap (end_address_of size) (next_position-segment size position total value switches) ∙ end_of_switch size valid (position + total - 1)

    pub next_position-last : is_switch value ≡ true → 0 < total → (address_of size (position + total - 1) + 1) % size ≡ 0 → next_position size position total value ≡ position + total
    next_position-last switches some ends = omega (arith, some, next_position-segment size position total value switches, next_segment-last size valid (position + total - 1) ends)
