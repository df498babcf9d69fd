-- The record behind an entry starts where its room ends: behind a segment switch that is where the reader goes on.
use Rattle.std.proofs.Common.{◌≡◌, ℕ, ◌+◌, ◌%◌, sym, ap, ◌∙◌, inl, inr}
use Rattle.std.proofs.lemmas.Bool.{cases_Bool}
use Rattle.byte_position.specs.Geometry.{IsSegmentSize}
use Rattle.byte_position.specs.Position.{address_of, end_address_of}
use Rattle.wal_spelling.specs.Record.{is_switch}
use Rattle.wal_spelling.specs.Spelling.{assembled, size_of}
use Rattle.wal_page.specs.Order.{Entry, room_at}
use Rattle.wal_page.proofs.PaddingLaws.{assembled_room_at-inserted, position_behind_switch}
use Rattle.wal_types.specs.declared.record.Record.{Record}
use Rattle.wal_reader.specs.declared.found.FoundRecord.{FoundRecord}
use Rattle.wal_reader.specs.declared.record_place.RecordPlace.{RecordPlace}
use Rattle.wal_reader.specs.Decodes.{found_record, next_position}
use Rattle.wal_reader.proofs.NextPositionLaws.{next_position-rounded, next_position-segment}
use Rattle.written_log_laws.specs.Written.{found_entry}

module _ (size : ℕ) (valid : IsSegmentSize size) where
  pub next_of_entry : (position : ℕ) → position % 8 ≡ 0 → (value : Record) → next_position size position (size_of value) value ≡ position + room_at size position value
  next_of_entry position whole value =
      let a = assembled value in
      elim (cases_Bool (is_switch value)) [
        | inl switches ↦ next_position-segment size position (size_of value) value switches ∙ sym (position_behind_switch size valid position a whole switches)
        | inr plain ↦ next_position-rounded size position (size_of value) value plain ∙ ap (λ (room : ℕ). position + room) (sym (assembled_room_at-inserted size position a plain))
      ]

  -- so an entry is found as it is
  pub found_as_entry : (place : RecordPlace) (prev : ℕ) (e : Entry) → e.start % 8 ≡ 0 → place.position ≡ e.start → found_record size place (size_of e.value) prev e.value ≡ found_entry size prev e
  found_as_entry place prev e whole at =
      let own : ℕ → ℕ → FoundRecord = λ start next. record {
        head = record {
          start = record { 0 = address_of size start };
          end = record { 0 = end_address_of size next };
          prev = record { 0 = prev };
          total = size_of e.value;
        };
        value = e.value;
      } in
      ap (λ (p : ℕ). own p (next_position size p (size_of e.value) e.value)) at ∙ ap (own e.start) (next_of_entry e.start whole e.value)
