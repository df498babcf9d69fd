use Rattle.std.proofs.Common.{◌≡◌, ℕ, ◌+◌, ◌-◌, ◌*◌, ◌/◌, List, get_or, refl, sym, ap, ◌∙◌}
use Rattle.wal_types.specs.declared.record.Record.{Record}
use Rattle.wal_spelling.specs.Record.{ends_segment, is_switch}
use Rattle.wal_record.proofs.HeaderBytes.{HasHeaderOf, header_of}
use Rattle.wal_page.specs.Order.{next_segment}
use Rattle.wal_reader.proofs.NextPositionLaws.{next_position-rounded, next_position-segment}
use Rattle.wal_reader.proofs.record_extent.RecordExtent.next_position.Goals as goal

-- whether the record is a segment switch is what its bytes say
same_test : (bytes : List ℕ) (value : Record) → HasHeaderOf bytes value → is_switch value ≡ ends_segment (get_or bytes 17 0) (get_or bytes 16 0)
same_test bytes value head = rw (head.manager, head.info) refl

pub returns-then-ends_segment : goal.returns-then-ends_segment
returns-then-ends_segment c = λ value read.
    let size = c.args.geometry in
    let position = c.args.self.at.position in
    let switches = same_test c.args.bytes.now value (header_of c.args.bytes.now value read) ∙ sym c.ends_segment.ensures ∙ c.if-ends_segment.true in
    c.next_segment.ensures ∙ ap (λ (n : ℕ). next_segment size (position + n - 1)) c.from-total.ensures ∙ sym (next_position-segment size position c.args.self.total value switches)

pub returns-else-ends_segment : goal.returns-else-ends_segment
returns-else-ends_segment c = λ value read.
    let size = c.args.geometry in
    let position = c.args.self.at.position in
    let plain = same_test c.args.bytes.now value (header_of c.args.bytes.now value read) ∙ sym c.ends_segment.ensures ∙ c.if-ends_segment.false in
    ap (λ (n : ℕ). position + (n + 7) / 8 * 8) c.from-total.ensures ∙ sym (next_position-rounded size position c.args.self.total value plain)
