use Rattle.std.proofs.Common.{◌≡◌, ◌+◌, ◌-◌, sym, ap, ◌∙◌, arith, rules}
use Rattle.byte_position.specs.Geometry.{IsSegmentSize}
use Rattle.wal_spelling.specs.Spelling.{assembled_size}
use Rattle.wal_page.specs.Order.{next_segment}
use Rattle.wal_page.proofs.PaddingLaws.{position_behind_switch}
use Rattle.wal_page.proofs.room.room_at.Goals as goal

-- behind a switch the next record starts with the next segment
pub overflow_sub-result : goal.overflow_sub-result
overflow_sub-result c =
    let a = c.args in
    let valid : IsSegmentSize a.geometry = search rules in
    let last : a.start + c.from.result - 1 ≡ a.start + assembled_size a.body.now - 1 = omega (arith, c.from.ensures, c.len.ensures.size) in
    let next = c.next_segment.ensures ∙ ap (next_segment a.geometry) last in
    omega (arith, next, position_behind_switch a.geometry valid a.start a.body.now c.requires.whole (sym c.is_switch.ensures ∙ c.if-is_switch.true))

pub returns-then-is_switch : goal.returns-then-is_switch
returns-then-is_switch c =
    let a = c.args in
    let valid : IsSegmentSize a.geometry = search rules in
    let last : a.start + c.from.result - 1 ≡ a.start + assembled_size a.body.now - 1 = omega (arith, c.from.ensures, c.len.ensures.size) in
    let next = c.next_segment.ensures ∙ ap (next_segment a.geometry) last in
    omega (arith, next, position_behind_switch a.geometry valid a.start a.body.now c.requires.whole (sym c.is_switch.ensures ∙ c.if-is_switch.true))
