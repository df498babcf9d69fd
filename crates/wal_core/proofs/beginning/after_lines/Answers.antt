-- Each line takes its room, up to where the log is full.
use Rattle.std.proofs.Common.{◌≡◌, ◌+◌, drop, slice_index_or, refl, ap, arith}
use Rattle.std.proofs.lemmas.List.{at_drop_more, drop_all}
use Rattle.machine_turns.specs.Scripts.{InsertsLogRecord, room_of_line, rooms_of_lines}
use Rattle.wal_core.proofs.FirstData.{all_hold, one_more_holds}
use Rattle.wal_core.proofs.beginning.after_lines.Goals as goal

pub loop-line-init : goal.loop-line-init
loop-line-init c = (c.requires.within, refl, λ i x low. absurd (omega (arith, low)))

pub overflow_add-position : goal.overflow_add-position
overflow_add-position c = omega (
  arith,
  c.loop-line.invariant.0,
  c.requires.low,
  c.room.ensures.most,
)

pub loop-line-preserved : goal.loop-line-preserved
loop-line-preserved c =
    let next = slice_index_or c.args.lines.now c.loop-line.line-index c.line-item.result in
    let rest = drop (c.loop-line.line-index + 1) c.args.lines.now in
    let more : rooms_of_lines (drop c.loop-line.line-index c.args.lines.now)
    ≡ room_of_line next + rooms_of_lines rest = at_drop_more rooms_of_lines c.args.lines.now
    c.loop-line.line-index c.line-item.result c.loop-line-test.true in (
      omega (arith, c.min-position.ensures),
      omega (
        arith,
        c.min-position.ensures,
        c.room.ensures.room,
        more,
        ap room_of_line c.line-item.is,
        c.loop-line.invariant.1,
      ),
      one_more_holds InsertsLogRecord c.args.lines.now c.loop-line.line-index c.line-item.result
          c.loop-line-test.true c.line-item.is c.loop-line.invariant.2 c.room.ensures.known,
    )

pub returns : goal.returns
returns c =
    let none_left = ap rooms_of_lines (drop_all c.loop-line.line-index c.args.lines.now
    (omega (arith, c.loop-line-test.false))) in record {
      position = omega (arith, c.loop-line.invariant.0, c.loop-line.invariant.1, none_left);
      known = all_hold InsertsLogRecord c.args.lines.now c.loop-line.line-index c.loop-line-test.false
          c.loop-line.invariant.2;
    }
