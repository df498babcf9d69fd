-- One lane more for each script, with the next number.
use Rattle.std.proofs.Common.{List, ◌++◌, length, sym, ap, ◌∙◌, arith}
use Rattle.std.proofs.lemmas.List.{append-nil, nil_from_length}
use Rattle.machine_turns.specs.declared.lane.PlainBackend.{PlainBackend}
use Rattle.machine_turns.specs.declared.script.PlainLine.{PlainLine}
use Rattle.wal_core.specs.Cores.{first_lanes}
use Rattle.wal_core.proofs.Cores.{lanes_go_on}
use Rattle.wal_core.proofs.beginning.lanes_of.Goals as goal

pub loop-script-init : goal.loop-script-init
loop-script-init c = (
  omega (arith, c.requires.few, ap (λ (x : List (List PlainLine)). length x) c.into_iter-script-iterator.ensures.into_iter_gives.0),
  ap (λ (x : List PlainBackend). x ++ first_lanes c.args.shape.now.seg_size 1 c.into_iter-script-iterator.result.rest.items) c.in_ok-lanes.ensures.items
      ∙ ap (λ (x : List (List PlainLine)). first_lanes c.args.shape.now.seg_size 1 x) c.into_iter-script-iterator.ensures.into_iter_gives.0,
)

pub overflow_add-number : goal.overflow_add-number
overflow_add-number c = omega (
  arith,
  c.loop-script.invariant.0,
  ap (λ (x : List (List PlainLine)). length x) c.in-Some.ensures.steps.0,
)

pub loop-script-preserved : goal.loop-script-preserved
loop-script-preserved c = (
  omega (
    arith,
    c.loop-script.invariant.0,
    ap (λ (x : List (List PlainLine)). length x) c.in-Some.ensures.steps.0,
  ),
  lanes_go_on c.args.shape.now.seg_size c.loop-script.number c.loop-script.lanes.items
      c.push.new.self.items c.first_lane.result c.in-Some.script
      c.loop-script.script-iterator.rest.items c.next.new.self.rest.items
      c.in_ok-push.ensures.items c.first_lane.ensures c.in-Some.ensures.steps.0
      ∙ c.loop-script.invariant.1,
)

pub returns : goal.returns
returns c =
    let rest = c.loop-script.script-iterator.rest in
    let none_left = nil_from_length rest.items (omega (arith, c.in-None.ensures.steps.0, rest.ok.0)) in
    sym (append-nil c.loop-script.lanes.items)
    ∙ ap (λ (x : List (List PlainLine)). c.loop-script.lanes.items ++ first_lanes c.args.shape.now.seg_size c.loop-script.number x) (sym none_left)
    ∙ c.loop-script.invariant.1
