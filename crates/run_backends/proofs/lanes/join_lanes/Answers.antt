use Rattle.std.proofs.Common.{[], ◌≡◌, arith}
use Rattle.std.proofs.lemmas.List.{nil_from_length}
use Rattle.wal_rule.specs.Passes.{view_of_pass}
use Rattle.wal_log.specs.Logs.{setup_of_log}
use Rattle.run_backends.proofs.JoinLanes.{all_taken_in, all_told, next_may_be_taken_in, none_joined, none_left_to_share, one_more_joined}
use Rattle.run_backends.proofs.lanes.join_lanes.Goals as goal

pub loop-lane-init : goal.loop-lane-init
loop-lane-init g c =
    let room = c.requires.room.room in
    let count = c.args.lanes.ok.0 in
    none_joined c.args.log.now c.args.first.now c.args.lanes.items
    c.into_iter-lane-iterator.result.rest.items c.args.backends c.args.start.0
    c.into_iter-lane-iterator.ensures.into_iter_gives.0 c.requires.pass c.requires.lanes
    c.requires.numbers c.requires.room.none (omega (arith, room, count)) c.requires.start

pub join-requires-clause-other : goal.join-requires-clause-other
join-requires-clause-other g c = ((next_may_be_taken_in c.args.log.now _ _ _ _ _ _ _ _
    c.loop-lane.invariant c.in-Some.ensures.steps.0).session).session.pass

pub loop-lane-preserved : goal.loop-lane-preserved
loop-lane-preserved g c = one_more_joined c.args.log.now _ _ _ _ _ _ _ _
    c.loop-lane.invariant c.in-Some.ensures.steps.0 c.join.new.pass c.push_reserved.new.self
    c.max.result (c.passes_share_numbers.ensures.join (setup_of_log c.args.log.now).passes)
    c.join.ensures.pass c.join.ensures.view c.push_reserved.ensures.items
    c.push_reserved.ensures.capacity c.max.ensures

pub returns-clause-taken : goal.returns-clause-taken
returns-clause-taken g c =
    let rest = c.loop-lane.lane-iterator.rest in
    let none : rest.items ≡ [] =
    nil_from_length rest.items (omega (arith, c.in-None.ensures.steps.0, rest.ok.0)) in
    all_taken_in c.args.log.now _ _ _ _ _ _ c.loop-lane.invariant none

pub returns-clause-lines : goal.returns-clause-lines
returns-clause-lines g c =
    let rest = c.loop-lane.lane-iterator.rest in
    let none : rest.items ≡ [] =
    nil_from_length rest.items (omega (arith, c.in-None.ensures.steps.0, rest.ok.0)) in
    all_told c.args.log.now _ _ _ _ _ _ c.loop-lane.invariant none

pub returns-clause-numbers : goal.returns-clause-numbers
returns-clause-numbers g c =
    let rest = c.loop-lane.lane-iterator.rest in
    let none : rest.items ≡ [] =
    nil_from_length rest.items (omega (arith, c.in-None.ensures.steps.0, rest.ok.0)) in
    c.passes_share_numbers.ensures.all (setup_of_log c.args.log.now).passes
    (view_of_pass c.loop-lane.first)
    (none_left_to_share c.args.log.now _ _ _ _ _ _ c.loop-lane.invariant none)
