use Rattle.std.proofs.Common.{List, arith, subst, sym}
use Rattle.std.proofs.lemmas.List.{nil_from_length}
use Rattle.wal_log.specs.Logs.{setup_of_log}
use Rattle.run_backends.specs.declared.backend.AnsweredLines.{AnsweredLines}
use Rattle.run_backends.proofs.BeginLanes.{AreBeginning, all_begun, none_begun, one_more_begun}
use Rattle.run_backends.proofs.lanes.begin_lanes.Goals as goal

pub loop-backend-init : goal.loop-backend-init
loop-backend-init g c =
    let log = c.args.log.now in
    let first = c.args.first.now in
    let all = c.args.backends.items in
    let len = c.args.backends.ok.0 in
    let spare = c.requires.spare in
    let room = c.requires.room.room in
    subst (λ (rest : List AnsweredLines). AreBeginning log first all rest c.args.lanes first)
    (sym c.into_iter-backend-iterator.ensures.into_iter_gives.0)
    (none_begun log first all c.args.lanes c.requires.pass (omega (arith, len, spare))
    c.requires.room.each c.requires.room.none (omega (arith, len, room))
    (c.passes_share_numbers.ensures.none (setup_of_log log).passes))

pub loop-backend-preserved : goal.loop-backend-preserved
loop-backend-preserved g c =
    let log = c.args.log.now in
    one_more_begun log c.args.first.now c.loop-backend.first c.split-pass.new.pass
    c.args.backends.items c.next.new.self.rest.items c.loop-backend.lanes c.push_reserved.new.self _
    (subst (λ (rest : List AnsweredLines). AreBeginning log c.args.first.now c.args.backends.items rest
    c.loop-backend.lanes c.loop-backend.first) c.in-Some.ensures.steps.0 c.loop-backend.invariant)
    c.push_reserved.ensures.items c.push_reserved.ensures.capacity c.split-pass.ensures.left
    c.split-pass.ensures.right c.requires.start
    (c.passes_share_numbers.ensures.split (setup_of_log log).passes)

pub returns-clause-lanes : goal.returns-clause-lanes
returns-clause-lanes g c =
    let rest = c.loop-backend.backend-iterator.rest in
    all_begun c.args.log.now c.args.first.now c.loop-backend.first c.args.backends.items rest.items
    c.loop-backend.lanes c.loop-backend.invariant
    (nil_from_length rest.items (omega (arith, c.in-None.ensures.steps.0, rest.ok.0)))
