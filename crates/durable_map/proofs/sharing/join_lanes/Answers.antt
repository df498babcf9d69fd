use Rattle.std.proofs.Common.{arith, ap, subst, sym, ◌∙◌}
use Rattle.std.proofs.lemmas.List.{nil_from_length}
use Rattle.wal_log_laws.specs.Growing.{after_join}
use Rattle.wal_rule.specs.declared.pass.Pass.{Pass}
use Rattle.wal_rule.specs.Passes.{view_of_pass}
use Rattle.durable_map.proofs.LaneLaws.{IsJoining, all_joined, joining, next_lane, one_joined}
use Rattle.durable_map.proofs.sharing.join_lanes.Goals as goal

pub loop-lane-init : goal.loop-lane-init
loop-lane-init g c = subst (IsJoining c.args.log.now c.args.lanes.items _)
    (sym c.into_iter-lane-iterator.ensures.into_iter_gives.0)
    (joining c.args.log.now c.args.lanes.items _ c.in-Some.own _ c.requires
    c.in-Some.ensures.items c.into_pass-pass.ensures)

pub join-requires-clause-other : goal.join-requires-clause-other
join-requires-clause-other g c = next_lane c.args.log.now c.args.lanes.items _ _ _ _ _
    c.loop-lane.invariant c.in-Some-lane.ensures.steps.0 c.into_pass.ensures

pub loop-lane-preserved : goal.loop-lane-preserved
loop-lane-preserved g c = one_joined c.passes_share_numbers.ensures.join
    c.passes_hand_on_their_logs.ensures.join c.args.log.now c.args.lanes.items _ _
    c.in-Some-lane.lane _ _ c.loop-lane.invariant c.in-Some-lane.ensures.steps.0
    c.join.ensures.pass
    (c.join.ensures.view ∙ ap (λ (p : Pass).
    after_join (view_of_pass c.loop-lane.pass) (view_of_pass p)) c.into_pass.ensures)

pub returns-clause-numbers : goal.returns-clause-numbers
returns-clause-numbers g c =
    let rest = c.loop-lane.lane-iterator.rest in
    (all_joined c.args.log.now c.args.lanes.items _ _ c.loop-lane.invariant
    (nil_from_length rest.items (omega (arith, c.in-None.ensures.steps.0, rest.ok.0)))).0

pub returns-clause-logs : goal.returns-clause-logs
returns-clause-logs g c =
    let rest = c.loop-lane.lane-iterator.rest in
    (all_joined c.args.log.now c.args.lanes.items _ _ c.loop-lane.invariant
    (nil_from_length rest.items (omega (arith, c.in-None.ensures.steps.0, rest.ok.0)))).1
