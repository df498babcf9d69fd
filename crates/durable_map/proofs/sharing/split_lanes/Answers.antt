use Rattle.std.proofs.Common.{List, length, ap, arith, subst, sym, ◌∙◌}
use Rattle.machine_state.specs.Views.{View}
use Rattle.durable_map.specs.Stores.{IsPartOfLog, Slots, view_of_part}
use Rattle.durable_map.specs.declared.part.MapPart.{MapPart}
use Rattle.durable_map.proofs.LaneLaws.{all_dealt, none_dealt, one_dealt}
use Rattle.durable_map.proofs.sharing.split_lanes.Goals as goal

pub loop-entries-init : goal.loop-entries-init
loop-entries-init g c =
    let len = ap (λ (x : List Slots). length x)
    c.into_iter-entries-iterator.ensures.into_iter_gives.0 in
    record {
      spare = omega (
        arith,
        len,
        c.requires.spare,
        c.requires.some,
        c.args.dealt.ok.0,
        c.in-Some.ensures.cases,
        c.pop.new.self.ok.0,
      );
      dealing = none_dealt c.args.log.now c.args.pass _ c.in_ok-lanes.ensures.items
          c.requires.pass c.requires.alone c.requires.numbers;
    }

pub loop-entries-preserved : goal.loop-entries-preserved
loop-entries-preserved g c =
    let left = c.split-pass.ensures.left in
    let right = c.split-pass.ensures.right in
    let before = c.loop-entries.invariant in
    let mine = before.dealing.of_log.of_log.numbers in
    let theirs = (left.0).of_log.numbers in
    let low = ap (λ (v : View). (v.reserving).spare) left.1 in
    let high = ap (λ (v : View). (v.reserving).spare_end) left.1 in
    let next = ap (λ (x : List Slots). length x) c.in-Some-entries.ensures.steps.0 in
    record {
      spare = (let enough = before.spare in
          let a = mine.low in let b = mine.high in let x = theirs.low in let y = theirs.high in
          omega (arith, enough, next, a, b, x, y, low, high));
      dealing = one_dealt c.passes_share_numbers.ensures.split
          c.passes_hand_on_their_logs.ensures.split c.args.log.now c.args.pass _ _ _ _ _
          before.dealing left.0 left.1
          (subst (λ (part : MapPart). IsPartOfLog c.args.log.now part) (sym c.of.ensures.part)
          right.0) (ap view_of_part c.of.ensures.part ∙ right.1) c.of.ensures.idle
          c.in_ok-push.ensures.items;
    }

pub returns-clause-lanes : goal.returns-clause-lanes
returns-clause-lanes g c = (all_dealt c.args.log.now c.args.pass _ _ _ _
    c.loop-entries.invariant.dealing (ap (λ (part : MapPart). part.pass) c.of-2.ensures.part)
    c.of-2.ensures.idle c.in_ok-push-2.ensures.items).0

pub returns-clause-new : goal.returns-clause-new
returns-clause-new g c = (all_dealt c.args.log.now c.args.pass _ _ _ _
    c.loop-entries.invariant.dealing (ap (λ (part : MapPart). part.pass) c.of-2.ensures.part)
    c.of-2.ensures.idle c.in_ok-push-2.ensures.items).1

pub returns-clause-idle : goal.returns-clause-idle
returns-clause-idle g c = (all_dealt c.args.log.now c.args.pass _ _ _ _
    c.loop-entries.invariant.dealing (ap (λ (part : MapPart). part.pass) c.of-2.ensures.part)
    c.of-2.ensures.idle c.in_ok-push-2.ensures.items).2
