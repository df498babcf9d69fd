use Rattle.std.proofs.Common.{List, ap, arith, length, refl}
use Rattle.std.proofs.lemmas.List.{nil_from_length}
use Rattle.durable_map.specs.declared.asked.MapCall.{MapCall}
use Rattle.durable_map.proofs.LaneCalls.{all_made, none_made, one_made}
use Rattle.durable_map.proofs.sharing.MapLane.make.Goals as goal

pub loop-call-init : goal.loop-call-init
loop-call-init g c =
    let all = c.into_iter-call-iterator.ensures.into_iter_gives.0 in
    let len = ap (λ (x : List MapCall). length x) all in
    let room = c.requires.room in
    let count = c.args.calls.ok.0 in
    record {
      room = omega (arith, room, len, count);
      pass = c.requires.pass;
      works = none_made c.args.log.now c.args.calls.items _ c.args.self.now all c.requires.pass;
    }

pub push_back_reserved-requires : goal.push_back_reserved-requires
push_back_reserved-requires g c =
    let next = ap (λ (x : List MapCall). length x) c.in-Some.ensures.steps.0 in
    let room = c.loop-call.invariant.room in
    omega (arith, next, room)

pub loop-call-preserved : goal.loop-call-preserved
loop-call-preserved g c =
    let next = ap (λ (x : List MapCall). length x) c.in-Some.ensures.steps.0 in
    let room = c.loop-call.invariant.room in
    let len = c.push_back_reserved.ensures.len in
    let capacity = c.push_back_reserved.ensures.capacity in
    record {
      room = omega (arith, next, room, len, capacity);
      pass = c.answer-told.ensures.pass;
      works = one_made c.args.log.now c.args.calls.items _ _ c.args.self.now _ _ _ _
          c.loop-call.invariant.works c.in-Some.ensures.steps.0 c.answer-told.ensures.pass
          c.answer-told.ensures.keeps c.answer-told.ensures.told refl
          c.push_back_reserved.ensures.items;
    }

pub returns : goal.returns
returns g c =
    let rest = c.loop-call.call-iterator.rest in
    all_made c.args.log.now c.args.calls.items _ c.args.self.now _ c.loop-call.invariant.works
    (nil_from_length rest.items (omega (arith, c.in-None.ensures.steps.0, rest.ok.0)))
