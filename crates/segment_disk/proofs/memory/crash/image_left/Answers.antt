use Rattle.std.proofs.Common.{◌≤◌, ◌<◌, ℕ, refl, arith}
use Rattle.std.proofs.lemmas.Option.{MatchOption-at_some, MatchOption-at_none}
use Rattle.segment_disk.specs.Failing.{is_listed}
use Rattle.segment_disk.specs.First.{first_state}
use Rattle.segment_disk.specs.Crash.{first_behind}
use Rattle.segment_disk.specs.Picks.{undecided_before}
use Rattle.segment_disk.specs.Tape.{after_calls}
use Rattle.segment_disk.proofs.ImageLeft.{ImageUpto-none, image_without, image_with, image_whole, image_count, numbers_here, state_gone}
use Rattle.segment_disk.proofs.memory.crash.image_left.Goals as goal

pub loop-number-init : goal.loop-number-init
loop-number-init c =
    rw (c.new-left.ensures.items, c.numbers-numbers.ensures) (ImageUpto-none c.args.pick.now (after_calls (first_state c.args.first.now) c.args.calls.now))

pub loop-number-preserved : goal.loop-number-preserved
loop-number-preserved c =
    let state = after_calls (first_state c.args.first.now) c.args.calls.now in
    let from = first_behind c.loop-number.last in
    let next = MatchOption-at_some _ _ c.in-Some.number c.in-Some.is c.next_after.ensures.least in
    let gone = λ (k : ℕ) (behind : from ≤ k) (below : k < c.in-Some.number). state_gone (state k) (is_listed c.args.segments.now.numbers.items k) (c.requires k) (next.1 k behind below) in
    image_without c.args.pick.now state c.loop-number.left.items c.loop-number.numbers.now from c.in-Some.number c.loop-number.invariant next.0 gone (MatchOption-at_none _ _ c.in_default-span_of.is c.span_of.ensures)

pub loop-number-preserved-in_ok-push : goal.loop-number-preserved-in_ok-push
loop-number-preserved-in_ok-push c =
    let state = after_calls (first_state c.args.first.now) c.args.calls.now in
    let from = first_behind c.loop-number.last in
    let next = MatchOption-at_some _ _ c.in-Some.number c.in-Some.is c.next_after.ensures.least in
    let gone = λ (k : ℕ) (behind : from ≤ k) (below : k < c.in-Some.number). state_gone (state k) (is_listed c.args.segments.now.numbers.items k) (c.requires k) (next.1 k behind below) in
    let here = numbers_here c.args.pick.now state c.loop-number.left.items c.loop-number.numbers.now from c.in-Some.number c.loop-number.invariant next.0 gone in
    rw (c.in_ok-push.ensures.items) (image_with c.args.pick.now state c.loop-number.left.items c.loop-number.numbers.now from c.in-Some.number c.loop-number.invariant next.0 gone _ c.in_ok-segment.segment.undecided c.listed_behind-numbers.result.now refl (c.in_ok-segment.ensures.left (undecided_before state c.in-Some.number) here) c.in_ok-segment.ensures.undecided c.listed_behind-numbers.ensures)

pub loop-number-smaller : goal.loop-number-smaller
loop-number-smaller c =
    let next = MatchOption-at_some _ _ c.in-Some.number c.in-Some.is c.next_after.ensures.least in
    omega (arith, next.0)

pub loop-number-smaller-in_ok-push : goal.loop-number-smaller-in_ok-push
loop-number-smaller-in_ok-push c =
    let next = MatchOption-at_some _ _ c.in-Some.number c.in-Some.is c.next_after.ensures.least in
    omega (arith, next.0)

pub returns-clause-picked : goal.returns-clause-picked
returns-clause-picked c =
    let state = after_calls (first_state c.args.first.now) c.args.calls.now in
    let from = first_behind c.loop-number.last in
    let none = MatchOption-at_none _ _ c.in_default.is c.next_after.ensures.least in
    image_whole c.args.pick.now state c.loop-number.left.items c.loop-number.numbers.now from c.loop-number.invariant
    (λ k behind. state_gone (state k) (is_listed c.args.segments.now.numbers.items k) (c.requires k) (none k behind))

pub returns-clause-count : goal.returns-clause-count
returns-clause-count c =
    let state = after_calls (first_state c.args.first.now) c.args.calls.now in
    let from = first_behind c.loop-number.last in
    let none = MatchOption-at_none _ _ c.in_default.is c.next_after.ensures.least in
    image_count c.args.pick.now state c.loop-number.left.items c.loop-number.numbers.now from c.loop-number.invariant
    (λ k behind. state_gone (state k) (is_listed c.args.segments.now.numbers.items k) (c.requires k) (none k behind))
