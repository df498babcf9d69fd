use Rattle.std.proofs.Common.{List, arith, refl, subst}
use Rattle.std.proofs.lemmas.List.{take_all}
use Rattle.std.proofs.lemmas.Option.{MatchOption-at_some, MatchOption-at_none}
use Rattle.segment_disk.specs.declared.disk.Call.{Call}
use Rattle.segment_disk.specs.Crash.{writes_of}
use Rattle.segment_disk.specs.Picks.{writes_to}
use Rattle.segment_disk.proofs.TakenWords.{TakenAt, HoldTaken-none, taken_none, taken_one}
use Rattle.segment_disk.proofs.memory.taking.take_writes.Goals as goal
use Rattle.segment_disk.proofs.memory.taking.take_writes.Goals.{in-Some, in_default}

pub loop-call-init : goal.loop-call-init
loop-call-init c = record {
  number_is = refl;
  within = omega arith;
  words = HoldTaken-none c.args.pick.now c.args.rest.now c.args.bytes.now;
}

pub loop-call-preserved : goal.loop-call-preserved
loop-call-preserved c =
    let l = c.loop-call in
    elim c.match-page_written.branch [
      | in-Some w ↦
          rw (w.bytes-is, w.number-is) (taken_one c.args.pick.now c.args.rest.now c.args.calls.now c.call-item.result l.call-index c.args.segment c.args.page c.loop-call-test.true c.call-item.is c.args.bytes.now l.bytes l.number l.invariant _ _ (MatchOption-at_some _ _ _ w.in-Some.is c.page_written.ensures) w.take_words.ensures)
      | in_default w ↦
          rw (w.bytes-is, w.number-is) (taken_none c.args.pick.now c.args.rest.now c.args.calls.now c.call-item.result l.call-index c.args.segment c.args.page c.loop-call-test.true c.call-item.is c.args.bytes.now l.bytes l.number l.invariant (MatchOption-at_none _ _ w.in_default.is c.page_written.ensures))
    ]

pub returns : goal.returns
returns c =
    let l = c.loop-call in
    let taken = subst (λ (calls : List Call). TakenAt c.args.pick.now c.args.rest.now (writes_to (writes_of calls c.args.segment) c.args.page) c.args.bytes.now l.bytes l.number l.call-index) (take_all l.call-index c.args.calls.now c.loop-call-test.false) l.invariant in
    record { count = taken.number_is; words = taken.words }
