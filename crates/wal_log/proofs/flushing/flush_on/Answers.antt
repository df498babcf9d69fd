use Rattle.std.specs.Prelude.{Ok, Err}
use Rattle.std.proofs.Common.{inl, inr, refl, sym, ap, ◌∙◌, subst}
use Rattle.byte_position.specs.Geometry.{IsSegmentSize}
use Rattle.machine_state.specs.declared.setup.Setup.{Setup}
use Rattle.wal_rule.specs.SeatedPasses.{view_of}
use Rattle.wal_log.specs.declared.flushing.TryFlushErr.TheVariants as tries
use Rattle.wal_log.specs.Standing.{ComesToRest}
use Rattle.wal_log.proofs.AwaitLaws.{rests_at_work, sees_keep, sees_same, tried_and_looked}
use Rattle.wal_log.proofs.FlushLaws.{answer_again, answer_of, fails_behind, told_behind, unreserved_behind}
use Rattle.wal_log.proofs.Keeping.{further_pass, meets_since, same_pass}
use Rattle.wal_log.proofs.LookLaws.{last_tried, only_found}
use Rattle.wal_log.proofs.ReservedLaws.{judged_again, last_judged}
use Rattle.wal_log.proofs.Seated.{own_setup, valid_size}
use Rattle.wal_log.proofs.Trying.{first_try, rests_again, tried_again}
use Rattle.wal_log.proofs.flushing.flush_on.Given.{Over}
use Rattle.wal_log.proofs.flushing.flush_on.Goals as goal
use Rattle.wal_log.proofs.flushing.flush_on.Goals.{After-try_flush}

pub loop-init : goal.loop-init
loop-init g c = record {
  goes_on = (tt, tt);
  tried = first_try c.args.seated.now c.requires.rests;
  looked = inl (sees_same c.args.seated.now);
  judged = inl refl;
}

size_so : (g : Over) (c : After-try_flush g)
    → IsSegmentSize (view_of c.loop.seated).opening.setup.seg_size
size_so g c = subst (λ (s : Setup). IsSegmentSize s.seg_size) (sym (own_setup c.loop.seated))
    (valid_size c.loop.seated)

rests : (g : Over) (c : After-try_flush g) → ComesToRest c.args.seated.now c.try_flush.new.seated
rests g c = rests_again c.args.seated.now c.loop.seated c.try_flush.new.seated
    c.loop.invariant.tried.comes c.try_flush.ensures.rests

pub returns-in-Ok-clause-flushes : goal.returns-in-Ok-clause-flushes
returns-in-Ok-clause-flushes g c = (
  told_behind c.args.upto.0 c.in-Ok.hard.upto.0 c.in-Ok.hard.moment (view_of c.args.seated.now)
      (view_of c.loop.seated) (view_of c.try_flush.new.seated) c.loop.invariant.tried.log
      c.loop.invariant.tried.comes.keeps c.args.upto.0 c.in-Ok.ensures.tries.0.reached
      c.in-Ok.ensures.tries.0,
  c.in-Ok.ensures.tries.1,
)

pub returns-in-Ok-clause-down_again : goal.returns-in-Ok-clause-down_again
returns-in-Ok-clause-down_again g c = λ faults knows.
    answer_again c.try_flush.result _ faults (ap answer_of c.in-Ok.is)
    (c.try_flush.ensures.down_again faults
    (c.loop.invariant.tried.comes.keeps.down faults knows))

pub returns-in-Ok-clause-rests : goal.returns-in-Ok-clause-rests
returns-in-Ok-clause-rests g c =
    rests g (goal.at.returns-in-Ok-clause-rests g c).After-try_flush

pub returns-in-Err-Disk-clause-flushes : goal.returns-in-Err-Disk-clause-flushes
returns-in-Err-Disk-clause-flushes g c =
    let why = rw c.in-Err-Disk.field-0-is at c.in-Err-Disk.ensures.tries in (
      why.1 ∙ c.loop.invariant.tried.log,
      fails_behind c.args.upto.0 (view_of c.args.seated.now) (view_of c.loop.seated)
          (view_of c.try_flush.new.seated) c.loop.invariant.tried.comes.keeps
          c.in-Err-Disk.faults why.0,
    )

pub returns-in-Err-Down-clause-flushes : goal.returns-in-Err-Down-clause-flushes
returns-in-Err-Down-clause-flushes g c =
    let why = rw c.in-Err-Down.field-0-is at c.in-Err-Down.ensures.tries in (
      why.1 ∙ c.loop.invariant.tried.log,
      meets_since (view_of c.args.seated.now) (view_of c.loop.seated)
          (view_of c.try_flush.new.seated) c.in-Err-Down.faults c.loop.invariant.tried.down_set why.0,
    )

pub returns-in-Err-Disk-clause-down_again : goal.returns-in-Err-Disk-clause-down_again
returns-in-Err-Disk-clause-down_again g c = λ faults knows.
    answer_again c.try_flush.result _ faults
    (ap answer_of (c.in-Err-Disk.is ∙ ap Err c.in-Err-Disk.field-0-is))
    (c.try_flush.ensures.down_again faults
    (c.loop.invariant.tried.comes.keeps.down faults knows))

pub returns-in-Err-Down-clause-down_again : goal.returns-in-Err-Down-clause-down_again
returns-in-Err-Down-clause-down_again g c = λ faults knows.
    answer_again c.try_flush.result _ faults
    (ap answer_of (c.in-Err-Down.is ∙ ap Err c.in-Err-Down.field-0-is))
    (c.try_flush.ensures.down_again faults
    (c.loop.invariant.tried.comes.keeps.down faults knows))

pub returns-in-Err-Disk-clause-rests : goal.returns-in-Err-Disk-clause-rests
returns-in-Err-Disk-clause-rests g c =
    rests g (goal.at.returns-in-Err-Disk-clause-rests g c).After-try_flush

pub returns-in-Err-Down-clause-rests : goal.returns-in-Err-Down-clause-rests
returns-in-Err-Down-clause-rests g c =
    rests g (goal.at.returns-in-Err-Down-clause-rests g c).After-try_flush

pub returns-in-Err-Unreserved-clause-flushes : goal.returns-in-Err-Unreserved-clause-flushes
returns-in-Err-Unreserved-clause-flushes g c =
    let why = rw c.in-Err-Unreserved.field-0-is at c.in-Err-Unreserved.ensures.tries in (
      why.1 ∙ c.loop.invariant.tried.log,
      unreserved_behind c.args.upto.0 (view_of c.args.seated.now) (view_of c.loop.seated)
          (view_of c.try_flush.new.seated) c.loop.invariant.tried.comes.keeps
          c.in-Err-Unreserved.end.0 why.0,
    )

pub returns-in-Err-Unreserved-clause-down_again : goal.returns-in-Err-Unreserved-clause-down_again
returns-in-Err-Unreserved-clause-down_again g c = λ faults knows.
    answer_again c.try_flush.result _ faults
    (ap answer_of (c.in-Err-Unreserved.is ∙ ap Err c.in-Err-Unreserved.field-0-is))
    (c.try_flush.ensures.down_again faults
    (c.loop.invariant.tried.comes.keeps.down faults knows))

pub returns-in-Err-Unreserved-clause-rests : goal.returns-in-Err-Unreserved-clause-rests
returns-in-Err-Unreserved-clause-rests g c =
    rests g (goal.at.returns-in-Err-Unreserved-clause-rests g c).After-try_flush

pub loop-preserved-in-Err-Behind : goal.loop-preserved-in-Err-Behind
loop-preserved-in-Err-Behind g c =
    let why = rw c.in-Err-Behind.field-0-is at c.in-Err-Behind.ensures.tries in
    let last = last_tried c.args.upto.0 c.args.seated.now c.loop.seated
    (view_of c.try_flush.new.seated) c.loop.invariant.looked (Err c.in-Err-Behind.field-0)
    c.in-Err-Behind.ensures.only_unflushed in record {
      goes_on = (tt, tt);
      tried = tried_again c.args.seated.now c.loop.seated c.try_flush.new.seated
          c.loop.invariant.tried c.try_flush.ensures.rests why.1 why.0.1.up
          c.try_flush.ensures.async_met;
      looked = inr (only_found c.args.upto.0 (view_of c.args.seated.now)
          (rw c.in-Err-Behind.field-0-is at last));
      judged = judged_again c.args.upto.0 c.args.seated.now c.loop.seated
          (view_of c.try_flush.new.seated) c.try_flush.new.seated c.loop.invariant.judged
          (rw c.in-Err-Behind.field-0-is at c.in-Err-Behind.ensures.unreserved) why.0.1
          (subst (λ (s : Setup). IsSegmentSize s.seg_size)
          (sym (own_setup c.try_flush.new.seated)) (valid_size c.try_flush.new.seated))
          (same_pass (view_of c.try_flush.new.seated));
    }

pub await_flush-requires : goal.await_flush-requires
await_flush-requires g c =
    let why = rw c.in-Err-Turn.field-0-is at c.in-Err-Turn.ensures.tries in record { up = why.0.2.up }

pub loop-preserved : goal.loop-preserved
loop-preserved g c =
    let why = rw c.in-Err-Turn.field-0-is at c.in-Err-Turn.ensures.tries in
    let tried = tried_again c.args.seated.now c.loop.seated c.try_flush.new.seated
    c.loop.invariant.tried c.try_flush.ensures.rests why.1 why.0.2.up
    c.try_flush.ensures.async_met in
    let awaited = tried_again c.args.seated.now c.try_flush.new.seated c.await_flush.new.seated
    tried (rests_at_work c.try_flush.new.seated c.await_flush.new.seated
    (tried.comes).rests c.await_flush.ensures.stays) c.await_flush.ensures.log
    c.await_flush.ensures.up c.await_flush.ensures.stays.work.async in
    let last = last_tried c.args.upto.0 c.args.seated.now c.loop.seated
    (view_of c.try_flush.new.seated) c.loop.invariant.looked (Err c.in-Err-Turn.field-0)
    c.in-Err-Turn.ensures.only_unflushed in record {
      goes_on = (tt, tt);
      tried = tried_and_looked c.args.seated.now c.await_flush.new.seated
          c.gather.new.seated awaited c.gather.ensures.sees;
      looked = inr (only_found c.args.upto.0 (view_of c.args.seated.now)
          (rw c.in-Err-Turn.field-0-is at last));
      judged = judged_again c.args.upto.0 c.args.seated.now c.loop.seated
          (view_of c.try_flush.new.seated) c.gather.new.seated
          c.loop.invariant.judged
          (rw c.in-Err-Turn.field-0-is at c.in-Err-Turn.ensures.unreserved) why.0.2
          (subst (λ (s : Setup). IsSegmentSize s.seg_size)
          (sym (own_setup c.try_flush.new.seated)) (valid_size c.try_flush.new.seated))
          (further_pass (view_of c.try_flush.new.seated) (view_of c.await_flush.new.seated)
          (view_of c.gather.new.seated) c.await_flush.ensures.stays.work.pass
          (sees_keep c.await_flush.new.seated c.gather.new.seated
          c.gather.ensures.sees));
    }

-- ---- the flushed address is looked at first

pub returns-in-Ok-clause-only_unflushed : goal.returns-in-Ok-clause-only_unflushed
returns-in-Ok-clause-only_unflushed g c =
    last_tried c.args.upto.0 c.args.seated.now c.loop.seated (view_of c.try_flush.new.seated)
    c.loop.invariant.looked (Ok c.in-Ok.hard) c.in-Ok.ensures.only_unflushed

pub returns-in-Err-Disk-clause-only_unflushed : goal.returns-in-Err-Disk-clause-only_unflushed
returns-in-Err-Disk-clause-only_unflushed g c =
    last_tried c.args.upto.0 c.args.seated.now c.loop.seated (view_of c.try_flush.new.seated)
    c.loop.invariant.looked (Err (tries.Disk c.in-Err-Disk.faults))
    (rw c.in-Err-Disk.field-0-is at c.in-Err-Disk.ensures.only_unflushed)

pub returns-in-Err-Down-clause-only_unflushed : goal.returns-in-Err-Down-clause-only_unflushed
returns-in-Err-Down-clause-only_unflushed g c =
    last_tried c.args.upto.0 c.args.seated.now c.loop.seated (view_of c.try_flush.new.seated)
    c.loop.invariant.looked (Err (tries.Down c.in-Err-Down.faults))
    (rw c.in-Err-Down.field-0-is at c.in-Err-Down.ensures.only_unflushed)

pub returns-in-Err-Unreserved-clause-only_unflushed : goal.returns-in-Err-Unreserved-clause-only_unflushed
returns-in-Err-Unreserved-clause-only_unflushed g c =
    last_tried c.args.upto.0 c.args.seated.now c.loop.seated (view_of c.try_flush.new.seated)
    c.loop.invariant.looked (Err (tries.Unreserved c.in-Err-Unreserved.end))
    (rw c.in-Err-Unreserved.field-0-is at c.in-Err-Unreserved.ensures.only_unflushed)

-- ---- whether the address is reserved

pub returns-in-Ok-clause-unreserved : goal.returns-in-Ok-clause-unreserved
returns-in-Ok-clause-unreserved g c =
    let at = (goal.at.returns-in-Ok-clause-unreserved g c).After-try_flush in
    last_judged c.args.upto.0 c.args.seated.now c.loop.seated (view_of c.try_flush.new.seated)
    (size_so g at) c.loop.invariant.judged (Ok c.in-Ok.hard) c.in-Ok.ensures.unreserved
    c.in-Ok.ensures.tries

pub returns-in-Err-Disk-clause-unreserved : goal.returns-in-Err-Disk-clause-unreserved
returns-in-Err-Disk-clause-unreserved g c =
    let at = (goal.at.returns-in-Err-Disk-clause-unreserved g c).After-try_flush in
    last_judged c.args.upto.0 c.args.seated.now c.loop.seated (view_of c.try_flush.new.seated)
    (size_so g at) c.loop.invariant.judged (Err (tries.Disk c.in-Err-Disk.faults))
    (rw c.in-Err-Disk.field-0-is at c.in-Err-Disk.ensures.unreserved)
    (rw c.in-Err-Disk.field-0-is at c.in-Err-Disk.ensures.tries)

pub returns-in-Err-Down-clause-unreserved : goal.returns-in-Err-Down-clause-unreserved
returns-in-Err-Down-clause-unreserved g c =
    let at = (goal.at.returns-in-Err-Down-clause-unreserved g c).After-try_flush in
    last_judged c.args.upto.0 c.args.seated.now c.loop.seated (view_of c.try_flush.new.seated)
    (size_so g at) c.loop.invariant.judged (Err (tries.Down c.in-Err-Down.faults))
    (rw c.in-Err-Down.field-0-is at c.in-Err-Down.ensures.unreserved)
    (rw c.in-Err-Down.field-0-is at c.in-Err-Down.ensures.tries)

pub returns-in-Err-Unreserved-clause-unreserved : goal.returns-in-Err-Unreserved-clause-unreserved
returns-in-Err-Unreserved-clause-unreserved g c =
    let at = (goal.at.returns-in-Err-Unreserved-clause-unreserved g c).After-try_flush in
    last_judged c.args.upto.0 c.args.seated.now c.loop.seated (view_of c.try_flush.new.seated)
    (size_so g at) c.loop.invariant.judged (Err (tries.Unreserved c.in-Err-Unreserved.end))
    (rw c.in-Err-Unreserved.field-0-is at c.in-Err-Unreserved.ensures.unreserved)
    (rw c.in-Err-Unreserved.field-0-is at c.in-Err-Unreserved.ensures.tries)

pub returns-in-Ok-clause-async_met : goal.returns-in-Ok-clause-async_met
returns-in-Ok-clause-async_met g c =
    c.try_flush.ensures.async_met ∙ c.loop.invariant.tried.async

pub returns-in-Err-Disk-clause-async_met : goal.returns-in-Err-Disk-clause-async_met
returns-in-Err-Disk-clause-async_met g c =
    c.try_flush.ensures.async_met ∙ c.loop.invariant.tried.async

pub returns-in-Err-Down-clause-async_met : goal.returns-in-Err-Down-clause-async_met
returns-in-Err-Down-clause-async_met g c =
    c.try_flush.ensures.async_met ∙ c.loop.invariant.tried.async

pub returns-in-Err-Unreserved-clause-async_met : goal.returns-in-Err-Unreserved-clause-async_met
returns-in-Err-Unreserved-clause-async_met g c =
    c.try_flush.ensures.async_met ∙ c.loop.invariant.tried.async
