use Rattle.std.proofs.Common.{◌≡◌, ℕ, sym, ap, subst, arith}
use Rattle.machine_state.specs.Steps.{advance, MayStep}
use Rattle.machine_state.specs.Views.{View}
use Rattle.insert_locks.proofs.Runs.{HasToldBelow, none_told, run_has, told_all, told_next}
use Rattle.insert_locks.proofs.holding.advance_below.Goals as goal

pub advance-requires-clause-may : goal.advance-requires-clause-may
advance-requires-clause-may g c =
    let less = c.loop-lock-test.true in
    subst (λ (v : View). MayStep v (advance c.loop-lock.lock c.args.upto.0))
    (sym (ap (λ me. me.0) c.loop-lock.invariant.told.view.me_is))
    (c.requires.may c.loop-lock.lock
    (run_has 0 c.args.count c.loop-lock.lock (omega arith) (omega (arith, less))))

pub loop-lock-init : goal.loop-lock-init
loop-lock-init g c = record {
  few = omega arith;
  told = none_told c.args.seated.now c.args.upto.0;
}

pub loop-lock-preserved : goal.loop-lock-preserved
loop-lock-preserved g c =
    let less = c.loop-lock-test.true in record {
      few = omega (arith, less, c.requires.some);
      told = told_next c.args.seated.now c.loop-lock.seated c.advance.new.self c.loop-lock.lock
          c.args.upto.0 c.loop-lock.invariant.told c.advance.ensures.steps;
    }

pub returns : goal.returns
returns g c =
    let at_end = c.loop-lock-test.false in
    let few = c.loop-lock.invariant.few in
    let some = c.requires.some in
    let all : c.loop-lock.lock ≡ c.args.count = omega (arith, at_end, few) in record {
      told = told_all c.args.seated.now c.loop-lock.seated c.args.count c.args.upto.0
          (omega (arith, some))
          (subst (λ (n : ℕ). HasToldBelow n c.args.upto.0 c.args.seated.now c.loop-lock.seated) all
          c.loop-lock.invariant.told);
    }
