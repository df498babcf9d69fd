use Rattle.std.proofs.Common.{◌∙◌}
use Rattle.std.proofs.lemmas.Result.{err_from_is_err_and}
use Rattle.wal_rule.specs.SeatedPasses.{view_of}
use Rattle.wal_log.proofs.AwaitLaws.{HasLooked, finds_since, found_since, loaded_written, looked_at_written, looked_never, worked_on}
use Rattle.wal_log.proofs.WaitLaws.{up_behind, up_till}
use Rattle.wal_log.proofs.copying.await_written.Given.{Over}
use Rattle.wal_log.proofs.copying.await_written.Goals as goal
use Rattle.wal_log.proofs.copying.await_written.Goals.{After-load_written}

pub loop-look-init : goal.loop-look-init
loop-look-init g c = looked_never c.args.seated.now c.requires.up

looked : (g : Over) (c : After-load_written g)
    → HasLooked c.args.seated.now c.load_written.new.self
looked g c =
    looked_at_written c.args.seated.now c.loop-look.seated c.wait_up.new.seated
    c.load_written.new.self c.load_written.result c.loop-look.invariant c.wait_up.ensures.stays
    c.wait_up.ensures.log c.in_ok-wait_up.ensures.ends.0 c.requires.away
    c.load_written.ensures.steps

pub returns-in_err-wait_up-clause-ends : goal.returns-in_err-wait_up-clause-ends
returns-in_err-wait_up-clause-ends g c =
    let p = err_from_is_err_and c.from_residual.result c.from_residual.ensures.1 in
    rw (p.1, p.2)
    (finds_since (view_of c.args.seated.now) (view_of c.loop-look.seated)
    (view_of c.wait_up.new.seated) c.requires.up c.loop-look.invariant.up
    c.in_err-wait_up.field-0.0 c.in_err-wait_up.ensures.ends)

pub returns-in_err-wait_up-clause-stays : goal.returns-in_err-wait_up-clause-stays
returns-in_err-wait_up-clause-stays g c =
    worked_on c.args.seated.now c.loop-look.seated c.wait_up.new.seated
    c.loop-look.invariant.stays c.wait_up.ensures.stays

pub returns-in_err-wait_up-clause-log : goal.returns-in_err-wait_up-clause-log
returns-in_err-wait_up-clause-log g c = c.wait_up.ensures.log ∙ c.loop-look.invariant.log

pub loop-look-preserved : goal.loop-look-preserved
loop-look-preserved g c = looked g (goal.at.loop-look-preserved g c).After-load_written

-- ---- another address was met

pub returns-then-load_written-known-clause-ends : goal.returns-then-load_written-known-clause-ends
returns-then-load_written-known-clause-ends g c =
    let at = (goal.at.returns-then-load_written-known-clause-ends g c).After-load_written in
    let old = view_of c.args.seated.now in
    let now = view_of c.loop-look.seated in
    let paused = view_of c.wait_up.new.seated in
    let new = view_of c.load_written.new.self in (
      (looked g at).up,
      up_behind old now new c.loop-look.invariant.stays.work.pass (up_till now paused new
          (loaded_written c.load_written.result c.wait_up.new.seated c.load_written.new.self
          c.load_written.ensures.steps) c.in_ok-wait_up.ensures.ends.1),
    )

pub returns-then-load_written-known-clause-stays : goal.returns-then-load_written-known-clause-stays
returns-then-load_written-known-clause-stays g c =
    (looked g (goal.at.returns-then-load_written-known-clause-stays g c).After-load_written).stays

pub returns-then-load_written-known-clause-log : goal.returns-then-load_written-known-clause-log
returns-then-load_written-known-clause-log g c =
    (looked g (goal.at.returns-then-load_written-known-clause-log g c).After-load_written).log

-- ---- the last look

pub returns-clause-ends : goal.returns-clause-ends
returns-clause-ends g c =
    found_since (view_of c.args.seated.now) (view_of c.loop-look.seated)
    (view_of c.wait_up-2.new.seated) c.requires.up c.loop-look.invariant.up
    c.loop-look.invariant.stays.work.pass c.wait_up-2.result c.wait_up-2.ensures.ends

pub returns-clause-stays : goal.returns-clause-stays
returns-clause-stays g c =
    worked_on c.args.seated.now c.loop-look.seated c.wait_up-2.new.seated
    c.loop-look.invariant.stays c.wait_up-2.ensures.stays

pub returns-clause-log : goal.returns-clause-log
returns-clause-log g c = c.wait_up-2.ensures.log ∙ c.loop-look.invariant.log
