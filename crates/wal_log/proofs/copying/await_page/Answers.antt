use Rattle.std.proofs.Common.{◌∙◌}
use Rattle.std.proofs.lemmas.Result.{err_from_is_err_and}
use Rattle.wal_rule.specs.SeatedPasses.{view_of}
use Rattle.wal_log.specs.Standing.{StaysAtWork}
use Rattle.wal_log.proofs.AwaitLaws.{HasLooked, end_stays, finds_since, found_since, looked_again, looked_never, worked_on}
use Rattle.wal_log.proofs.WaitLaws.{up_behind, up_till}
use Rattle.wal_log.proofs.copying.await_page.Given.{Over}
use Rattle.wal_log.proofs.copying.await_page.Goals as goal
use Rattle.wal_log.proofs.copying.await_page.Goals.{After-confirm}

pub loop-look-init : goal.loop-look-init
loop-look-init g c = looked_never c.args.seated.now c.requires.up

-- the end that was met changes nothing of its work
met_end : (g : Over) (c : After-confirm g)
    → StaysAtWork c.wait_up.new.seated c.confirm.new.seated
met_end g c =
    let met = c.confirm.ensures.met in
    end_stays met.0 c.wait_up.new.seated c.confirm.new.seated met.2

looked : (g : Over) (c : After-confirm g) → HasLooked c.args.seated.now c.confirm.new.seated
looked g c =
    let met = c.confirm.ensures.met in
    looked_again c.args.seated.now c.loop-look.seated c.wait_up.new.seated c.confirm.new.seated
    c.loop-look.invariant c.wait_up.ensures.stays c.wait_up.ensures.log
    c.in_ok-wait_up.ensures.ends.0 met.0 met.2

pub returns-in_err-wait_up-clause-ends : goal.returns-in_err-wait_up-clause-ends
returns-in_err-wait_up-clause-ends g c =
    let p = err_from_is_err_and c.from_residual.result c.from_residual.ensures.1 in
    rw (p.1, p.2)
    (finds_since (view_of c.args.seated.now) (view_of c.loop-look.seated)
    (view_of c.wait_up.new.seated) c.requires.up c.loop-look.invariant.up
    c.in_err-wait_up.field-0.0 c.in_err-wait_up.ensures.ends)

pub returns-in_err-wait_up-clause-stays : goal.returns-in_err-wait_up-clause-stays
returns-in_err-wait_up-clause-stays g c =
    worked_on c.args.seated.now c.loop-look.seated c.wait_up.new.seated
    c.loop-look.invariant.stays c.wait_up.ensures.stays

pub returns-in_err-wait_up-clause-log : goal.returns-in_err-wait_up-clause-log
returns-in_err-wait_up-clause-log g c = c.wait_up.ensures.log ∙ c.loop-look.invariant.log

pub returns-in-Present-clause-ends : goal.returns-in-Present-clause-ends
returns-in-Present-clause-ends g c =
    let at = (goal.at.returns-in-Present-clause-ends g c).After-confirm in
    let old = view_of c.args.seated.now in
    let now = view_of c.loop-look.seated in
    let paused = view_of c.wait_up.new.seated in
    let new = view_of c.confirm.new.seated in (
      (looked g at).up,
      up_behind old now new c.loop-look.invariant.stays.work.pass (up_till now paused new
          (met_end g at).work.pass c.in_ok-wait_up.ensures.ends.1),
    )

pub returns-in-Present-clause-stays : goal.returns-in-Present-clause-stays
returns-in-Present-clause-stays g c =
    (looked g (goal.at.returns-in-Present-clause-stays g c).After-confirm).stays

pub returns-in-Present-clause-log : goal.returns-in-Present-clause-log
returns-in-Present-clause-log g c =
    (looked g (goal.at.returns-in-Present-clause-log g c).After-confirm).log

pub loop-look-preserved : goal.loop-look-preserved
loop-look-preserved g c = looked g (goal.at.loop-look-preserved g c).After-confirm

-- ---- the last look

pub returns-clause-ends : goal.returns-clause-ends
returns-clause-ends g c =
    found_since (view_of c.args.seated.now) (view_of c.loop-look.seated)
    (view_of c.wait_up-2.new.seated) c.requires.up c.loop-look.invariant.up
    c.loop-look.invariant.stays.work.pass c.wait_up-2.result c.wait_up-2.ensures.ends

pub returns-clause-stays : goal.returns-clause-stays
returns-clause-stays g c =
    worked_on c.args.seated.now c.loop-look.seated c.wait_up-2.new.seated
    c.loop-look.invariant.stays c.wait_up-2.ensures.stays

pub returns-clause-log : goal.returns-clause-log
returns-clause-log g c = c.wait_up-2.ensures.log ∙ c.loop-look.invariant.log
