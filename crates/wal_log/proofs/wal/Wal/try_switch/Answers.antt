use Rattle.std.proofs.Common.{◌≡◌, ℕ, Result, Ok, Err, sym, subst}
use Rattle.machine_state.specs.Views.{View}
use Rattle.wal_rule.specs.Downs.{KnowsDown}
use Rattle.wal_rule.specs.Passes.{view_of_pass}
use Rattle.wal_rule.specs.SeatedPasses.{view_of}
use Rattle.reserve_lock.specs.declared.switching.SwitchTry.{SwitchTry}
use Rattle.wal_log.specs.declared.switch_tries.TrySwitchErr.{TrySwitchErr}
use Rattle.wal_log.specs.declared.switch_tries.TrySwitchErr.TheVariants.{Down}
use Rattle.wal_log.specs.Switching.{FindsSegmentStart}
use Rattle.wal_log.specs.SwitchTries.{TellsSwitchTry}
use Rattle.wal_log.proofs.FlightLaws.{switch_begins, told_back}
use Rattle.wal_log.proofs.Passing.{seen_is}
use Rattle.wal_log.proofs.wal.Wal.try_switch.Given.{Over}
use Rattle.wal_log.proofs.wal.Wal.try_switch.Goals as goal
use Rattle.wal_log.proofs.wal.Wal.try_switch.Goals.{After-put_back}

abbrev failed : TrySwitchErr → Result SwitchTry TrySwitchErr
failed e = Err e

not_failed : (t : SwitchTry) (e : TrySwitchErr) → Ok t ≡ failed e → ⊥
not_failed t e is = absurd (cc)

same_err : (e f : TrySwitchErr) → failed e ≡ failed f → e ≡ f
same_err e f is = cc

seated_knows : (g : Over) (c : After-put_back g) → (faults : ℕ)
    → KnowsDown faults (view_of_pass c.args.pass)
    → KnowsDown faults (view_of c.seat-seated.result)
seated_knows g c faults knows = subst (λ (v : View). KnowsDown faults v)
    (sym (seen_is c.args.self.now c.args.pass c.seat-seated.result c.seat-seated.ensures.view))
    knows

pub returns-in-Ok-Switched-clause-tries : goal.returns-in-Ok-Switched-clause-tries
returns-in-Ok-Switched-clause-tries g c =
    let goes_on = c.try_switch_on-tried.ensures.goes_on in
    switch_begins c.args.self.now c.args.pass c.seat-seated.result c.seat-seated.ensures.view
    c.seat-seated.ensures.table c.try_switch_on-tried.new.seated goes_on.stays.same_table
    c.put_back.new.self c.put_back.ensures.view c.put_back.ensures.pass c.args.body.now
    c.in-Ok-Switched.begun
    (rw c.in-Ok-Switched.field-0-is at c.in-Ok-Switched.ensures.tries) goes_on.keeps

pub returns-in-Ok-Switched-clause-down_again : goal.returns-in-Ok-Switched-clause-down_again
returns-in-Ok-Switched-clause-down_again g c = λ faults knows. absurd
    (not_failed c.in-Ok-Switched.field-0 (Down faults)
    (c.in-Ok-Switched.ensures.down_again faults
    (seated_knows g (goal.at.returns-in-Ok-Switched-clause-down_again g c).After-put_back faults
    knows)))

pub returns-in-Ok-Stayed-clause-tries : goal.returns-in-Ok-Stayed-clause-tries
returns-in-Ok-Stayed-clause-tries g c =
    let goes_on = c.try_switch_on-tried.ensures.goes_on in
    let told = rw c.in-Ok-Stayed.field-0-is at c.in-Ok-Stayed.ensures.tries in
    told_back c.args.self.now c.args.pass c.seat-seated.result c.seat-seated.ensures.view
    c.seat-seated.ensures.table c.try_switch_on-tried.new.seated goes_on.stays.same_table
    c.put_back.new.self c.put_back.ensures.view c.put_back.ensures.pass told.1
    (λ setup old new. FindsSegmentStart setup c.in-Ok-Stayed.end.0 old new) told.0 goes_on.keeps

pub returns-in-Ok-Stayed-clause-down_again : goal.returns-in-Ok-Stayed-clause-down_again
returns-in-Ok-Stayed-clause-down_again g c = λ faults knows. absurd
    (not_failed c.in-Ok-Stayed.field-0 (Down faults)
    (c.in-Ok-Stayed.ensures.down_again faults
    (seated_knows g (goal.at.returns-in-Ok-Stayed-clause-down_again g c).After-put_back faults
    knows)))

pub returns-in-Err-clause-tries : goal.returns-in-Err-clause-tries
returns-in-Err-clause-tries g c =
    let goes_on = c.try_switch_on-tried.ensures.goes_on in
    told_back c.args.self.now c.args.pass c.seat-seated.result c.seat-seated.ensures.view
    c.seat-seated.ensures.table c.try_switch_on-tried.new.seated goes_on.stays.same_table
    c.put_back.new.self c.put_back.ensures.view c.put_back.ensures.pass c.in-Err.ensures.tries.1
    (λ setup old new. TellsSwitchTry setup c.args.body.now old new c.in-Err.e)
    c.in-Err.ensures.tries.0 goes_on.keeps

pub returns-in-Err-clause-down_again : goal.returns-in-Err-clause-down_again
returns-in-Err-clause-down_again g c = λ faults knows.
    same_err c.in-Err.e (Down faults)
    (c.in-Err.ensures.down_again faults
    (seated_knows g (goal.at.returns-in-Err-clause-down_again g c).After-put_back faults knows))
