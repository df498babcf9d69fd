use Rattle.std.proofs.Common.{◌≡◌, ℕ, Result, Ok, Err, sym, subst}
use Rattle.machine_state.specs.Views.{View}
use Rattle.wal_rule.specs.Downs.{KnowsDown}
use Rattle.wal_rule.specs.Passes.{view_of_pass}
use Rattle.wal_rule.specs.SeatedPasses.{view_of}
use Rattle.wal_log.specs.declared.beginning.Begun.{Begun}
use Rattle.wal_log.specs.declared.beginning.TryErr.{TryErr}
use Rattle.wal_log.specs.Beginning.{try_err_known_down}
use Rattle.wal_log.proofs.FlightLaws.{flight_begins}
use Rattle.wal_log.proofs.Passing.{seen_is}
use Rattle.wal_log.proofs.wal.Wal.try_begin.Given.{Over}
use Rattle.wal_log.proofs.wal.Wal.try_begin.Goals as goal
use Rattle.wal_log.proofs.wal.Wal.try_begin.Goals.{After-put_back}

abbrev failed : TryErr → Result Begun TryErr
failed e = Err e

not_begun : (b : Begun) (e : TryErr) → Ok b ≡ failed e → ⊥
not_begun b e is = absurd (cc)

same_err : (e f : TryErr) → failed e ≡ failed f → e ≡ f
same_err e f is = cc

seated_knows : (g : Over) (c : After-put_back g) → (faults : ℕ)
    → KnowsDown faults (view_of_pass c.args.pass)
    → KnowsDown faults (view_of c.seat-seated.result)
seated_knows g c faults knows = subst (λ (v : View). KnowsDown faults v)
    (sym (seen_is c.args.self.now c.args.pass c.seat-seated.result c.seat-seated.ensures.view))
    knows

pub returns-in-Ok-clause-begins : goal.returns-in-Ok-clause-begins
returns-in-Ok-clause-begins g c =
    let goes_on = c.try_begin-tried.ensures.goes_on in
    flight_begins c.args.self.now c.args.pass c.seat-seated.result c.seat-seated.ensures.view
    c.seat-seated.ensures.table c.try_begin-tried.new.seated goes_on.stays.same_table
    c.put_back.new.self c.put_back.ensures.view c.put_back.ensures.pass c.args.body.now c.in-Ok.begun
    c.in-Ok.ensures.begins goes_on.keeps

pub returns-in-Ok-clause-down_again : goal.returns-in-Ok-clause-down_again
returns-in-Ok-clause-down_again g c = λ faults knows. absurd
    (not_begun c.in-Ok.begun (try_err_known_down faults)
    (c.in-Ok.ensures.down_again faults
    (seated_knows g (goal.at.returns-in-Ok-clause-down_again g c).After-put_back faults knows)))

pub returns-in-Err-clause-down_again : goal.returns-in-Err-clause-down_again
returns-in-Err-clause-down_again g c = λ faults knows.
    same_err c.in-Err.e (try_err_known_down faults)
    (c.in-Err.ensures.down_again faults
    (seated_knows g (goal.at.returns-in-Err-clause-down_again g c).After-put_back faults knows))
