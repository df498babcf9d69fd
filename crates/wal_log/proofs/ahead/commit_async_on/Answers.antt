use Rattle.std.specs.Prelude.{Err, None}
use Rattle.std.proofs.Common.{◌≡◌, ◌≤◌, ap, sym, ◌∙◌, subst}
use Rattle.std.proofs.lemmas.Result.{err_from_is_err_and}
use Rattle.machine_state.specs.declared.setup.Setup.{Setup}
use Rattle.machine_state.specs.Words.{end_form}
use Rattle.wal_rule.specs.SeatedPasses.{setup_of, view_of}
use Rattle.wal_log.specs.declared.inserting.InsertErr.{InsertErr}
use Rattle.wal_log.specs.declared.inserting.InsertErr.TheVariants.{Down}
use Rattle.wal_log.proofs.AheadLaws.{end_reserved, end_whole, raised_rests, received_still, same_refusal}
use Rattle.wal_log.proofs.Seated.{own_setup, same_setup, valid_size, view_is}
use Rattle.wal_log.proofs.ahead.commit_async_on.Given.{Over}
use Rattle.wal_log.proofs.ahead.commit_async_on.Goals as goal
use Rattle.wal_log.proofs.ahead.commit_async_on.Goals.{After-insert_on}

module _ (g : Over) (c : After-insert_on g) where
  still : setup_of c.insert_on.new.seated ≡ setup_of c.args.seated.now
  still = same_setup c.args.seated.now c.insert_on.new.seated c.insert_on.ensures.rests.same_table

pub returns-in_err-receipt-clause-down_again : goal.returns-in_err-receipt-clause-down_again
returns-in_err-receipt-clause-down_again g c = λ faults knows.
    let p = err_from_is_err_and c.from_residual.result c.from_residual.ensures.1 in
    p.1 ∙ ap (λ (e : InsertErr). Err e) (p.2 ∙ same_refusal c.in_err-receipt.field-0.0
    (Down faults None) (c.in_err-receipt.ensures.down_again faults knows))

pub raise-requires-clause-reserved : goal.raise-requires-clause-reserved
raise-requires-clause-reserved g c =
    let at = (goal.at.raise-requires-clause-reserved g c).After-insert_on in
    let setup : Setup = setup_of c.args.seated.now in
    subst (λ (s : Setup). c.in_ok-receipt.receipt.end.0
    ≤ end_form s (view_of c.insert_on.new.seated).reserving.seen) (sym (still g at))
    (end_reserved setup c.args.body.now (view_of c.args.seated.now)
    (view_of c.insert_on.new.seated) c.in_ok-receipt.receipt c.in_ok-receipt.ensures.inserts
    (valid_size c.args.seated.now))

pub raise-requires-clause-whole : goal.raise-requires-clause-whole
raise-requires-clause-whole g c =
    let at = (goal.at.raise-requires-clause-whole g c).After-insert_on in
    end_whole (setup_of c.args.seated.now) c.args.body.now (view_of c.args.seated.now)
    (view_of c.insert_on.new.seated) c.in_ok-receipt.receipt c.in_ok-receipt.ensures.inserts
    (own_setup c.insert_on.new.seated ∙ still g at)

pub returns-clause-inserts : goal.returns-clause-inserts
returns-clause-inserts g c =
    received_still (setup_of c.args.seated.now) c.args.body.now (view_of c.args.seated.now)
    (view_of c.insert_on.new.seated) c.in_ok-receipt.receipt c.in_ok-receipt.ensures.inserts
    (view_of c.raise.new.seated).async_met (view_of c.raise.new.seated)
    (view_is c.raise.ensures.raises.view)

pub returns-clause-alone : goal.returns-clause-alone
returns-clause-alone g c = λ alone. record {
  inserted = view_of c.insert_on.new.seated;
  inserts = c.in_ok-receipt.ensures.alone alone;
  raised = view_is c.raise.ensures.raises.view;
}

pub returns-clause-rests : goal.returns-clause-rests
returns-clause-rests g c = raised_rests c.args.seated.now c.insert_on.new.seated
    c.raise.new.seated c.insert_on.ensures.rests c.raise.ensures.raises
