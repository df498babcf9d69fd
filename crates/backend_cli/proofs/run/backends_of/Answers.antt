-- What was read is the script, and its refusal is what it means.
use Rattle.std.proofs.Common.{subst}
use Rattle.std.proofs.lemmas.Result.{err_from_is_err_and}
use Rattle.run_script.specs.Run.{run_meaning}
use Rattle.run_script.specs.Reading.{RefusesScript}
use Rattle.run_script.specs.RunReading.{DoesRun}
use Rattle.backend_cli.proofs.ScriptReading.{ends_unparsed}
use Rattle.backend_cli.proofs.run.backends_of.Goals as goal

pub returns-in_err-parse_run : goal.returns-in_err-parse_run
returns-in_err-parse_run g c =
    let p = err_from_is_err_and c.from_residual-in_err-parse_run.result
    c.from_residual-in_err-parse_run.ensures.1 in
    let error = c.in_err-parse_run.field-0.0 in
    let script = c.in_ok-script.script.items in
    let refused = subst (λ bytes. RefusesScript error (run_meaning c.args.writer bytes))
    c.deref.ensures.value c.in_err-parse_run.ensures in
    rw (p.1, p.2) (ends_unparsed (run_meaning c.args.writer) _ _ error script c.in_ok-script.ensures refused)

pub returns : goal.returns
returns g c =
    let backends = c.in_ok-parse_run.field-0.items in
    let does = subst (λ bytes. DoesRun backends (run_meaning c.args.writer bytes))
    c.deref.ensures.value c.in_ok-parse_run.ensures in
    (does.0, (c.in_ok-script.script.items, c.in_ok-script.ensures, does.1), does.2)
