use Rattle.std.proofs.Common.{ℕ, None, Some, ap, ◌∙◌, subst}
use Rattle.run_script.specs.Run.{run_meaning, with_log_writer}
use Rattle.run_script.specs.RunReading.{GivesRun}
use Rattle.run_script.proofs.Runs.{run_means}
use Rattle.run_script.proofs.run.parse_run.Goals as goal

pub returns-in-Some : goal.returns-in-Some
returns-in-Some c =
    let read = c.in_ok-backends.ensures.read in
    let script = c.args.script.now in
    let count = c.in-Some.count in
    let means = ap (λ writer. run_meaning writer script) c.in-Some.is ∙ run_means script c.in_ok-within_limit.ensures.within c.in_ok-backends.field-0 read (Some count) in
    rw means
    (subst (λ (last : ℕ). GivesRun c.add_writer.result (with_log_writer count last read.0.backends)) c.last_line.ensures
    (c.add_writer.ensures read.0.backends read.2))

pub returns-in-None : goal.returns-in-None
returns-in-None c =
    let read = c.in_ok-backends.ensures.read in
    let script = c.args.script.now in
    (read.0.backends, ap (λ writer. run_meaning writer script) c.in-None.is ∙ run_means script c.in_ok-within_limit.ensures.within c.in_ok-backends.field-0 read None, read.2)
