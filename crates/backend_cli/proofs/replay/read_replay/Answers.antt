-- What was read is the script, and its refusal is what it means.
use Rattle.std.proofs.Common.{subst}
use Rattle.std.proofs.lemmas.Result.{err_from_is_err_and}
use Rattle.run_script.specs.Reading.{RefusesScript}
use Rattle.run_script.specs.Replay.{replay_meaning}
use Rattle.backend_cli.proofs.ScriptReading.{ends_unparsed}
use Rattle.backend_cli.proofs.replay.read_replay.Goals as goal

pub returns-in_err-parse_replay : goal.returns-in_err-parse_replay
returns-in_err-parse_replay g c =
    let p = err_from_is_err_and c.from_residual-in_err-parse_replay.result c.from_residual-in_err-parse_replay.ensures.1 in
    let error = c.in_err-parse_replay.field-0.0 in
    let script = c.in_ok-script.script.items in
    let refused = subst (λ bytes. RefusesScript error (replay_meaning bytes)) c.deref.ensures.value c.in_err-parse_replay.ensures in
    rw (p.1, p.2) (ends_unparsed replay_meaning _ _ error script c.in_ok-script.ensures refused)
