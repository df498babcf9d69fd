use Rattle.std.proofs.Common.{◌≡◌, ℕ, Ok, length, sym, subst, ap, ◌∙◌, arith}
use Rattle.std.proofs.lemmas.Result.{err_from_is_err_and}
use Rattle.run_script.specs.Reading.{RefusesScript}
use Rattle.run_script.specs.Replay.{schedule_with}
use Rattle.run_script.specs.ReplayReading.{schedule_lines}
use Rattle.run_script.proofs.Replays.{replay_means, schedule_refused}
use Rattle.run_script.proofs.replay.parse_replay.Goals as goal

pub returns-in_err-schedule : goal.returns-in_err-schedule
returns-in_err-schedule c =
    let read = c.in_ok-read.read in
    let count : c.len.result ≡ length read.lines.items = omega arith in
    let error = c.in_err-schedule.field-0.0 in
    let refused : RefusesScript error (schedule_with (length read.lines.items) (schedule_lines read.schedule)) = subst (λ (n : ℕ). RefusesScript error (schedule_with n (schedule_lines read.schedule))) count c.in_err-schedule.ensures in
    let exit = err_from_is_err_and c.from_residual-in_err-schedule.result c.from_residual-in_err-schedule.ensures.1 in
    rw (exit.1, exit.2) (schedule_refused c.args.script.now c.in_ok-within_limit.ensures.within read c.in_ok-read.ensures.read error refused)

pub returns : goal.returns
returns c =
    let read = c.in_ok-read.read in
    let count : c.len.result ≡ length read.lines.items = omega arith in
    let items = c.in_ok-schedule.schedule in
    let means : schedule_with (length read.lines.items) (schedule_lines read.schedule) ≡ Ok items = ap (λ (n : ℕ). schedule_with n (schedule_lines read.schedule)) (sym count) ∙ c.in_ok-schedule.ensures in
    replay_means c.args.script.now c.in_ok-within_limit.ensures.within read c.in_ok-read.ensures.read items means
