-- What a replay's script means, by its backends and its schedule.
use Rattle.std.proofs.Common.{◌≡◌, ℕ, ◌≤◌, List, length, [], true, Result, Ok, Err, ltb, refl, ap, ◌∙◌, le-ltb}
use Rattle.std.specs.Prelude.{if◌then◌else◌}
use Rattle.run_script.specs.declared.item.Item.{Item}
use Rattle.run_script.specs.declared.backends.Backends.{Backends}
use Rattle.run_script.specs.declared.line.Refusal.{Refusal}
use Rattle.run_script.specs.declared.parser.ParseError.{ParseError}
use Rattle.run_script.specs.declared.parser.ParseError.TheVariants as errors
use Rattle.run_script.specs.Meaning.{script_limit, script_too_long}
use Rattle.run_script.specs.Reading.{RefusesScript}
use Rattle.run_script.specs.Replay.{ReplayMeaning, backends_from, replay_meaning, replay_with, schedule_with, with_schedule}
use Rattle.run_script.specs.ReplayReading.{AreBackendsOf, DoesBackends, schedule_lines}
use Rattle.run_script.specs.Text.{lines_of}
use Rattle.run_script.proofs.SeveralBackends.{AreBackendsOf-length}

-- under any limit
pub under_limit : {X : Type 0} (limit : ℕ) (script : List ℕ) (refusal : Refusal) (meaning : Result X Refusal) → length script ≤ limit → (if ltb limit (length script) then Err refusal else meaning) ≡ meaning
under_limit limit script refusal meaning within = rw (le-ltb limit (length script) within) refl

-- a script within its limit is judged by what was read of its backends
module _ (script : List ℕ) (within : length script ≤ script_limit) (read : Backends) (does : DoesBackends read (backends_from true 1 [] [] (lines_of script))) where
  by_schedule : (items : Result (List Item) Refusal) → schedule_with (length read.lines.items) (schedule_lines read.schedule) ≡ items → replay_meaning script ≡ with_schedule does.0.backends items
  by_schedule items is =
      under_limit script_limit script (script_too_long script) (replay_with (backends_from true 1 [] [] (lines_of script))) within
      ∙ ap replay_with does.1
      ∙ ap (with_schedule does.0.backends) (ap (λ (n : ℕ). schedule_with n does.0.schedule) (AreBackendsOf-length does.0.backends read.lines.items does.2) ∙ ap (schedule_with (length read.lines.items)) does.3 ∙ is)

  pub replay_means : (items : List Item) → schedule_with (length read.lines.items) (schedule_lines read.schedule) ≡ Ok items → (asked : ReplayMeaning) × (replay_meaning script ≡ Ok asked) × AreBackendsOf asked.backends read.lines.items × (asked.schedule ≡ items)
  replay_means items is = (record { backends = does.0.backends; schedule = items }, by_schedule (Ok items) is, does.2, refl)

  pub schedule_refused : (error : ParseError) → RefusesScript error (schedule_with (length read.lines.items) (schedule_lines read.schedule)) → RefusesScript error (replay_meaning script)
  schedule_refused errors.Memory is = tt
  schedule_refused (errors.Refused refusal) is = by_schedule (Err refusal) is
