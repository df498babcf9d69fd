-- What a run's script means, by its backends, and the lines of a writer.
use Rattle.std.proofs.Common.{◌≡◌, ℕ, ◌+◌, ◌<◌, ◌≤◌, List, [], ◌∷◌, ◌++◌, length, false, Option, Ok, Err, refl, ap, sym, ◌∙◌, subst, arith, lt-ltb, le-ltb}
use Rattle.std.specs.Global.{Vec}
use Rattle.std.proofs.lemmas.List.FromFn.{map-range_with_len_more}
use Rattle.run_script.specs.declared.backends.Backends.{Backends}
use Rattle.run_script.specs.declared.line.Action.TheVariants as actions
use Rattle.run_script.specs.declared.line.Line.{Line}
use Rattle.run_script.specs.declared.line.ScriptFault.TheVariants as faults
use Rattle.run_script.specs.Asked.{AskedLine}
use Rattle.run_script.specs.Bodies.{AreLinesOf}
use Rattle.run_script.specs.Meaning.{script_limit, script_too_long}
use Rattle.run_script.specs.Replay.{backends_from, most_backends}
use Rattle.run_script.specs.ReplayReading.{AreBackendsOf, DoesBackends}
use Rattle.run_script.specs.Run.{backends_meaning, last_line, lines_alone, run_meaning, with_any_log_writer, with_log_writer, writer_line, writer_lines}
use Rattle.run_script.specs.RunReading.{DoesRun}
use Rattle.run_script.specs.Text.{lines_of}
use Rattle.run_script.proofs.Replays.{under_limit}
use Rattle.run_script.proofs.Scripts.{AreLinesOf_push}
use Rattle.run_script.proofs.SeveralBackends.{AreBackendsOf-length, AreBackendsOf_push}

-- one line of a writer more
pub writer_lines-more : (index : ℕ) (lines : List Line) → AreLinesOf (writer_lines index) lines → AreLinesOf (writer_lines (index + 1)) (lines ++ (record { number = index + 1; action = actions.WriteBehind }) ∷ [])
writer_lines-more index lines are =
    let line : Line = record { number = index + 1; action = actions.WriteBehind } in
    subst (λ (asked : List AskedLine). AreLinesOf asked (lines ++ line ∷ [])) (sym (map-range_with_len_more writer_line 0 index index (omega arith)))
    (AreLinesOf_push (writer_lines index) lines (writer_line index) line are refl tt)

-- a writer behind backends of a script
module _ (count last : ℕ) (askeds : List (List AskedLine)) (backends : List (Vec Line)) (are : AreBackendsOf askeds backends) where
  pub writer_refused : most_backends ≤ length backends → with_log_writer count last askeds ≡ Err (record { line = last; fault = faults.Backends })
  writer_refused many = rw (le-ltb (length askeds) most_backends (omega (arith, many, AreBackendsOf-length askeds backends are))) refl

  pub writer_added : (lines : Vec Line) → length backends < most_backends → AreLinesOf (writer_lines count) lines.items → (read : List (Vec Line)) → read ≡ backends ++ lines ∷ [] → DoesRun read (with_log_writer count last askeds)
  writer_added lines few does read is = (
    askeds ++ writer_lines count ∷ [],
    rw (lt-ltb (length askeds) most_backends (omega (arith, few, AreBackendsOf-length askeds backends are))) refl,
    subst (AreBackendsOf (askeds ++ writer_lines count ∷ [])) (sym is) (AreBackendsOf_push askeds backends (writer_lines count) lines are does),
  )

-- a script within its limit, of which this was read
module _ (script : List ℕ) (within : length script ≤ script_limit) (read : Backends) (does : DoesBackends read (backends_from false 1 [] [] (lines_of script))) where
  backends_mean : backends_meaning script ≡ Ok does.0.backends
  backends_mean =
      let meaning = lines_alone (backends_from false 1 [] [] (lines_of script)) in
      under_limit script_limit script (script_too_long script) meaning within ∙ ap lines_alone does.1

  -- means so much with any writer
  pub run_means : (writer : Option ℕ) → run_meaning writer script ≡ with_any_log_writer writer (last_line script) (Ok does.0.backends)
  run_means writer = ap (with_any_log_writer writer (last_line script)) backends_mean
