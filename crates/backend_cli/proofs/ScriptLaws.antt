-- What a script means, read from a source: no more of it is needed than a byte beyond the limit.
use Rattle.std.proofs.Common.{◌≡◌, ℕ, ◌+◌, ◌<◌, inl, inr, false, List, [], length, take, Err, Option, Some, None, refl, count_by, ltb, sym, ap, ◌∙◌, arith, lt-ltb, take_all, take-take, length-take-le, if◌then◌else◌, ◌==◌}
use Rattle.std.proofs.lemmas.Bool.{cond-true, cases_lt}
use Rattle.run_script.specs.declared.line.Refusal.{Refusal}
use Rattle.run_script.specs.declared.line.ScriptFault.TheVariants as faults
use Rattle.run_script.specs.Text.{lines_of}
use Rattle.run_script.specs.Meaning.{script_limit}
use Rattle.run_script.specs.Replay.{backends_from}
use Rattle.run_script.specs.Run.{backends_meaning, last_line, lines_alone, run_meaning, with_any_log_writer}

-- what is judged by a limit, and beyond it by what stands within, is judged by a front that goes on one byte beyond it
limited_front : {X : Type 0} (limit : ℕ) (bytes : List ℕ) (refusal meaning : List ℕ → X)
    → (if ltb limit (length (take (limit + 1) bytes)) then refusal (take limit (take (limit + 1) bytes)) else meaning (take (limit + 1) bytes)) ≡ (if ltb limit (length bytes) then refusal (take limit bytes) else meaning bytes)
limited_front limit bytes refusal meaning =
    let front = take (limit + 1) bytes in
    elim (cases_lt limit (length bytes)) [
      | inl beyond ↦
          (let long : length front ≡ limit + 1 = length-take-le (limit + 1) bytes (omega arith) in
          let still : limit < length front = omega arith in
          cond-true (ltb limit (length front)) (refusal (take limit front)) (meaning front) (lt-ltb limit (length front) still)
          ∙ ap refusal (take-take limit (limit + 1) bytes (omega arith))
          ∙ sym (cond-true (ltb limit (length bytes)) (refusal (take limit bytes)) (meaning bytes) (lt-ltb limit (length bytes) beyond)))
      | inr within ↦ ap (λ (b : List ℕ). if ltb limit (length b) then refusal (take limit b) else meaning b) (take_all (limit + 1) bytes (omega arith))
    ]

-- a script beyond its limit is refused at the same line, whatever stands behind the first byte too many
pub meaning_of_front : (bytes : List ℕ) → backends_meaning (take (script_limit + 1) bytes) ≡ backends_meaning bytes
meaning_of_front bytes =
    limited_front script_limit bytes (λ (within : List ℕ). Err (record { line = count_by (λ (c : ℕ). c == 10) within + 1; fault = faults.Length })) (λ (script : List ℕ). lines_alone (backends_from false 1 [] [] (lines_of script)))

-- so it is with a writer, which is refused at the last line of a script within its limit alone
pub run_meaning_of_front : (writer : Option ℕ) (bytes : List ℕ) → run_meaning writer (take (script_limit + 1) bytes) ≡ run_meaning writer bytes
run_meaning_of_front writer bytes =
    let front = take (script_limit + 1) bytes in
    elim (cases_lt script_limit (length bytes)) [
      | inl beyond ↦
          (let refused : backends_meaning bytes ≡ Err (record { line = count_by (λ (c : ℕ). c == 10) (take script_limit bytes) + 1; fault = faults.Length }) =
          cond-true (ltb script_limit (length bytes)) _ _ (lt-ltb script_limit (length bytes) beyond) in
          ap (with_any_log_writer writer (last_line front)) (meaning_of_front bytes ∙ refused)
          ∙ same_refusal writer (last_line front) (last_line bytes) _
          ∙ ap (with_any_log_writer writer (last_line bytes)) (sym refused))
      | inr within ↦ ap (run_meaning writer) (take_all (script_limit + 1) bytes (omega arith))
    ]
  where
    same_refusal : (writer : Option ℕ) (one other : ℕ) (refusal : Refusal) → with_any_log_writer writer one (Err refusal) ≡ with_any_log_writer writer other (Err refusal)
    same_refusal None one other refusal = refl
    same_refusal (Some count) one other refusal = refl
