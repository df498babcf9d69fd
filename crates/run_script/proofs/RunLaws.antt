-- What holds of each run's script that is read.
use Rattle.std.proofs.Common.{◌≡◌, ◌≢◌, ℕ, zero, suc, ◌+◌, ◌<◌, ◌≤◌, List, [], ◌∷◌, ◌++◌, length, map, Bool, true, false, Option, Some, None, Result, Ok, Err, All, codes, eqb, ltb, ltb-true, length-append, arith, refl, sym, ap, ◌∙◌}
use Rattle.std.specs.Prelude.{IfOk, slice_get, if◌then◌else◌}
use Rattle.std.specs.List.{range_with_len}
use Rattle.std.proofs.lemmas.Bool.{cond_both}
use Rattle.std.proofs.lemmas.List.{append-nil}
use Rattle.std.proofs.lemmas.List.Elements.{All-append, All-cons, All-head, All-nil, All-tail}
use Rattle.run_script.specs.declared.line.Refusal.{Refusal}
use Rattle.run_script.specs.declared.line.ScriptFault.TheVariants as faults
use Rattle.run_script.specs.Asked.{AskedLine}
use Rattle.run_script.specs.Meaning.{LineMeaning, passes, asks, refuses, line_of, line_with, lines_meaning, meaning_of, one_backend, script_limit, script_too_long, then_line}
use Rattle.run_script.specs.Replay.{BackendsMeaning, of_backend, backends_from, backends_with, most_backends, script_line_of, script_line_with}
use Rattle.run_script.specs.Run.{StaysInBackend, backends_meaning, last_line, lines_alone, run_meaning, with_any_log_writer, with_log_writer, writer_line, writer_lines}
use Rattle.run_script.specs.Text.{fields_of, is_text, lines_of}
use Rattle.run_script.specs.Writable.{AsksWritable}
use Rattle.run_script.proofs.ReplayLaws.{AreFit, AskOnly, backends_fit}
use Rattle.run_script.proofs.Scripts.{with_front, with_front-nil, with_front-push}
use Rattle.run_script.proofs.Words.{is_text-same, script_line_of_backend}

-- ---- each backend's lines

-- what holds of the backends of each script that are fit
module _ (P : List (List AskedLine) → Type 0) (holds : (m : BackendsMeaning) → AreFit AsksWritable m → P m.backends) where
  by_backends : (read : Result BackendsMeaning Refusal) → IfOk read (AreFit AsksWritable) → IfOk (lines_alone read) P
  by_backends (Ok m) fit = holds m fit
  by_backends (Err refusal) fit = tt

  limited : (limit : ℕ) (refusal : Refusal) (script : List ℕ) → IfOk (if ltb limit (length script) then Err refusal else lines_alone (backends_from false 1 [] [] (lines_of script))) P
  limited limit refusal script =
      let read = backends_from false 1 [] [] (lines_of script) in
      cond_both (ltb limit (length script)) (Err refusal) (lines_alone read) (λ meaning. IfOk meaning P) (λ _. tt) (λ _. by_backends read (backends_fit false script))

  of_backends : (script : List ℕ) → IfOk (backends_meaning script) P
  of_backends script = limited script_limit _ script

-- and still holds behind a writer's lines, where there is room for it
module _ (P : List (List AskedLine) → Type 0) (holds : (m : BackendsMeaning) → AreFit AsksWritable m → P m.backends) (more : (count : ℕ) (backends : List (List AskedLine)) → length backends < most_backends → P backends → P (backends ++ writer_lines count ∷ [])) where
  by_room : (count last : ℕ) (backends : List (List AskedLine)) → P backends → IfOk (with_log_writer count last backends) P
  by_room count last backends fit =
      cond_both (ltb (length backends) most_backends) (Ok (backends ++ writer_lines count ∷ [])) (Err (record { line = last; fault = faults.Backends })) (λ meaning. IfOk meaning P)
      (λ room. more count backends (ltb-true (length backends) most_backends room) fit) (λ _. tt)

  by_writer : (writer : Option ℕ) (last : ℕ) (meaning : Result (List (List AskedLine)) Refusal) → IfOk meaning P → IfOk (with_any_log_writer writer last meaning) P
  by_writer writer last (Err refusal) fit = tt
  by_writer None last (Ok backends) fit = fit
  by_writer (Some count) last (Ok backends) fit = by_room count last backends fit

  of_run : (writer : Option ℕ) (script : List ℕ) → IfOk (run_meaning writer script) P
  of_run writer script = by_writer writer (last_line script) (backends_meaning script) (of_backends P holds script)

pub runs_have_some_backends : (writer : Option ℕ) (script : List ℕ) → IfOk (run_meaning writer script) (λ backends. (0 < length backends) × (length backends ≤ most_backends))
runs_have_some_backends =
    of_run (λ backends. (0 < length backends) × (length backends ≤ most_backends)) (λ m fit. (fit.some, fit.most))
    (λ count backends room some. (omega (arith, length-append backends (writer_lines count ∷ [])), omega (arith, room, length-append backends (writer_lines count ∷ []))))

-- a writer's lines write nothing
abbrev AskedWritable : List AskedLine → Type 0
AskedWritable = AskOnly AsksWritable

writer_lines_writable : (first count : ℕ) → AskedWritable (map writer_line (range_with_len first count))
writer_lines_writable first zero = All-nil (λ line. AsksWritable line.asked)
writer_lines_writable first (suc count) = All-cons (λ line. AsksWritable line.asked) (writer_line first) (map writer_line (range_with_len (first + 1) count)) tt (writer_lines_writable (first + 1) count)

pub lines_of_runs_are_writable : (writer : Option ℕ) (script : List ℕ) → IfOk (run_meaning writer script) (All (All (λ line. AsksWritable line.asked)))
lines_of_runs_are_writable =
    of_run (All AskedWritable) (λ m fit. fit.only)
    (λ count backends room writable. All-append AskedWritable backends (writer_lines count ∷ []) writable (All-cons AskedWritable (writer_lines count) [] (writer_lines_writable 0 count) (All-nil AskedWritable)))

-- ---- one backend

-- a first field that is not `B`
no_begin : (word : List ℕ) (is_begin : Bool) → is_text word (codes "B") ≡ is_begin → Some word ≢ Some (codes "B") → is_text word (codes "B") ≡ false
no_begin word false is stays = is
no_begin word true is stays = absurd (stays (ap (λ (w : List ℕ). Some w) (is_text-same word (codes "B") is)))

fields_alone : (fields : List (List ℕ)) → slice_get fields 0 ≢ Some (codes "B") → script_line_with false fields ≡ of_backend (line_with fields)
fields_alone [] stays = refl
fields_alone (word ∷ fields) stays = script_line_of_backend false word fields (no_begin word (is_text word (codes "B")) refl stays) refl

-- under any test
if_of_backend : (test : Bool) (meaning : LineMeaning) → (if test then of_backend passes else of_backend meaning) ≡ of_backend (if test then passes else meaning)
if_of_backend true meaning = refl
if_of_backend false meaning = refl

line_alone : (text : List ℕ) → StaysInBackend text → script_line_of false text ≡ of_backend (line_of text)
line_alone [] stays = refl
line_alone (c ∷ cs) stays = rw (fields_alone (fields_of (c ∷ cs)) stays) (if_of_backend (eqb c 35) (line_with (fields_of (c ∷ cs))))

-- a line, where those behind it mean the same
alone_with : (number : ℕ) (lines : List AskedLine) (meaning : LineMeaning) (texts : List (List ℕ)) (others : List (List AskedLine) → List AskedLine → Result BackendsMeaning Refusal) (behind : Result (List AskedLine) Refusal) → ((latest : List AskedLine) → lines_alone (others [] latest) ≡ one_backend (with_front latest behind)) → lines_alone (backends_with number [] lines (of_backend meaning) texts others) ≡ one_backend (with_front lines (then_line number meaning behind))
alone_with number lines passes texts others behind same = same lines
alone_with number lines (asks asked) texts others behind same =
    same (lines ++ (record { number = number; asked = asked }) ∷ []) ∙ ap one_backend (sym (with_front-push lines number asked behind))
alone_with number lines (refuses fault) texts others behind same = refl

lines_mean_the_same : (number : ℕ) (lines : List AskedLine) (texts : List (List ℕ)) → All StaysInBackend texts → lines_alone (backends_from false number [] lines texts) ≡ one_backend (with_front lines (lines_meaning number texts))
lines_mean_the_same number lines [] stay = ap (λ (ls : List AskedLine). Ok (ls ∷ [])) (sym (append-nil lines))
lines_mean_the_same number lines (text ∷ texts) stay =
    rw (line_alone text (All-head StaysInBackend text texts stay))
    (alone_with number lines (line_of text) texts (λ so_far latest. backends_from false (number + 1) so_far latest texts) (lines_meaning (number + 1) texts)
    (λ latest. lines_mean_the_same (number + 1) latest texts (All-tail StaysInBackend text texts stay)))

-- under any limit
same_within : (beyond : Bool) (refusal : Refusal) (read : Result BackendsMeaning Refusal) (lines : Result (List AskedLine) Refusal) → lines_alone read ≡ one_backend lines → (if beyond then Err refusal else lines_alone read) ≡ one_backend (if beyond then Err refusal else lines)
same_within true refusal read lines same = refl
same_within false refusal read lines same = same

pub scripts_of_one_backend_mean_the_same : (script : List ℕ) → All StaysInBackend (lines_of script) → backends_meaning script ≡ meaning_of script
scripts_of_one_backend_mean_the_same script stay =
    same_within (ltb script_limit (length script)) (script_too_long script) (backends_from false 1 [] [] (lines_of script)) (lines_meaning 1 (lines_of script))
    (lines_mean_the_same 1 [] (lines_of script) stay ∙ ap one_backend (with_front-nil (lines_meaning 1 (lines_of script))))
