-- The backends of a run: how many there are, and that each line of each was told an answer.
use Rattle.std.proofs.Common.{◌≡◌, ℕ, suc, ◌<◌, ◌≤◌, All, List, [], ◌∷◌, length, Vec, Ok, Option, Result, refl, sym, ◌∙◌, ap, subst, arith}
use Rattle.std.specs.Prelude.{IfOk, vec_len}
use Rattle.std.proofs.lemmas.List.Elements.{All-cons, All-nil}
use Rattle.std.specs.declared.alloc.Global.{Global}
use Rattle.run_script.specs.Asked.{AskedLine}
use Rattle.run_script.specs.Replay.{most_backends}
use Rattle.run_script.specs.ReplayReading.{AreBackendsOf}
use Rattle.run_script.specs.declared.line.Line.{Line}
use Rattle.run_script.specs.declared.line.Refusal.{Refusal}
use Rattle.run_script.proofs.RunLaws.{runs_have_some_backends}
use Rattle.machine_state.specs.declared.setup.Setup.{Setup}
use Rattle.cli_line.specs.declared.commands.RunOptions.{RunOptions}
use Rattle.cli_line.specs.declared.commands.ScriptRunOptions.{ScriptRunOptions}
use Rattle.run_backends.specs.Backends.{HaveToldEach, IsRoomFor, lists_of, scripts_of}
use Rattle.run_backends.specs.declared.backend.AnsweredLines.{AnsweredLines}
use Rattle.run_backends.specs.declared.playing.Room.{Room}
use Rattle.backend_cli.specs.Outside.{Outside, SourceView}
use Rattle.backend_cli.specs.Prepared.{IsPreparedFor}
use Rattle.backend_cli.specs.Printing.{HasAnswers}
use Rattle.backend_cli.specs.Reading.{ScriptMeans}
use Rattle.backend_cli.specs.Setups.{run_setup}
use Rattle.backend_cli.specs.Appending.{AppendHolds, HoldsAppended}
use Rattle.backend_cli.specs.Run.{HoldsOpened, PlayHolds}
use Rattle.backend_cli.specs.declared.outcome.Outcome.{Outcome}
use Rattle.backend_cli.proofs.ReplayScripts.{as_many_backends}

-- ---- made ready

-- room for the backends of a script that was read
pub prepared_for : (writer : Option ℕ) (before after : SourceView)
    (script : List (List AskedLine)) (backends : List (Vec Line Global)) (room : Room)
    → ScriptMeans writer before after (Ok script)
    → AreBackendsOf script backends → IsRoomFor backends room → IsPreparedFor script room
prepared_for writer before after script backends room means are enough =
    let some = subst (λ (r : Result (List (List AskedLine)) Refusal).
    IfOk r (λ asked. (0 < length asked) × (length asked ≤ most_backends)))
    means.2 (runs_have_some_backends writer means.0) in
    record {
      lines = subst (AreBackendsOf script) (sym enough.lines) are;
      enough = subst (λ (scripts : List (Vec Line Global)). IsRoomFor scripts room)
          (sym enough.lines) enough;
      some = some.0;
      few = some.1;
    }

pub as_many_scripts : (backends : List AnsweredLines) → length (scripts_of backends) ≡ length backends
as_many_scripts [] = refl
as_many_scripts (backend ∷ backends) = ap suc (as_many_scripts backends)

pub as_many_prepared : (script : List (List AskedLine)) (room : Room) → IsPreparedFor script room
    → length script ≡ length room.backends.items
as_many_prepared script room ready =
    as_many_backends script (scripts_of room.backends.items) ready.lines
    ∙ as_many_scripts room.backends.items

-- the setup of the log is that of a pass for each backend of the script
pub setup_told : (options : RunOptions) (setup : Setup) (script : List (List AskedLine))
    (room : Room) → IsPreparedFor script room → setup ≡ run_setup options (vec_len room.backends)
    → setup ≡ run_setup options (length script)
setup_told options setup script room ready is =
    is ∙ ap (run_setup options) (room.backends.ok.0 ∙ sym (as_many_prepared script room ready))

-- ---- told an answer to each line

pub as_many_told : (script : List (List AskedLine)) (backends : List AnsweredLines)
    → HaveToldEach script backends → length script ≡ length backends
as_many_told [] [] told = refl
as_many_told [] (backend ∷ backends) told = absurd told
as_many_told (asked ∷ script) [] told = absurd told
as_many_told (asked ∷ script) (backend ∷ backends) told =
    ap suc (as_many_told script backends told.1)

pub all_answered : (script : List (List AskedLine)) (backends : List AnsweredLines)
    → HaveToldEach script backends → All HasAnswers backends
all_answered [] [] told = All-nil HasAnswers
all_answered [] (backend ∷ backends) told = absurd told
all_answered (asked ∷ script) [] told = absurd told
all_answered (asked ∷ script) (backend ∷ backends) told =
    All-cons HasAnswers backend backends (sym (told.0).each)
    (all_answered script backends told.1)

-- a run of some backends that opened the log holds what it promises
pub told_holds : (outside : Outside) (options : RunOptions) (outcome : Outcome)
    (script : List (List AskedLine)) (backends : List AnsweredLines) → 0 < length script
    → HaveToldEach script backends
    → HoldsOpened outside options outcome script (lists_of backends)
    → PlayHolds outside options outcome script (lists_of backends)
told_holds outside options outcome [] backends some told holds = absurd (omega (arith, some))
told_holds outside options outcome (asked ∷ script) [] some told holds = absurd told
told_holds outside options outcome (asked ∷ script) (backend ∷ backends) some told holds = holds

-- so does one that went on with a log
pub append_told_holds : (outside : Outside) (options : ScriptRunOptions) (outcome : Outcome)
    (script : List (List AskedLine)) (backends : List AnsweredLines) → 0 < length script
    → HaveToldEach script backends
    → ScriptMeans options.writer outside.source_before outside.source_after (Ok script)
    → HoldsAppended outside options.run outcome script (lists_of backends)
    → AppendHolds outside options outcome (lists_of backends)
append_told_holds outside options outcome [] backends some told means holds =
    absurd (omega (arith, some))
append_told_holds outside options outcome (asked ∷ script) [] some told means holds = absurd told
append_told_holds outside options outcome (asked ∷ script) (backend ∷ backends) some told means
    holds = (asked ∷ script, means, holds)
