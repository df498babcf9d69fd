-- A replay's lines as lines of the machine, and how many there are.
use Rattle.std.proofs.Common.{◌≡◌, ℕ, suc, List, [], ◌∷◌, length, map, Vec, refl, ap, ap₂}
use Rattle.std.specs.declared.alloc.Global.{Global}
use Rattle.run_script.specs.declared.line.Action.{Action}
use Rattle.run_script.specs.declared.line.Action.TheVariants as actions
use Rattle.run_script.specs.declared.line.Line.{Line}
use Rattle.run_script.specs.Asked.{Asked, AskedLine, Commit, CommitAsync, Flush, Insert, Switch, WriteBehind}
use Rattle.run_script.specs.Bodies.{AreLinesOf, IsActionOf}
use Rattle.run_script.specs.ReplayReading.{AreBackendsOf}
use Rattle.machine_turns.specs.Begun.{first_backend}
use Rattle.wal_core.specs.Lines.{AreLinesFor, AreScriptsFor, IsLineFor}
use Rattle.machine_turns.specs.declared.script.PlainLine.{PlainLine as MachineLine}
use Rattle.backend_cli.specs.ReplayBegun.{machine_line_of, machine_lines_of}
use Rattle.backend_cli.specs.Replaying.{ask_of, asks_of}

line_for : (asked : Asked) (action : Action) → IsActionOf asked action → IsLineFor (ask_of asked) (machine_line_of action)
line_for (Insert value) (actions.Insert body) is = is
line_for (Insert value) (actions.Commit body) is = absurd is
line_for (Insert value) actions.Flush is = absurd is
line_for (Insert value) (actions.CommitAsync body) is = absurd is
line_for (Insert value) actions.WriteBehind is = absurd is
line_for (Insert value) (actions.Switch body) is = absurd is
line_for (Commit value) (actions.Insert body) is = absurd is
line_for (Commit value) (actions.Commit body) is = is
line_for (Commit value) actions.Flush is = absurd is
line_for (Commit value) (actions.CommitAsync body) is = absurd is
line_for (Commit value) actions.WriteBehind is = absurd is
line_for (Commit value) (actions.Switch body) is = absurd is
line_for Flush (actions.Insert body) is = absurd is
line_for Flush (actions.Commit body) is = absurd is
line_for Flush actions.Flush is = tt
line_for Flush (actions.CommitAsync body) is = absurd is
line_for Flush actions.WriteBehind is = absurd is
line_for Flush (actions.Switch body) is = absurd is
line_for (CommitAsync value) (actions.Insert body) is = absurd is
line_for (CommitAsync value) (actions.Commit body) is = absurd is
line_for (CommitAsync value) actions.Flush is = absurd is
line_for (CommitAsync value) (actions.CommitAsync body) is = is
line_for (CommitAsync value) actions.WriteBehind is = absurd is
line_for (CommitAsync value) (actions.Switch body) is = absurd is
line_for WriteBehind (actions.Insert body) is = absurd is
line_for WriteBehind (actions.Commit body) is = absurd is
line_for WriteBehind actions.Flush is = absurd is
line_for WriteBehind (actions.CommitAsync body) is = absurd is
line_for WriteBehind actions.WriteBehind is = tt
line_for WriteBehind (actions.Switch body) is = absurd is
line_for Switch (actions.Insert body) is = absurd is
line_for Switch (actions.Commit body) is = absurd is
line_for Switch actions.Flush is = absurd is
line_for Switch (actions.CommitAsync body) is = absurd is
line_for Switch actions.WriteBehind is = absurd is
line_for Switch (actions.Switch body) is = tt

lines_for : (asked : List AskedLine) (lines : List Line) → AreLinesOf asked lines → AreLinesFor (asks_of asked) (machine_lines_of lines)
lines_for [] [] are = tt
lines_for [] (line ∷ lines) are = absurd are
lines_for (a ∷ asked) [] are = absurd are
lines_for (a ∷ asked) (line ∷ lines) are = (line_for a.asked line.action are.1, lines_for asked lines are.2)

lengths : (asked : List AskedLine) (lines : List Line) → AreLinesOf asked lines → length (machine_lines_of lines) ≡ length (asks_of asked)
lengths [] [] are = refl
lengths [] (line ∷ lines) are = absurd are
lengths (a ∷ asked) [] are = absurd are
lengths (a ∷ asked) (line ∷ lines) are = ap suc (lengths asked lines are.2)

abbrev pub scripts_of : List (Vec Line Global) → List (List MachineLine)
scripts_of backends = map (λ lines. machine_lines_of lines.items) backends

pub scripts_for : (asked : List (List AskedLine)) (backends : List (Vec Line Global)) → AreBackendsOf asked backends → AreScriptsFor (map asks_of asked) (scripts_of backends)
scripts_for [] [] are = tt
scripts_for [] (lines ∷ backends) are = absurd are
scripts_for (a ∷ asked) [] are = absurd are
scripts_for (a ∷ asked) (lines ∷ backends) are = (lines_for a lines.items are.0, scripts_for asked backends are.1)

pub as_many_backends : (asked : List (List AskedLine)) (backends : List (Vec Line Global)) → AreBackendsOf asked backends → length asked ≡ length backends
as_many_backends [] [] are = refl
as_many_backends [] (lines ∷ backends) are = absurd are
as_many_backends (a ∷ asked) [] are = absurd are
as_many_backends (a ∷ asked) (lines ∷ backends) are = ap suc (as_many_backends asked backends are.1)

pub as_many_scripts : (backends : List (Vec Line Global)) → length (scripts_of backends) ≡ length backends
as_many_scripts [] = refl
as_many_scripts (lines ∷ backends) = ap suc (as_many_scripts backends)

-- each backend has as many lines as the machine asks of it
pub as_many_lines : (asked : List (List AskedLine)) (backends : List (Vec Line Global)) → AreBackendsOf asked backends
    → map (λ (lines : List MachineLine). length lines) (scripts_of backends) ≡ map (λ b. length b.asks) (map first_backend (map asks_of asked))
as_many_lines [] [] are = refl
as_many_lines [] (lines ∷ backends) are = absurd are
as_many_lines (a ∷ asked) [] are = absurd are
as_many_lines (a ∷ asked) (lines ∷ backends) are = ap₂ (λ (n : ℕ) (ns : List ℕ). n ∷ ns) (lengths a lines.items are.0) (as_many_lines asked backends are.1)
