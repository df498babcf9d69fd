-- Records that can be inserted end no segment, so lines that insert them are what a core asks for.
use Rattle.std.proofs.Common.{◌≡◌, All, false, List, [], ◌∷◌, ap, ◌∙◌, arith}
use Rattle.std.proofs.lemmas.List.Elements.{All-cons}
use Rattle.wal_types.specs.declared.record.Record.{Record}
use Rattle.wal_spelling.specs.Spelling.{Assembled, is_assembled_switch}
use Rattle.wal_spelling.proofs.SwitchLaws.{is_assembled_switch-inserted}
use Rattle.machine_turns.specs.Doing.{Ask, Inserts, Commits, Flushes}
use Rattle.machine_turns.specs.declared.script.PlainLine.{PlainLine}
use Rattle.machine_turns.specs.declared.script.PlainLine.TheVariants.{Insert, Commit, Flush}
use Rattle.wal_core.specs.Lines.{AreLinesFor, AreScriptsFor, InsertsNoSwitch, IsBody, IsLineFor}

pub body_no_switch : (value : Record) (body : Assembled) → IsBody value body
    → is_assembled_switch body ≡ false
body_no_switch value body is =
    ap is_assembled_switch is.0 ∙ is_assembled_switch-inserted value is.1

line_no_switch : (ask : Ask) (line : PlainLine) → IsLineFor ask line → InsertsNoSwitch line
line_no_switch (Inserts value) (Insert body) is = body_no_switch value body is
line_no_switch (Inserts value) (Commit body) is = absurd is
line_no_switch (Inserts value) Flush is = absurd is
line_no_switch (Commits value) (Insert body) is = absurd is
line_no_switch (Commits value) (Commit body) is = body_no_switch value body is
line_no_switch (Commits value) Flush is = absurd is
line_no_switch Flushes (Insert body) is = absurd is
line_no_switch Flushes (Commit body) is = absurd is
line_no_switch Flushes Flush is = tt

lines_no_switch : (asks : List Ask) (lines : List PlainLine) → AreLinesFor asks lines
    → All InsertsNoSwitch lines
lines_no_switch [] [] are = λ i x low. absurd (omega (arith, low))
lines_no_switch [] (line ∷ lines) are = absurd are
lines_no_switch (ask ∷ asks) [] are = absurd are
lines_no_switch (ask ∷ asks) (line ∷ lines) are = All-cons InsertsNoSwitch line lines
    (line_no_switch ask line are.0) (lines_no_switch asks lines are.1)

pub scripts_no_switch : (asks : List (List Ask)) (scripts : List (List PlainLine))
    → AreScriptsFor asks scripts → All (All InsertsNoSwitch) scripts
scripts_no_switch [] [] are = λ i x low. absurd (omega (arith, low))
scripts_no_switch [] (script ∷ scripts) are = absurd are
scripts_no_switch (asks ∷ others) [] are = absurd are
scripts_no_switch (asks ∷ others) (script ∷ scripts) are = All-cons (All InsertsNoSwitch) script
    scripts (lines_no_switch asks script are.0) (scripts_no_switch others scripts are.1)
