use Rattle.std.proofs.Common.{◌≡◌, ℕ, ◌+◌, ◌≤◌, List, [], ◌∷◌, ◌++◌, length, Option, Some, None, Result, Ok, ap, ◌∙◌, ltb, sym, subst, arith}
use Rattle.std.proofs.lemmas.Grind.{common_steps}
use Rattle.std.specs.Borrow.{Bor}
use Rattle.std.specs.Global.{Vec}
use Rattle.cli_text.specs.Parts.{bytes_left, parts_left}
use Rattle.run_script.specs.declared.backends.LineRead.{LineRead}
use Rattle.run_script.specs.declared.backends.LineRead.TheVariants as steps
use Rattle.run_script.specs.declared.line.Line.{Line}
use Rattle.run_script.specs.declared.line_error.LineError.{LineError}
use Rattle.run_script.specs.declared.parser.ParseError.{ParseError}
use Rattle.run_script.specs.Reading.{RefusesScript}
use Rattle.run_script.specs.Replay.{backends_from, begin_fault, most_backends, script_line_of}
use Rattle.run_script.specs.ReplayReading.{DoesStep, StepGives}
use Rattle.run_script.specs.Text.{lines_of}
use Rattle.run_script.proofs.SeveralBackends.{AreReadUpto, AreReadUpto-read, AreReadUpto-begin, begins_in_room, refused_begin, at_end, behind_last}
use Rattle.run_script.proofs.backends.read_backends.Goals as goal

pub loop-rest-preserved-in-Ok-Within : goal.loop-rest-preserved-in-Ok-Within
loop-rest-preserved-in-Ok-Within c =
    let takes = c.args.takes_schedule in
    let text = c.cut.result.0.now in
    let rest = parts_left 10 c.cut.result.1 in
    let backends = c.loop-rest.before.items in
    let lines = c.loop-rest.read.lines.items in
    let new = c.read_line.new.read.lines.items in
    let number = c.loop-rest.number + 1 in
    let whole = backends_from takes 1 [] [] (lines_of c.args.script.now) in
    let left : parts_left 10 c.loop-rest.rest ≡ text ∷ rest = ap (parts_left 10) c.in-Some.is ∙ c.cut.ensures.parts in
    let read : c.read_line.result ≡ Ok steps.Within = grind (arith, common_steps) in
    let does : DoesStep number lines new steps.Within (script_line_of takes text) = subst (λ (result : Result LineRead LineError). StepGives number lines new result (script_line_of takes text)) read c.read_line.ensures in
    let upto : AreReadUpto takes backends lines number (text ∷ rest) whole = subst (λ (texts : List (List ℕ)). AreReadUpto takes backends lines number texts whole) left c.loop-rest.invariant.meaning in
    let bytes : c.loop-rest.number + (length c.in-Some.text.now + 1) ≤ length c.args.script.now + 1 = subst (λ (left_over : Option (Bor (List ℕ))). c.loop-rest.number + bytes_left left_over ≤ length c.args.script.now + 1) c.in-Some.is c.loop-rest.invariant.left in
    record {
      meaning = AreReadUpto-read takes backends lines number text rest whole upto does.0 does.1 new does.2;
      left = omega (arith, c.cut.ensures.fewer, bytes);
      room = c.loop-rest.invariant.room;
    }

pub returns-in-Some-begin_fault-clause-read : goal.returns-in-Some-begin_fault-clause-read
returns-in-Some-begin_fault-clause-read c =
    let takes = c.args.takes_schedule in
    let text = c.cut.result.0.now in
    let rest = parts_left 10 c.cut.result.1 in
    let backends = c.loop-rest.before.items in
    let lines = c.loop-rest.read.lines in
    let new = c.read_line.new.read.lines.items in
    let number = c.loop-rest.number + 1 in
    let is_alone = c.in-Ok-Begin.is_alone in
    let whole = backends_from takes 1 [] [] (lines_of c.args.script.now) in
    let left : parts_left 10 c.loop-rest.rest ≡ text ∷ rest = ap (parts_left 10) c.in-Some.is ∙ c.cut.ensures.parts in
    let read : c.read_line.result ≡ Ok (steps.Begin is_alone) = grind (arith, common_steps) in
    let does : DoesStep number lines.items new (steps.Begin is_alone) (script_line_of takes text) = subst (λ (result : Result LineRead LineError). StepGives number lines.items new result (script_line_of takes text)) read c.read_line.ensures in
    let upto : AreReadUpto takes backends lines.items number (text ∷ rest) whole = subst (λ (texts : List (List ℕ)). AreReadUpto takes backends lines.items number texts whole) left c.loop-rest.invariant.meaning in
    let fault : begin_fault (ltb (length backends + 1) most_backends) is_alone ≡ Some c.in-Some-begin_fault.fault = grind (arith, common_steps) in
    let refusal = refused_begin takes backends lines number text rest whole upto is_alone c.in-Some-begin_fault.fault does.0 fault in
    subst (λ (error : ParseError). RefusesScript error whole) (sym c.at-in-Some-begin_fault.ensures) refusal

pub loop-rest-preserved : goal.loop-rest-preserved
loop-rest-preserved c =
    let takes = c.args.takes_schedule in
    let text = c.cut.result.0.now in
    let rest = parts_left 10 c.cut.result.1 in
    let backends = c.loop-rest.before.items in
    let lines = c.loop-rest.read.lines.items in
    let new = c.read_line.new.read.lines.items in
    let given = c.replace.result in
    let number = c.loop-rest.number + 1 in
    let is_alone = c.in-Ok-Begin.is_alone in
    let whole = backends_from takes 1 [] [] (lines_of c.args.script.now) in
    let left : parts_left 10 c.loop-rest.rest ≡ text ∷ rest = ap (parts_left 10) c.in-Some.is ∙ c.cut.ensures.parts in
    let read : c.read_line.result ≡ Ok (steps.Begin is_alone) = grind (arith, common_steps) in
    let does : DoesStep number lines new (steps.Begin is_alone) (script_line_of takes text) = subst (λ (result : Result LineRead LineError). StepGives number lines new result (script_line_of takes text)) read c.read_line.ensures in
    let moved : new ≡ given.items = grind (arith, common_steps) in
    let before : AreReadUpto takes backends given.items number (text ∷ rest) whole = subst (λ (all : List Line). AreReadUpto takes backends all number (text ∷ rest) whole) (sym does.1 ∙ moved) (subst (λ (texts : List (List ℕ)). AreReadUpto takes backends lines number texts whole) left c.loop-rest.invariant.meaning) in
    let bytes : c.loop-rest.number + (length c.in-Some.text.now + 1) ≤ length c.args.script.now + 1 = subst (λ (left_over : Option (Bor (List ℕ))). c.loop-rest.number + bytes_left left_over ≤ length c.args.script.now + 1) c.in-Some.is c.loop-rest.invariant.left in
    let may : begin_fault (ltb (length backends + 1) most_backends) is_alone ≡ None = grind (arith, common_steps) in
    let empty : c.replace.new.dest.items ≡ [] = grind (arith, common_steps) in
    record {
      meaning = subst (λ (all : List (Vec Line)). AreReadUpto takes all c.replace.new.dest.items (number + 1) rest whole) (sym c.in_ok-push-in-Ok-Begin.ensures.items) (subst (λ (none : List Line). AreReadUpto takes (backends ++ given ∷ []) none (number + 1) rest whole) (sym empty) (AreReadUpto-begin takes backends given number text rest whole before is_alone does.0 may));
      left = omega (arith, c.cut.ensures.fewer, bytes);
      room = omega (arith, begins_in_room _ _ may);
    }

pub returns-in-Ok-End-clause-read : goal.returns-in-Ok-End-clause-read
returns-in-Ok-End-clause-read c =
    let takes = c.args.takes_schedule in
    let text = c.cut.result.0.now in
    let rest = parts_left 10 c.cut.result.1 in
    let backends = c.loop-rest.before.items in
    let lines = c.loop-rest.read.lines.items in
    let new = c.read_line.new.read.lines in
    let number = c.loop-rest.number + 1 in
    let whole = backends_from takes 1 [] [] (lines_of c.args.script.now) in
    let left : parts_left 10 c.loop-rest.rest ≡ text ∷ rest = ap (parts_left 10) c.in-Some.is ∙ c.cut.ensures.parts in
    let read : c.read_line.result ≡ Ok steps.End = grind (arith, common_steps) in
    let does : DoesStep number lines new.items steps.End (script_line_of takes text) = subst (λ (result : Result LineRead LineError). StepGives number lines new.items result (script_line_of takes text)) read c.read_line.ensures in
    let before : AreReadUpto takes backends new.items number (text ∷ rest) whole = subst (λ (all : List Line). AreReadUpto takes backends all number (text ∷ rest) whole) (sym does.1) (subst (λ (texts : List (List ℕ)). AreReadUpto takes backends lines number texts whole) left c.loop-rest.invariant.meaning) in
    at_end takes backends new number text rest whole before c.push-in-Ok-End.new.self.items does.0 c.in_ok-push-in-Ok-End.ensures.items

pub returns-clause-read : goal.returns-clause-read
returns-clause-read c =
    let takes = c.args.takes_schedule in
    let whole = backends_from takes 1 [] [] (lines_of c.args.script.now) in
    let backends = c.loop-rest.before.items in
    let lines = c.loop-rest.read.lines in
    let number = c.loop-rest.number + 1 in
    let before : AreReadUpto takes backends lines.items number [] whole = subst (λ (texts : List (List ℕ)). AreReadUpto takes backends lines.items number texts whole) (ap (parts_left 10) c.in_default.is) c.loop-rest.invariant.meaning in
    behind_last takes backends lines number whole before c.push-2.new.self.items c.in_ok-push.ensures.items
