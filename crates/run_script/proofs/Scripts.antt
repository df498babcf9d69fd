-- Reading a script's lines from the first on.
use Rattle.std.proofs.Common.{◌≡◌, ℕ, ◌+◌, List, [], ◌∷◌, ◌++◌, Result, Ok, Err, refl, ap, sym, ◌∙◌, subst}
use Rattle.std.proofs.lemmas.List.{append_assoc}
use Rattle.run_script.specs.declared.line.Line.{Line}
use Rattle.run_script.specs.declared.line.Refusal.{Refusal}
use Rattle.run_script.specs.Asked.{Asked, AskedLine}
use Rattle.run_script.specs.Bodies.{AreLinesOf, IsActionOf}
use Rattle.run_script.specs.Meaning.{LineMeaning, passes, asks, refuses, line_of, lines_meaning, then_line, with_line}
use Rattle.run_script.specs.Reading.{JoinsLines}

-- lines that were read, and what is read behind them
abbrev pub with_front : List AskedLine → Result (List AskedLine) Refusal → Result (List AskedLine) Refusal
with_front front (Ok lines) = Ok (front ++ lines)
with_front front (Err refusal) = Err refusal

-- nothing stands in front
pub with_front-nil : (lines : Result (List AskedLine) Refusal) → with_front [] lines ≡ lines
with_front-nil (Ok lines) = refl
with_front-nil (Err refusal) = refl

-- a line that was read joins those in front
pub with_front-push : (front : List AskedLine) (number : ℕ) (asked : Asked) (others : Result (List AskedLine) Refusal) → with_front front (with_line number asked others) ≡ with_front (front ++ (record { number = number; asked = asked }) ∷ []) others
with_front-push front number asked (Ok lines) = ap (λ (ls : List AskedLine). Ok ls) (simp append_assoc)
with_front-push front number asked (Err refusal) = refl

-- one line more at the end
pub AreLinesOf_push : (askeds : List AskedLine) (lines : List Line) (asked : AskedLine) (line : Line) → AreLinesOf askeds lines → line.number ≡ asked.number → IsActionOf asked.asked line.action → AreLinesOf (askeds ++ asked ∷ []) (lines ++ line ∷ [])
AreLinesOf_push [] [] asked line are number does = (number, does, tt)
AreLinesOf_push [] (other ∷ lines) asked line are number does = absurd are
AreLinesOf_push (first ∷ askeds) [] asked line are number does = absurd are
AreLinesOf_push (first ∷ askeds) (other ∷ lines) asked line are number does = (are.0, are.1, AreLinesOf_push askeds lines asked line are.2 number does)

-- the lines so far do what was read, and with the meaning of those from a number on it is that of all
abbrev pub IsReadUpto : List Line → ℕ → List (List ℕ) → Result (List AskedLine) Refusal → Type 0
IsReadUpto lines number rest meaning = (asked : List AskedLine) × AreLinesOf asked lines × (with_front asked (lines_meaning number rest) ≡ meaning)

module _ (lines : List Line) (number : ℕ) (text : List ℕ) (rest : List (List ℕ)) (meaning : Result (List AskedLine) Refusal) (before : IsReadUpto lines number (text ∷ rest) meaning) where
  at_line : (read : LineMeaning) → line_of text ≡ read → with_front before.0 (then_line number read (lines_meaning (number + 1) rest)) ≡ meaning
  at_line read is = subst (λ (m : LineMeaning). with_front before.0 (then_line number m (lines_meaning (number + 1) rest)) ≡ meaning) is before.2

  by_meaning : (read : LineMeaning) → line_of text ≡ read → (new : List Line) → JoinsLines number lines new read → IsReadUpto new (number + 1) rest meaning
  by_meaning passes is new joins = (before.0, subst (AreLinesOf before.0) (sym joins) before.1, at_line passes is)
  by_meaning (asks asked) is new joins =
      let line : AskedLine = record { number = number; asked = asked } in (
        before.0 ++ line ∷ [],
        subst (AreLinesOf (before.0 ++ line ∷ [])) (sym joins.2) (AreLinesOf_push before.0 lines line (record { number = number; action = joins.0 }) before.1 refl joins.1),
        sym (with_front-push before.0 number asked (lines_meaning (number + 1) rest)) ∙ at_line (asks asked) is,
      )
  by_meaning (refuses fault) is new joins = absurd joins

  -- a line that was read
  pub IsReadUpto-read : (new : List Line) → JoinsLines number lines new (line_of text) → IsReadUpto new (number + 1) rest meaning
  IsReadUpto-read = by_meaning (line_of text) refl
