-- Where a script's lines were played, the records that they ask for can be inserted.
use Rattle.std.proofs.Common.{ℕ, ◌+◌, All, List, [], ◌∷◌}
use Rattle.std.proofs.lemmas.List.Elements.{All-cons, All-nil}
use Rattle.run_script.specs.Asked.{AskedLine}
use Rattle.run_script.specs.Writable.{AsksWritable}
use Rattle.machine_state.specs.Views.{View}
use Rattle.run_laws.specs.declared.told.Told.{Told}
use Rattle.run_laws.specs.Ended.{PlayedAll}
use Rattle.run_laws.specs.Played.{PassState, PlaysLines, pass_state_of, state_at_first}

abbrev pub LineAsksWritable : AskedLine → Type 0
LineAsksWritable line = AsksWritable line.asked

abbrev pub AskWritable : List AskedLine → Type 0
AskWritable lines = All LineAsksWritable lines

abbrev pub AllAskWritable : List (List AskedLine) → Type 0
AllAskWritable script = All AskWritable script

module _ (size limit : ℕ) where
  lines_writable : (pass : ℕ) (lines : List AskedLine) (told : List Told)
      (before after : PassState) → PlaysLines size limit pass before lines told after
      → AskWritable lines
  lines_writable pass [] told before after plays = All-nil LineAsksWritable
  lines_writable pass (line ∷ lines) [] before after plays = absurd plays
  lines_writable pass (line ∷ lines) (answer ∷ told) before after plays =
      All-cons LineAsksWritable line lines (plays.1).writable
      (lines_writable pass lines told plays.0 after plays.2)

  pub script_writable : (pass : ℕ) (script : List (List AskedLine)) (lists : List (List Told))
      (others : List View) → PlayedAll size limit pass script lists others
      → AllAskWritable script
  script_writable pass [] lists others played = All-nil AskWritable
  script_writable pass (lines ∷ script) [] others played = absurd played
  script_writable pass (lines ∷ script) (told ∷ lists) [] played = absurd played
  script_writable pass (lines ∷ script) (told ∷ lists) (w ∷ others) played =
      All-cons AskWritable lines script
      (lines_writable pass lines told (state_at_first (played.1).seen) (pass_state_of w)
      (played.1).plays)
      (script_writable (pass + 1) script lists others played.2)
