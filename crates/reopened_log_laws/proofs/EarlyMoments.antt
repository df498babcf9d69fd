-- No line is told that anything is durable by a moment before the opening.
use Rattle.std.proofs.Common.{ℕ, ◌<◌, ◌≤◌, inl, inr, true, false, List, [], ◌∷◌, sym, subst, arith}
use Rattle.std.specs.Prelude.{Bool}
use Rattle.std.specs.List.{Any}
use Rattle.run_script.specs.Asked.{Asked, AskedLine}
use Rattle.run_laws.specs.declared.told.Told.{Told}
use Rattle.run_laws.specs.declared.told.Told.TheVariants.{Wrote, Hard, Flushed, Async, Idle, Switched, Stayed, Refused}
use Rattle.run_laws.specs.Told.{SomeAnswer, SomeTold}
use Rattle.run_laws.specs.Crash.{SaysDurable}
use Rattle.run_laws.specs.Moments.{EachRises, FlushMoment, LastTold, MomentStep, MomentsReach, may_repeat}
use Rattle.run_laws.proofs.AnswerLoops.{some_told}

flush_rises : (may : Bool) (before moment : ℕ) → FlushMoment may before moment → before ≤ moment
flush_rises true before moment rises = rises
flush_rises false before moment rises = omega (arith, rises)

module _ (opened moment address : ℕ) (early : moment < opened) where
  -- a line tells nothing of so early a moment, and the last moment told is the opening's or later
  step_later : (before after : LastTold) (asked : Asked) (told : Told) → opened ≤ before.moment → MomentStep before asked told after → (SaysDurable moment address told → ⊥) × (opened ≤ after.moment)
  step_later before after asked (Wrote start end) low step = (λ none. none, subst (λ (l : LastTold). opened ≤ l.moment) (sym step) low)
  step_later before after asked (Hard start end at) low step = (λ says. omega (arith, says.0, step.0, low, early), subst (λ (l : LastTold). opened ≤ l.moment) (sym step.1) (omega (arith, step.0, low)))
  step_later before after asked (Flushed upto at) low step =
      let rises = flush_rises (may_repeat asked before.is_latest) before.moment at step.0 in
      (λ says. omega (arith, says.0, rises, low, early), subst (λ (l : LastTold). opened ≤ l.moment) (sym step.1) (omega (arith, rises, low)))
  step_later before after asked (Async start end) low step = (λ none. none, subst (λ (l : LastTold). opened ≤ l.moment) (sym step) low)
  step_later before after asked (Idle upto) low step = (λ none. none, subst (λ (l : LastTold). opened ≤ l.moment) (sym step) low)
  step_later before after asked (Switched start end) low step = (λ none. none, subst (λ (l : LastTold). opened ≤ l.moment) (sym step) low)
  step_later before after asked (Stayed end) low step = (λ none. none, subst (λ (l : LastTold). opened ≤ l.moment) (sym step) low)
  step_later before after asked (Refused cause reserved) low step = (λ none. none, subst (λ (l : LastTold). opened ≤ l.moment) (sym step) low)

  lines_later : (before after : LastTold) (lines : List AskedLine) (told : List Told) → opened ≤ before.moment → MomentsReach before lines told after → SomeAnswer (SaysDurable moment address) told → ⊥
  lines_later before after [] [] low reach some = some
  lines_later before after [] (answer ∷ told) low reach some = reach
  lines_later before after (line ∷ lines) [] low reach some = reach
  lines_later before after (line ∷ lines) (answer ∷ told) low reach (inl here) = (step_later before reach.0 line.asked answer low reach.1).0 here
  lines_later before after (line ∷ lines) (answer ∷ told) low reach (inr later) =
      lines_later reach.0 after lines told (step_later before reach.0 line.asked answer low reach.1).1 reach.2 later

  lists_later : (script : List (List AskedLine)) (lists : List (List Told)) (last : ℕ) → EachRises opened script lists last → SomeTold (SaysDurable moment address) lists → ⊥
  lists_later [] [] last rises some = some
  lists_later [] (told ∷ lists) last rises some = rises
  lists_later (lines ∷ script) [] last rises some = rises
  lists_later (lines ∷ script) (told ∷ lists) last rises (inl here) =
      lines_later (record { moment = opened; is_latest = true }) rises.0.0 lines told (omega arith) rises.0.1 here
  lists_later (lines ∷ script) (told ∷ lists) last rises (inr later) = lists_later script lists last rises.1 later

  pub none_so_early : (script : List (List AskedLine)) (lists : List (List Told)) (last : ℕ) → EachRises opened script lists last → Any (Any (SaysDurable moment address)) lists → ⊥
  none_so_early script lists last rises any = lists_later script lists last rises (some_told (SaysDurable moment address) lists any)
