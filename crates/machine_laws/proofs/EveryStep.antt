-- Every step keeps the invariant, and every run.
use Rattle.std.proofs.Common.{◌≡◌, ℕ, zero, suc, List, set, sym, ap, ◌∙◌, subst}
use mathlib.Core.Option.{Option}
use Rattle.machine_state.specs.Words.{Opening}
use Rattle.machine_state.specs.Views.{Plain, View}
use Rattle.machine_state.specs.Steps.{StepKind, State, MachineStep, Makes, Moves, SplitsOff, TakesIn, Abandons, word_of_step, value_behind, view_behind}
use Rattle.machine_state.specs.Sound.{IsSound}
use Rattle.machine_laws.specs.InvariantKept.{KeepsSound, number_met}
use Rattle.machine_laws.specs.Runs.{Runs}
use Rattle.machine_laws.proofs.WholeInvariant.{sound_behind}
use Rattle.machine_laws.proofs.EveryPassStep.{splits_keep, joins_keep, gives_up_keeps}
use Rattle.segment_disk.specs.Tape.{DiskState}

module _ (first : DiskState) (opening : Opening) where
  abbrev Sound : State → Type 0
  Sound s = IsSound first opening s.words s.home s.views

  makes_keeps : (id : ℕ) (e : StepKind) (met : ℕ) (s t : State) → Sound s → Makes id e met s t
      → Sound t
  makes_keeps id e met s t k m =
      let v = m.view in
      let known : v.opening ≡ opening = (k.grounded id v (m.live).0).opening_is (m.live).1 in
      let here = subst (λ (o : Opening). IsSound first o s.words s.home s.views) (sym known) k in
      let behind : KeepsSound first s.words s.home s.views id v e =
      sound_behind s.words s.home s.views id v here (m.live).0 (m.live).1 e m.may in
      let words : t.words ≡ set s.words (word_of_step v e) (value_behind v e
      (number_met s.words v e)) =
      m.words ∙ ap (λ (n : ℕ). set s.words (word_of_step v e) (value_behind v e n)) m.met_is in
      let views : t.views ≡ set s.views id (view_behind v e (number_met s.words v e) s.home) =
      m.views ∙ ap (λ (n : ℕ). set s.views id (view_behind v e n s.home)) m.met_is in
      subst (λ (x : Opening × List ℕ × Option Plain × List View). IsSound first x.0 x.1 x.2 x.3)
      (λ j. (known j, sym words j, sym m.home j, sym views j)) behind

  pub step_keeps : (s t : State) → Sound s → MachineStep s t → Sound t
  step_keeps s t k (Moves id e met m) = makes_keeps id e met s t k m
  step_keeps s t k (SplitsOff id m) = splits_keep opening s t id k m
  step_keeps s t k (TakesIn id other m) = joins_keep opening s t id k other m
  step_keeps s t k (Abandons id m) = gives_up_keeps opening s t id k m

  pub run_keeps : (n : ℕ) (s t : State) → Sound s → Runs n s t → Sound t
  run_keeps zero s t k same = subst Sound same k
  run_keeps (suc n) s t k run =
      step_keeps run.0 t (run_keeps n s run.0 k run.1) run.2
