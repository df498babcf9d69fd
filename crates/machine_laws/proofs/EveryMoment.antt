-- Behind every step and every run the moments rise, as they do at the opening.
use Rattle.std.proofs.Common.{◌≡◌, ℕ, zero, suc, List, [], ◌∷◌, ◌++◌, map, set, sym, ap, ◌∙◌, subst}
use mathlib.Core.Logic.{dite}
use native.Mathlib.Decide.{ℕ_discrete}
use mathlib.Core.Option.{Option, some-injective, some-ne-none}
use Rattle.machine_state.specs.Words.{Opening, flushed_word, moment_word, write_turn}
use Rattle.machine_state.specs.Views.{HasAt, Hold, Idle, Turned, Out, Plain, View, writer_of}
use Rattle.machine_state.specs.Locked.{HasWriteTurn, IsWriteTurn, StandsTo}
use Rattle.machine_state.specs.Moves.{after_split, split_off, after_join, spent, without_work, orphan_of}
use Rattle.machine_state.specs.Opened.{first_view}
use Rattle.machine_state.specs.Steps.{StepKind, State, MachineStep, Makes, Splits, Joins, GivesUp, Moves, SplitsOff, TakesIn, Abandons, word_of_step, value_behind, home_behind, view_behind}
use Rattle.machine_state.specs.Sound.{IsSound}
use Rattle.machine_state.proofs.Lists.{part_at}
use Rattle.machine_laws.specs.LocksBehind.{views_behind, words_behind, writer_behind}
use Rattle.machine_laws.proofs.LockPassSteps.{turns_give_up, turns_join, turns_split}
use Rattle.machine_laws.proofs.SoundLockSteps.{locks_behind, turns_now}
use Rattle.machine_laws.specs.Runs.{Runs}
use Rattle.machine_laws.proofs.EveryStep.{run_keeps}
use Rattle.machine_laws.specs.RisingMoments.{LogsRise, MomentsKeepRising, RisesHold, promised_of}
use Rattle.machine_laws.proofs.MomentsBehind.{moments_behind}
use Rattle.machine_laws.proofs.MomentParts.{begins}
use Rattle.machine_laws.proofs.PassMoments.{given_up_moments, joined_moments, split_moments}
use Rattle.segment_disk.specs.Tape.{DiskState}

-- ---- a state has one writer, wherever it is

same_held : (turn : ℕ) (home : Option Plain) (a b : Plain) (i j id number : ℕ) (hold : Hold)
    → HasWriteTurn hold → StandsTo turn i home a id number hold
    → StandsTo turn j home b id number hold → a ≡ b
same_held turn home a b i j id number Idle has one other = absurd has
same_held turn home a b i j id number Turned has one other =
    some-injective a b (sym one.2 ∙ other.2)
same_held turn home a b i j id number (Out l) has one other = sym one.3 ∙ other.3

one_writer : (turn : ℕ) (home : Option Plain) (a b : Plain) (writers : List (ℕ × Hold))
    → IsWriteTurn turn home a writers → IsWriteTurn turn home b writers → a ≡ b
one_writer turn home a b writers s t = dite (ℕ_discrete turn 0)
    (λ nobody. some-injective a b (sym (s.free nobody) ∙ t.free nobody))
    (λ somebody.
    let w = s.held somebody in
    same_held turn home a b s.holder t.holder s.holder (w.0).0 (w.0).1 w.2
    (s.each s.holder w.0 w.1) (t.each s.holder w.0 w.1))

module _ (first : DiskState) (opening : Opening) where
  abbrev Sound : State → Type 0
  Sound s = IsSound first opening s.words s.home s.views

  abbrev Rising : (s : State) → Sound s → Type 0
  Rising s k = MomentsKeepRising opening s.words s.home s.views k

  -- what holds with the writer of one proof that a state is sound holds with that of any other
  of_any : (words : List ℕ) (home : Option Plain) (views : List View)
      (k l : IsSound first opening words home views) → MomentsKeepRising opening words home views k
      → MomentsKeepRising opening words home views l
  of_any words home views k l rising = subst
      (λ (w : Plain). RisesHold opening (flushed_word words) (moment_word words) w
      (map promised_of views))
      (one_writer (write_turn words) home k.writer l.writer (map writer_of views)
      (k.locks).writing (l.locks).writing) rising

  -- a state that has these words, this home and these views, whose writer is this one
  lands : (words : List ℕ) (home : Option Plain) (views : List View) (writer : Plain)
      → RisesHold opening (flushed_word words) (moment_word words) writer (map promised_of views)
      → IsWriteTurn (write_turn words) home writer (map writer_of views)
      → (t : State) → t.words ≡ words → t.home ≡ home → t.views ≡ views
      → (l : Sound t) → Rising t l
  lands words home views writer rising turn t same_words same_home same_views = subst
      (λ (x : List ℕ × Option Plain × List View). (l : IsSound first opening x.0 x.1 x.2)
      → MomentsKeepRising opening x.0 x.1 x.2 l)
      (λ i. (sym same_words i, sym same_home i, sym same_views i))
      (λ l. subst (λ (w : Plain). RisesHold opening (flushed_word words) (moment_word words) w
      (map promised_of views))
      (one_writer (write_turn words) home writer l.writer (map writer_of views) turn
      (l.locks).writing) rising)

  -- ---- the steps

  abbrev KeepsRising : State → State → Type 0
  KeepsRising s t = (k : Sound s) → Rising s k → (l : Sound t) → Rising t l

  splits : (id : ℕ) (s t : State) → Splits id s t → KeepsRising s t
  splits id s t m k rising = lands s.words s.home
      (set s.views id (after_split m.view) ++ split_off m.view ∷ []) k.writer
      (split_moments opening s.words s.home s.views k rising id m.view (m.live).0)
      (turns_split s.words s.home k.stage k.writer s.views id m.view (m.live).0
      (turns_now opening s.words s.home s.views k)).writing t m.words m.home m.views

  gives_up : (id : ℕ) (s t : State) → GivesUp id s t → KeepsRising s t
  gives_up id s t m k rising = lands s.words s.home
      (set s.views id (without_work m.view) ++ orphan_of m.view ∷ []) k.writer
      (given_up_moments opening s.words s.home s.views k rising id m.view (m.live).0)
      (turns_give_up s.words s.home k.stage k.writer s.views id m.view (m.live).0
      (turns_now opening s.words s.home s.views k)).writing t m.words m.home m.views

  joins : (id other : ℕ) (s t : State) → Joins id other s t → KeepsRising s t
  joins id other s t m k rising = lands s.words s.home
      (set (set s.views other (spent m.other_view)) id (after_join m.view m.other_view)) k.writer
      (joined_moments opening s.words s.home s.views k rising id m.view (m.live).0 other
      m.other_view (m.other_live).0 m.apart)
      (turns_join s.words s.home k.stage k.writer s.views id m.view (m.live).0
      (turns_now opening s.words s.home s.views k) other m.other_view (m.other_live).0
      m.may).writing t m.words m.home m.views

-- a step of a pass, at what its view knows is fixed
makes_own : (first : DiskState) (id : ℕ) (e : StepKind) (met : ℕ) (s t : State) (m : Makes id e met s t)
    → KeepsRising first (m.view).opening s t
makes_own first id e met s t m k rising =
    let v : View = m.view in
    lands first v.opening (words_behind s.words v e) (home_behind v e s.home)
    (views_behind s.words s.home s.views id v e) (writer_behind v e k.writer)
    (moments_behind s.words s.home s.views id v k (m.live).0 (m.live).1 rising e m.may)
    ((locks_behind v.opening s.words s.home s.views k id v (m.live).0 (m.live).1 e m.may).1).writing
    t (m.words ∙ ap (λ (n : ℕ). set s.words (word_of_step v e) (value_behind v e n)) m.met_is)
    m.home (m.views ∙ ap (λ (n : ℕ). set s.views id (view_behind v e n s.home)) m.met_is)

module _ {first : DiskState} (opening : Opening) where
  pub steps_rise : (s t : State) (k : IsSound first opening s.words s.home s.views)
      → MomentsKeepRising opening s.words s.home s.views k → MachineStep s t
      → (l : IsSound first opening t.words t.home t.views)
      → MomentsKeepRising opening t.words t.home t.views l
  steps_rise s t k rising (Moves id e met m) = subst (λ (o : Opening). KeepsRising first o s t)
      ((k.grounded id m.view (m.live).0).opening_is (m.live).1) (makes_own first id e met s t m) k rising
  steps_rise s t k rising (SplitsOff id m) = splits first opening id s t m k rising
  steps_rise s t k rising (TakesIn id other m) = joins first opening id other s t m k rising
  steps_rise s t k rising (Abandons id m) = gives_up first opening id s t m k rising

  pub runs_rise : (n : ℕ) (s t : State) (k : IsSound first opening s.words s.home s.views)
      → MomentsKeepRising opening s.words s.home s.views k → Runs n s t
      → (l : IsSound first opening t.words t.home t.views)
      → MomentsKeepRising opening t.words t.home t.views l
  runs_rise zero s t k rising same = subst
      (λ (u : State). (l : IsSound first opening u.words u.home u.views)
      → MomentsKeepRising opening u.words u.home u.views l) same
      (λ l. of_any first opening s.words s.home s.views k l rising)
  runs_rise (suc n) s t k rising run =
      let mid = run_keeps first opening n s run.0 k run.1 in
      steps_rise run.0 t mid (runs_rise n s run.0 k rising run.1 mid) run.2

  -- ---- the opening, and what is shown of a view

  pub first_rises : (words : List ℕ) (home : Option Plain)
      (k : IsSound first opening words home (first_view opening ∷ []))
      → MomentsKeepRising opening words home (first_view opening ∷ []) k
  first_rises words home k =
      begins opening (flushed_word words) (moment_word words) k.writer [] (record {
        in_order = λ id x at. absurd (some-ne-none x (sym at));
        of_flushed = λ id x at. absurd (some-ne-none x (sym at));
        of_written = λ id x at. absurd (some-ne-none x (sym at));
        of_hard = λ id x at. absurd (some-ne-none x (sym at));
      }) (k.durable).begun (k.durable).moment_low

  pub logs_rise : (words : List ℕ) (home : Option Plain) (views : List View)
      (k : IsSound first opening words home views) → MomentsKeepRising opening words home views k
      → (id : ℕ) (v : View) → HasAt views id v → LogsRise opening (promised_of v)
  logs_rise words home views k rising id v here =
      rising.in_order id (promised_of v) (part_at promised_of views id v here)
