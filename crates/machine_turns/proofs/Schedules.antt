-- Turns one after another: each leaves the state or makes a step, so a schedule is a run.
use Rattle.std.proofs.Common.{ap, ◌≡◌, ◌⊎◌, inl, ⊎_elim, ℕ, zero, suc, ◌+◌, List, [], ◌∷◌, slice_get, Some, None, refl, subst, arith, inr, sym, ◌∙◌}
use Rattle.std.specs.Prelude.{Option}
use mathlib.Core.Option.{some-ne-none, none, some}
use lib.ListN.{get_elem?}
use Rattle.machine_state.specs.Views.{View}
use Rattle.machine_state.specs.Steps.{IsLive, State, MachineStep, Moves, load_down}
use Rattle.machine_state.proofs.Lists.{at_same}
use Rattle.machine_laws.specs.Runs.{Runs}
use Rattle.machine_turns.specs.Doing.{Ask, Backend, Machine}
use Rattle.machine_turns.specs.Turned.{TurnMade, Moved, Waits, AllDone, IsDown, turned, turned_for, turned_of, machine_behind}
use Rattle.machine_turns.specs.Standing.{HasLeft, IsTurnTold, HasBackend, IsRunning, RunsOn, StandsFor}
use Rattle.machine_turns.proofs.Running.{Good, turn_good}

module _ (m : Machine) (run : IsRunning m) (number : ℕ) where
  by_ask : (b : Backend) (v : View) → HasBackend m number b → IsLive m.state (number + 1) v
      → StandsFor b v → (x : Option Ask) → slice_get b.asks b.answered ≡ x
      → Good m number (turned_for m number b v x)
  by_ask b v here live stands None is = (
    (
      refl,
      λ c ask there left.
          let same : b ≡ c = cc in
          let left_here = subst (λ (x : Backend). HasLeft x ask) (sym same) left in
          absurd (cc),
    ),
    run,
  )
  by_ask b v here live stands (Some ask) is =
      turn_good m run number b here v live ask is (stands ask is)

  by_backend : (x : Option Backend) (y : mathlib.Core.Option.Option View)
      → slice_get m.backends number ≡ x → get_elem? (m.state).views (number + 1) ≡ y
      → Good m number (turned_of m number x y)
  by_backend None y is at = ((refl, λ c ask there left. absurd (cc)), run)
  by_backend (Some b) none is at =
      let mine = run.views number b is in
      let there = mine.1.0 in
      absurd (some-ne-none mine.0 (sym there ∙ at))
  by_backend (Some b) (some v) is at =
      let mine = run.views number b is in
      let same : mine.0 ≡ v = at_same (m.state).views mine.0 v (number + 1) mine.1.0 at in
      let found = subst (λ (u : View). IsLive m.state (number + 1) u × StandsFor b u) same
      (mine.1, mine.2) in
      by_ask b v is found.0 found.1 (slice_get b.asks b.answered) refl

  pub turned_good : Good m number (turned m number)
  turned_good = by_backend (slice_get m.backends number) (get_elem? (m.state).views (number + 1))
      refl refl

-- a step before a run
earlier : (n : ℕ) (s u t : State) → MachineStep s u → Runs n u t → Runs (suc n) s t
earlier zero s u t step same = (s, refl, subst (MachineStep s) same step)
earlier (suc n) s u t step run = (run.0, earlier n s u run.0 step run.1, run.2)

step_or_same : (m : Machine) (number : ℕ) (t : TurnMade) (n : Machine) → IsTurnTold m number t n
    → (n.state ≡ m.state) ⊎ MachineStep m.state n.state
step_or_same m number (Moved e) n told = inr (Moves (number + 1) e told.0 told.1)
step_or_same m number (Waits on value) n told = inl (ap (λ (x : Machine). x.state) told.0)
step_or_same m number AllDone n told = inl (ap (λ (x : Machine). x.state) told.0)
step_or_same m number (IsDown faults) n told = inr (Moves (number + 1) load_down told.2.0 told.2.1)

pub schedule_good : (schedule : List ℕ) (m : Machine) → IsRunning m
    → RunsOn m schedule × IsRunning (machine_behind m schedule)
schedule_good [] m run = ((0, omega arith, refl), run)
schedule_good (number ∷ schedule) m run =
    let here = turned_good m run number in
    let n = (turned m number).1 in
    let rest = schedule_good schedule n here.1 in
    let behind = rest.0 in
    let within = behind.1 in
    let last = (machine_behind n schedule).state in (
      ⊎_elim
          (λ (same : n.state ≡ m.state). (
            behind.0,
            omega (arith, within),
            subst (λ (s : State). Runs behind.0 s last) same behind.2,
          ))
          (λ (step : MachineStep m.state n.state). (
            suc behind.0,
            omega (arith, within),
            earlier behind.0 m.state n.state last step behind.2,
          )) (step_or_same m number (turned m number).0 n here.0),
      rest.1,
    )
