-- The view behind a load of the position, where no more was seen before, as a plain update.
use Rattle.std.proofs.Common.{◌≡◌, ℕ, ◌≤◌, max, ap, arith}
use mathlib.Core.Option.{none}
use Rattle.machine_state.specs.Moves.{unlocked, with_reserving}
use Rattle.machine_state.specs.Steps.{load_position, view_behind}
use Rattle.machine_state.specs.Views.{View}
use Rattle.insert_locks.specs.Watching.{with_sight}

pub seen_is : (met : ℕ) (v : View) → (v.reserving).seen ≤ unlocked met
    → view_behind v load_position met none ≡ with_sight (unlocked met) v
seen_is met v low =
    let more : max (v.reserving).seen (unlocked met) ≡ unlocked met = omega arith in
    ap (λ (n : ℕ). (with_reserving (record v.reserving { seen = n }) v)) more
