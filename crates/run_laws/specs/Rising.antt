-- The log of each pass, in the order that all of them made.
use Rattle.std.specs.Prelude.{◌≡◌, ◌≢◌, ℕ, ◌≤◌, All, List, [], ◌∷◌}
use Rattle.wal_page.specs.Order.{Entry, position_behind}
use Rattle.machine_state.specs.Words.{Opening}
use Rattle.machine_state.specs.Views.{Reserving}
use Rattle.machine_state.specs.Ordered.{entries_under, TookIn}

-- the first entry starts at a position or behind it, and each other one where the one before it
-- ends or behind that
abbrev pub RiseFrom : ℕ → ℕ → List Entry → Type 0
RiseFrom size position [] = Unit {0}
RiseFrom size position (e ∷ es) =
    (position ≤ e.start) × RiseFrom size (position_behind size e) es

-- each pass's log is its entries of the order, which rise; no other number has entries
pub record LogsAreOfOrder (opening : Opening) (order : List Entry) (r : Reserving) : Type 0 where
  pub rise : (number : ℕ) → RiseFrom (opening.setup).seg_size (opening.place).position
      (entries_under number order)
  pub own : r.entries ≡ entries_under r.number order
  pub joined : All (λ j. j.entries ≡ entries_under j.number order) r.joined
  pub no_other : (number : ℕ) → number ≢ r.number → (TookIn number r → ⊥)
      → entries_under number order ≡ []
