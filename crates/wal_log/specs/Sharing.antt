-- Which of several passes have a log's numbers, by their views.
use Rattle.std.specs.Prelude.{◌⊎◌, ℕ, ◌<◌, Any, List, length, slice_index_or}
use Rattle.machine_laws.specs.SharedOrders.{HasNumber}
use Rattle.wal_rule.specs.Closing.{KeepsNumbers}
use Rattle.machine_state.specs.Views.{View}

-- one of these passes has a number
abbrev pub SomeHas : ℕ → List View → Type 0
SomeHas number views = Any (λ v. HasNumber number v.reserving) views

-- each number of a log is this pass's or one of the others'
abbrev pub ShareNumbers : ℕ → View → List View → Type 0
ShareNumbers passes v others = (number : ℕ) → number < passes
    → HasNumber number v.reserving ⊎ SomeHas number others

-- each pass keeps its numbers
abbrev pub KeepEach : List View → List View → Type 0
KeepEach old new = (k : ℕ) (d : View) → k < length old
    → KeepsNumbers (slice_index_or old k d) (slice_index_or new k d)
