-- Words for the laws of insertion locks and of those who watch them.
use Rattle.std.specs.Prelude.{◌≡◌, ◌≢◌, ℕ, ◌<◌, []}
use Rattle.machine_state.specs.Views.{Landed, Watching, Working}

-- a view that holds no lock and copies nothing
abbrev pub idle : Working
idle = record { locks = []; flight = Landed }

-- one that watches nothing
abbrev pub unwatching : Watching
unwatching = record { end = 0; visited = 0; bound = 0 }

-- of the locks' words none changes but this lock's
abbrev pub ChangesAt : (ℕ → ℕ) → (ℕ → ℕ) → ℕ → Type 0
ChangesAt lock later i = (j : ℕ) → j < 8 → j ≢ i → later j ≡ lock j
