-- The written and flushed ends.
use Rattle.std.specs.Prelude.{ℕ, ◌+◌, ◌*◌, ◌<◌, ◌≤◌, All, List, length}
use Rattle.machine_state.specs.Words.{flushed_word, written_word}
use Rattle.machine_turns.specs.declared.view.PlainFlight.{PlainFlight}
use Rattle.machine_turns.specs.declared.view.PlainFlight.TheVariants.{Landed, Copying}
use Rattle.machine_tests.specs.declared.moment.BackendNow.{BackendNow}

-- no word below an address is still to be copied by a backend
abbrev pub HasCopiedBelow : ℕ → PlainFlight → Type 0
HasCopiedBelow address Landed = Unit {0}
HasCopiedBelow address (Copying start prev next end) = next < end → address ≤ next

-- The log's first address, what is flushed, what is written and the end of the last record rise,
-- and no word below what is written is still to be copied
pub record PositionsAgree (first : ℕ) (words log : List ℕ) (backends : List BackendNow) : Type 0
  where
    pub begun : first ≤ flushed_word words
    pub flushed : flushed_word words ≤ written_word words
    pub reserved : written_word words ≤ first + 8 * length log
    pub copied : All (λ b. HasCopiedBelow (written_word words) b.view.flight) backends
