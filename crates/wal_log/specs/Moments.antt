-- A moment that a call tells is the moment word's.
use Rattle.std.specs.Prelude.{◌≡◌, ◌⊎◌, ℕ, ◌≤◌}
use Rattle.machine_state.specs.Steps.{StepKind, load_moment, store_moment, value_behind, MayStep}
use Rattle.machine_state.specs.Views.{View}
use Rattle.machine_state.specs.Words.{flushed_word, moment_word}
use Rattle.wal_rule.specs.Stepping.{Meets, Stands}
use Rattle.wal_log.specs.Standing.{KeepsPass}

-- a pass with this view, which stands in a state that the rule allows, stores this number at a step
-- of a kind
pub record Stores (v : View) (e : StepKind) (value : ℕ) : Type 0 where
  pub stands : ∥ Stands v ∥₁
  pub may : MayStep v e
  pub value_is : value ≡ value_behind v e 0

-- in a call before which its pass had this view, and behind which it has that one, it met this
-- moment in the moment word, or stored it there with the writer in hand
pub record HasMoment (old new : View) (moment : ℕ) : Type 0 where
  pub view : View
  pub since : KeepsPass old view
  pub until : KeepsPass view new
  pub word : Meets view load_moment moment ⊎ Stores view store_moment moment

-- wherever a pass stands with this view, the flushed address and the moment have reached these
abbrev pub HaveReached : (upto moment : ℕ) → View → Type 0
HaveReached upto moment v =
    (s : Stands v) → (upto ≤ flushed_word s.words) × (moment ≤ moment_word s.words)
