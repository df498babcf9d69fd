-- The buffers below the next one hold their pages; no other word changed.
use Rattle.std.proofs.Common.{◌≡◌, ℕ, ◌+◌, ◌<◌, ◌≤◌, List, length, slice_index}
use Rattle.machine_state.specs.Words.{ends_number}
use Rattle.machine_state.specs.Paged.{HoldsPage}
use Rattle.machine_state.proofs.first.hold_pages.Given as goal

-- after some turns: `old` are the words before, `new` those now
pub record HaveEnds (pages first buffer : ℕ) (old new : List ℕ) : Type 0 where
  pub length_is : length new ≡ length old
  pub ends : (b : ℕ) → b < buffer
      → HoldsPage pages first (first + pages) b (slice_index new (ends_number + b))
  pub below : (n : ℕ) → n < ends_number → slice_index new n ≡ slice_index old n
  pub above : (n : ℕ) → ends_number + buffer ≤ n → slice_index new n ≡ slice_index old n

abbrev pub invariant-loop-buffer : goal.invariant-loop-buffer
invariant-loop-buffer l = HaveEnds l.pages l.first l.buffer l.initial.words l.words
