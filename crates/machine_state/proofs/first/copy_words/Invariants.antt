-- The words below the next one are copied; no other word changed.
use Rattle.std.proofs.Common.{◌≡◌, ℕ, ◌+◌, ◌<◌, ◌≤◌, List, length, slice_index}
use Rattle.wal_spelling.specs.Spelling.{word_at}
use Rattle.machine_state.proofs.first.copy_words.Given as goal

-- after some turns: `old` are the words before, `new` those now
pub record HaveWords (to place : ℕ) (page old new : List ℕ) : Type 0 where
  pub length_is : length new ≡ length old
  pub copied : (j : ℕ) → j < place → slice_index new (to + j) ≡ word_at page j
  pub below : (n : ℕ) → n < to → slice_index new n ≡ slice_index old n
  pub above : (n : ℕ) → to + place ≤ n → slice_index new n ≡ slice_index old n

abbrev pub invariant-loop-place : goal.invariant-loop-place
invariant-loop-place l = HaveWords l.to l.place l.page l.initial.words l.words
