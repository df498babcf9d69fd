-- The words below the next one lie at their places.
use Rattle.std.proofs.Common.{◌≡◌, ℕ, ◌<◌, List, length, slice_index}
use Rattle.wal_rule.specs.WordPlaces.{words_of}
use Rattle.wal_rule.proofs.memory.lay_out.Given as goal

-- after some turns: `before` is the memory before, `memory` that now
pub record HaveLaidOut (number : ℕ) (words before memory : List ℕ) : Type 0 where
  pub length_is : length memory ≡ length before
  pub laid : (n : ℕ) → n < number → slice_index (words_of memory) n ≡ slice_index words n

abbrev pub invariant-loop-number : goal.invariant-loop-number
invariant-loop-number l = HaveLaidOut l.number l.words l.initial.memory l.memory
