-- Only with the writer in hand is the down word set.
use Rattle.std.proofs.Common.{◌≡◌, ◌≢◌, ◌⊎◌, inl, inr, ℕ, ◌<◌, List, Contains, set, slice_index, ap, arith}
use Rattle.machine_state.specs.Words.{down_word, down_number}
use Rattle.machine_state.specs.Views.{Lent, Out, View}
use Rattle.machine_state.specs.Steps.{StepKind, MayStep, word_of_step, value_behind, load_position, take_write_turn, slot_out, slot_in, release_write_turn, lock_position, load_prev, store_prev, store_position, give_position_back, stay, load_lock, take_lock, advance, release, load_buffer_end, store_ring_word, load_ring_word, load_written, load_flushed, load_moment, load_down, store_written, store_moment, store_flushed, set_down, load_async, raise_async, take_mapping_turn, load_initialised_end, clear_end, zero_ring_word, publish_end, publish_initialised_end, release_mapping_turn, create, write, sync}
use Rattle.machine_state.proofs.WordLists.{word_again, word_else}

module _ (words : List ℕ) (v : View) where
  abbrev later : StepKind → List ℕ
  later e = let met = slice_index words (word_of_step v e) in
      set words (word_of_step v e) (value_behind v e met)

  abbrev pub IsStill : StepKind → Type 0
  IsStill e = (down_word (later e) ≡ down_word words)
      ⊎ ((l : Lent) × ((v.writing).hold ≡ Out l))

  other : (e : StepKind) → down_number ≢ word_of_step v e → IsStill e
  other e apart = inl (word_else words (word_of_step v e) _ down_number apart)

  pub down_still : ((i : ℕ) → Contains (v.working).locks i → i < 8) → (e : StepKind) → MayStep v e
      → IsStill e
  down_still low load_position may = other load_position (λ e. omega arith)
  down_still low take_write_turn may = other take_write_turn (λ e. omega arith)
  down_still low slot_out may = other slot_out (λ e. omega arith)
  down_still low slot_in may = other slot_in (λ e. omega arith)
  down_still low release_write_turn may = other release_write_turn (λ e. omega arith)
  down_still low (lock_position expected) may = other (lock_position expected) (λ e. omega arith)
  down_still low load_prev may = other load_prev (λ e. omega arith)
  down_still low store_prev may = other store_prev (λ e. omega arith)
  down_still low (store_position lock value) may =
      other (store_position lock value) (λ e. omega arith)
  down_still low (give_position_back value) may =
      other (give_position_back value) (λ e. omega arith)
  down_still low stay may = other stay (λ e. omega arith)
  down_still low (load_lock lock limit) may =
      other (load_lock lock limit) (λ e. omega (arith, may))
  down_still low (take_lock lock) may = other (take_lock lock) (λ e. omega (arith, may))
  down_still low (advance lock upto) may =
      let held = low lock may.0 in other (advance lock upto) (λ e. omega arith)
  down_still low (release lock) may =
      let held = low lock may.0 in other (release lock) (λ e. omega arith)
  down_still low (load_buffer_end buffer) may = other (load_buffer_end buffer) (λ e. omega arith)
  down_still low store_ring_word may = other store_ring_word (λ e. omega arith)
  down_still low (load_ring_word number) may = other (load_ring_word number) (λ e. omega arith)
  down_still low load_written may = other load_written (λ e. omega arith)
  down_still low load_flushed may = other load_flushed (λ e. omega arith)
  down_still low load_moment may = other load_moment (λ e. omega arith)
  down_still low load_down may =
      inl (ap (λ (ws : List ℕ). down_word ws) (word_again words down_number))
  down_still low store_written may = other store_written (λ e. omega arith)
  down_still low store_moment may = other store_moment (λ e. omega arith)
  down_still low store_flushed may = other store_flushed (λ e. omega arith)
  down_still low set_down may = inr (may.0, may.1)
  down_still low load_async may = other load_async (λ e. omega arith)
  down_still low (raise_async expected upto) may =
      other (raise_async expected upto) (λ e. omega arith)
  down_still low take_mapping_turn may = other take_mapping_turn (λ e. omega arith)
  down_still low load_initialised_end may = other load_initialised_end (λ e. omega arith)
  down_still low clear_end may = other clear_end (λ e. omega arith)
  down_still low zero_ring_word may = other zero_ring_word (λ e. omega arith)
  down_still low publish_end may = other publish_end (λ e. omega arith)
  down_still low publish_initialised_end may = other publish_initialised_end (λ e. omega arith)
  down_still low release_mapping_turn may = other release_mapping_turn (λ e. omega arith)
  down_still low (create segment outcome) may = other (create segment outcome) (λ e. omega arith)
  down_still low (write segment page upto bytes outcome) may =
      other (write segment page upto bytes outcome) (λ e. omega arith)
  down_still low (sync segment outcome) may = other (sync segment outcome) (λ e. omega arith)
