-- A view that steps keeps its pass's number.
use Rattle.std.proofs.Common.{◌≡◌, ℕ, Bool, true, false, cond, eqb, refl}
use mathlib.Core.Option.{Option, none, some}
use Rattle.machine_state.specs.Views.{Place, Free, Locked, Loaded, Stored, StopCause, LogFull, AtSegmentStart, Plain, Hold, Idle, Turned, Out, Taken, View}
use Rattle.machine_state.specs.Moves.{with_hold, with_place, with_stage, after_load_prev, after_store_prev, after_store_position, after_stop}
use Rattle.machine_state.specs.Steps.{StepKind, view_behind, with_slot, with_call_on, load_position, take_write_turn, slot_out, slot_in, release_write_turn, lock_position, load_prev, store_prev, store_position, give_position_back, stay, load_lock, take_lock, advance, release, load_buffer_end, store_ring_word, load_ring_word, load_written, load_flushed, load_moment, load_down, store_written, store_moment, store_flushed, set_down, load_async, raise_async, take_mapping_turn, load_initialised_end, clear_end, zero_ring_word, publish_end, publish_initialised_end, release_mapping_turn, create, write, sync}

abbrev number_in : View → ℕ
number_in v = (v.reserving).number

-- one of two views
either_number : (b : Bool) (x y : View) → number_in x ≡ number_in y → number_in (cond b x y) ≡ number_in y
either_number true x y same = same
either_number false x y same = refl

by_place : (f : View → View) (v : View)
    → ((p : Place) → number_in (f (with_place p v)) ≡ number_in v) → number_in (f v) ≡ number_in v
by_place f v each = each (v.reserving).place

slot_number : (v : View) (home : Option Plain) → number_in (with_slot v home) ≡ number_in v
slot_number v none = refl
slot_number v (some writer) = refl

call_number : (v : View) (f : Plain → Plain) (hold : Hold)
    → number_in (with_call_on v f hold) ≡ number_in v
call_number v f Idle = refl
call_number v f Turned = refl
call_number v f (Out l) = refl

prev_loaded : (met : ℕ) (v : View) (p : Place)
    → number_in (after_load_prev met (with_place p v)) ≡ number_in v
prev_loaded met v Free = refl
prev_loaded met v (Locked at) = refl
prev_loaded met v (Loaded at prev) = refl
prev_loaded met v (Stored at prev) = refl

prev_stored : (v : View) (p : Place) → number_in (after_store_prev (with_place p v)) ≡ number_in v
prev_stored v Free = refl
prev_stored v (Locked at) = refl
prev_stored v (Loaded at prev) = refl
prev_stored v (Stored at prev) = refl

stopped : (cause : StopCause) (v : View) (p : Place)
    → number_in (after_stop cause (with_place p v)) ≡ number_in v
stopped cause v Free = refl
stopped cause v (Locked at) = refl
stopped cause v (Loaded at prev) = refl
stopped cause v (Stored at prev) = refl

module _ (v : View) (met : ℕ) (home : Option Plain) where
  pub number_stays : (e : StepKind) → number_in (view_behind v e met home) ≡ number_in v
  number_stays load_position = refl
  number_stays take_write_turn = either_number (eqb met 0) (with_hold Turned v) v refl
  number_stays slot_out = slot_number v home
  number_stays slot_in = refl
  number_stays release_write_turn = refl
  number_stays (lock_position expected) =
      either_number (eqb met expected) (with_place (Locked expected) v) v refl
  number_stays load_prev = by_place (after_load_prev met) v (prev_loaded met v)
  number_stays store_prev = by_place after_store_prev v (prev_stored v)
  number_stays (store_position locks value) =
      by_place (after_store_position locks value) v position_stored
    where
      position_stored : (p : Place)
          → number_in (after_store_position locks value (with_place p v)) ≡ number_in v
      position_stored Free = refl
      position_stored (Locked at) = refl
      position_stored (Loaded at prev) = refl
      position_stored (Stored at prev) = refl
  number_stays (give_position_back value) = by_place (after_stop LogFull) v (stopped LogFull v)
  number_stays stay = by_place (after_stop AtSegmentStart) v (stopped AtSegmentStart v)
  number_stays (load_lock lock limit) = refl
  number_stays (take_lock lock) = either_number (eqb met 0) _ v refl
  number_stays (advance lock upto) = refl
  number_stays (release lock) = refl
  number_stays (load_buffer_end buffer) = refl
  number_stays store_ring_word = refl
  number_stays (load_ring_word number) = refl
  number_stays load_written = refl
  number_stays load_flushed = refl
  number_stays load_moment = refl
  number_stays load_down = refl
  number_stays store_written = refl
  number_stays store_moment = refl
  number_stays store_flushed = refl
  number_stays set_down = refl
  number_stays load_async = refl
  number_stays (raise_async expected upto) = refl
  number_stays take_mapping_turn = either_number (eqb met 0) (with_stage Taken v) v refl
  number_stays load_initialised_end = refl
  number_stays clear_end = refl
  number_stays zero_ring_word = refl
  number_stays publish_end = refl
  number_stays publish_initialised_end = refl
  number_stays release_mapping_turn = refl
  number_stays (create segment outcome) = call_number v _ (v.writing).hold
  number_stays (write segment page upto bytes outcome) = call_number v _ (v.writing).hold
  number_stays (sync segment outcome) = call_number v _ (v.writing).hold
