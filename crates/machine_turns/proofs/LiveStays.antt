-- A view that steps stays live.
use Rattle.std.proofs.Common.{◌≡◌, ℕ, Bool, true, false, cond, eqb, refl}
use mathlib.Core.Option.{Option, none, some}
use Rattle.machine_state.specs.Views.{Place, Free, Locked, Loaded, Stored, StopCause, LogFull, AtSegmentStart, Plain, Hold, Idle, Turned, Out, Taken, View}
use Rattle.machine_state.specs.Moves.{with_hold, with_place, with_stage, after_load_prev, after_store_prev, after_store_position, after_stop}
use Rattle.machine_state.specs.Steps.{StepKind, view_behind, with_slot, with_call_on, load_position, take_write_turn, slot_out, slot_in, release_write_turn, lock_position, load_prev, store_prev, store_position, give_position_back, stay, load_lock, take_lock, advance, release, load_buffer_end, store_ring_word, load_ring_word, load_written, load_flushed, load_moment, load_down, store_written, store_moment, store_flushed, set_down, load_async, raise_async, take_mapping_turn, load_initialised_end, clear_end, zero_ring_word, publish_end, publish_initialised_end, release_mapping_turn, create, write, sync}

abbrev is_live : View → Bool
is_live v = (v.reserving).live

-- one of two views
either_live : (b : Bool) (x y : View) → is_live x ≡ is_live y → is_live (cond b x y) ≡ is_live y
either_live true x y same = same
either_live false x y same = refl

by_place : (f : View → View) (v : View)
    → ((p : Place) → is_live (f (with_place p v)) ≡ is_live v) → is_live (f v) ≡ is_live v
by_place f v each = each (v.reserving).place

slot_live : (v : View) (home : Option Plain) → is_live (with_slot v home) ≡ is_live v
slot_live v none = refl
slot_live v (some writer) = refl

call_live : (v : View) (f : Plain → Plain) (hold : Hold)
    → is_live (with_call_on v f hold) ≡ is_live v
call_live v f Idle = refl
call_live v f Turned = refl
call_live v f (Out l) = refl

prev_loaded : (met : ℕ) (v : View) (p : Place)
    → is_live (after_load_prev met (with_place p v)) ≡ is_live v
prev_loaded met v Free = refl
prev_loaded met v (Locked at) = refl
prev_loaded met v (Loaded at prev) = refl
prev_loaded met v (Stored at prev) = refl

prev_stored : (v : View) (p : Place) → is_live (after_store_prev (with_place p v)) ≡ is_live v
prev_stored v Free = refl
prev_stored v (Locked at) = refl
prev_stored v (Loaded at prev) = refl
prev_stored v (Stored at prev) = refl

stopped : (cause : StopCause) (v : View) (p : Place)
    → is_live (after_stop cause (with_place p v)) ≡ is_live v
stopped cause v Free = refl
stopped cause v (Locked at) = refl
stopped cause v (Loaded at prev) = refl
stopped cause v (Stored at prev) = refl

module _ (v : View) (met : ℕ) (home : Option Plain) where
  pub live_stays : (e : StepKind) → is_live (view_behind v e met home) ≡ is_live v
  live_stays load_position = refl
  live_stays take_write_turn = either_live (eqb met 0) (with_hold Turned v) v refl
  live_stays slot_out = slot_live v home
  live_stays slot_in = refl
  live_stays release_write_turn = refl
  live_stays (lock_position expected) =
      either_live (eqb met expected) (with_place (Locked expected) v) v refl
  live_stays load_prev = by_place (after_load_prev met) v (prev_loaded met v)
  live_stays store_prev = by_place after_store_prev v (prev_stored v)
  live_stays (store_position locks value) =
      by_place (after_store_position locks value) v position_stored
    where
      position_stored : (p : Place)
          → is_live (after_store_position locks value (with_place p v)) ≡ is_live v
      position_stored Free = refl
      position_stored (Locked at) = refl
      position_stored (Loaded at prev) = refl
      position_stored (Stored at prev) = refl
  live_stays (give_position_back value) = by_place (after_stop LogFull) v (stopped LogFull v)
  live_stays stay = by_place (after_stop AtSegmentStart) v (stopped AtSegmentStart v)
  live_stays (load_lock lock limit) = refl
  live_stays (take_lock lock) = either_live (eqb met 0) _ v refl
  live_stays (advance lock upto) = refl
  live_stays (release lock) = refl
  live_stays (load_buffer_end buffer) = refl
  live_stays store_ring_word = refl
  live_stays (load_ring_word number) = refl
  live_stays load_written = refl
  live_stays load_flushed = refl
  live_stays load_moment = refl
  live_stays load_down = refl
  live_stays store_written = refl
  live_stays store_moment = refl
  live_stays store_flushed = refl
  live_stays set_down = refl
  live_stays load_async = refl
  live_stays (raise_async expected upto) = refl
  live_stays take_mapping_turn = either_live (eqb met 0) (with_stage Taken v) v refl
  live_stays load_initialised_end = refl
  live_stays clear_end = refl
  live_stays zero_ring_word = refl
  live_stays publish_end = refl
  live_stays publish_initialised_end = refl
  live_stays release_mapping_turn = refl
  live_stays (create segment outcome) = call_live v _ (v.writing).hold
  live_stays (write segment page upto bytes outcome) = call_live v _ (v.writing).hold
  live_stays (sync segment outcome) = call_live v _ (v.writing).hold
