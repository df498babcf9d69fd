-- No step changes what is fixed of its pass's log, whether the pass is live, or its number.
use Rattle.std.specs.Prelude.{if◌then◌else◌}
use Rattle.std.proofs.Common.{◌≡◌, ℕ, Bool, true, false, List, ◌==◌, refl}
use mathlib.Core.Option.{Option}
use Rattle.wal_types.specs.declared.record.Record.{Record}
use Rattle.machine_state.specs.Views.{Place, Free, Locked, Loaded, Stored, Plain, View}
use Rattle.machine_state.specs.Steps.{StepKind, view_behind, load_position, take_write_turn, slot_out, slot_in, release_write_turn, lock_position, load_prev, store_prev, store_position, give_position_back, stay, load_lock, take_lock, advance, release, load_buffer_end, store_ring_word, load_ring_word, load_written, load_flushed, load_moment, load_down, store_written, store_moment, store_flushed, set_down, load_async, raise_async, take_mapping_turn, load_initialised_end, clear_end, zero_ring_word, publish_end, publish_initialised_end, release_mapping_turn, create, write, sync}
use Rattle.wal_rule.specs.Stepping.{IsQuiet}

-- two views are of one log and one pass, and both are live or neither is
abbrev IsSteady : View → View → Type 0
IsSteady v w = (w.opening ≡ v.opening) × ((w.reserving).live ≡ (v.reserving).live)
    × ((w.reserving).number ≡ (v.reserving).number)

either_steady : (v w : View) (b : Bool) → IsSteady v w → IsSteady v (if b then w else v)
either_steady v w true is = is
either_steady v w false is = (refl, refl, refl)

abbrev at_place : Place → View → View
at_place place v = record v { reserving = record v.reserving { place = place } }

placed_load_prev : (v : View) (p : Place) (met : ℕ) (home : Option Plain)
    → IsSteady (at_place p v) (view_behind (at_place p v) load_prev met home)
placed_load_prev v Free met home = (refl, refl, refl)
placed_load_prev v (Locked at) met home = (refl, refl, refl)
placed_load_prev v (Loaded at prev) met home = (refl, refl, refl)
placed_load_prev v (Stored at prev) met home = (refl, refl, refl)

placed_store_prev : (v : View) (p : Place) (met : ℕ) (home : Option Plain)
    → IsSteady (at_place p v) (view_behind (at_place p v) store_prev met home)
placed_store_prev v Free met home = (refl, refl, refl)
placed_store_prev v (Locked at) met home = (refl, refl, refl)
placed_store_prev v (Loaded at prev) met home = (refl, refl, refl)
placed_store_prev v (Stored at prev) met home = (refl, refl, refl)

placed_store_position : (v : View) (locks : List ℕ) (value : Record) (p : Place) (met : ℕ) (home : Option Plain)
    → IsSteady (at_place p v) (view_behind (at_place p v) (store_position locks value) met home)
placed_store_position v locks value Free met home = (refl, refl, refl)
placed_store_position v locks value (Locked at) met home = (refl, refl, refl)
placed_store_position v locks value (Loaded at prev) met home = (refl, refl, refl)
placed_store_position v locks value (Stored at prev) met home = (refl, refl, refl)

placed_give_position_back : (v : View) (value : Record) (p : Place) (met : ℕ) (home : Option Plain)
    → IsSteady (at_place p v) (view_behind (at_place p v) (give_position_back value) met home)
placed_give_position_back v value Free met home = (refl, refl, refl)
placed_give_position_back v value (Locked at) met home = (refl, refl, refl)
placed_give_position_back v value (Loaded at prev) met home = (refl, refl, refl)
placed_give_position_back v value (Stored at prev) met home = (refl, refl, refl)

placed_stay : (v : View) (p : Place) (met : ℕ) (home : Option Plain)
    → IsSteady (at_place p v) (view_behind (at_place p v) stay met home)
placed_stay v Free met home = (refl, refl, refl)
placed_stay v (Locked at) met home = (refl, refl, refl)
placed_stay v (Loaded at prev) met home = (refl, refl, refl)
placed_stay v (Stored at prev) met home = (refl, refl, refl)

pub steady : (v : View) (e : StepKind) → IsQuiet e → (met : ℕ) (home : Option Plain)
    → IsSteady v (view_behind v e met home)
steady v load_position quiet met home = (refl, refl, refl)
steady v take_write_turn quiet met home = either_steady v _ (met == 0) (refl, refl, refl)
steady v slot_out quiet met home = absurd quiet
steady v slot_in quiet met home = absurd quiet
steady v release_write_turn quiet met home = (refl, refl, refl)
steady v (lock_position expected) quiet met home = either_steady v _ (met == expected) (refl, refl, refl)
steady v load_prev quiet met home = placed_load_prev v (v.reserving).place met home
steady v store_prev quiet met home = placed_store_prev v (v.reserving).place met home
steady v (store_position locks value) quiet met home = placed_store_position v locks value (v.reserving).place met home
steady v (give_position_back value) quiet met home = placed_give_position_back v value (v.reserving).place met home
steady v stay quiet met home = placed_stay v (v.reserving).place met home
steady v (load_lock lock limit) quiet met home = (refl, refl, refl)
steady v (take_lock lock) quiet met home = either_steady v _ (met == 0) (refl, refl, refl)
steady v (advance lock upto) quiet met home = (refl, refl, refl)
steady v (release lock) quiet met home = (refl, refl, refl)
steady v (load_buffer_end buffer) quiet met home = (refl, refl, refl)
steady v store_ring_word quiet met home = (refl, refl, refl)
steady v (load_ring_word k) quiet met home = (refl, refl, refl)
steady v load_written quiet met home = (refl, refl, refl)
steady v load_flushed quiet met home = (refl, refl, refl)
steady v load_moment quiet met home = (refl, refl, refl)
steady v load_down quiet met home = (refl, refl, refl)
steady v store_written quiet met home = (refl, refl, refl)
steady v store_moment quiet met home = (refl, refl, refl)
steady v store_flushed quiet met home = (refl, refl, refl)
steady v set_down quiet met home = (refl, refl, refl)
steady v load_async quiet met home = (refl, refl, refl)
steady v (raise_async expected upto) quiet met home = (refl, refl, refl)
steady v take_mapping_turn quiet met home = either_steady v _ (met == 0) (refl, refl, refl)
steady v load_initialised_end quiet met home = (refl, refl, refl)
steady v clear_end quiet met home = (refl, refl, refl)
steady v zero_ring_word quiet met home = (refl, refl, refl)
steady v publish_end quiet met home = (refl, refl, refl)
steady v publish_initialised_end quiet met home = (refl, refl, refl)
steady v release_mapping_turn quiet met home = (refl, refl, refl)
steady v (create segment outcome) quiet met home = absurd quiet
steady v (write segment page upto bytes outcome) quiet met home = absurd quiet
steady v (sync segment outcome) quiet met home = absurd quiet
