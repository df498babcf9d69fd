-- Steps that move no writer and call no device: they leave the writer where it is, and what a pass
-- knows behind one is the same wherever that is.
use Rattle.std.proofs.Common.{◌≡◌, ℕ, refl}
use mathlib.Core.Option.{Option}
use Rattle.machine_state.specs.Views.{Plain, View}
use Rattle.machine_state.specs.Steps.{StepKind, home_behind, view_behind, load_position, take_write_turn, slot_out, slot_in, release_write_turn, lock_position, load_prev, store_prev, store_position, give_position_back, stay, load_lock, take_lock, advance, release, load_buffer_end, store_ring_word, load_ring_word, load_written, load_flushed, load_moment, load_down, store_written, store_moment, store_flushed, set_down, load_async, raise_async, take_mapping_turn, load_initialised_end, clear_end, zero_ring_word, publish_end, publish_initialised_end, release_mapping_turn, create, write, sync}
use Rattle.wal_rule.specs.Stepping.{IsQuiet}

pub home_on : (v : View) (e : StepKind) → IsQuiet e → (home : Option Plain)
    → home ≡ home_behind v e home
home_on v load_position quiet home = refl
home_on v take_write_turn quiet home = refl
home_on v slot_out quiet home = absurd quiet
home_on v slot_in quiet home = absurd quiet
home_on v release_write_turn quiet home = refl
home_on v (lock_position expected) quiet home = refl
home_on v load_prev quiet home = refl
home_on v store_prev quiet home = refl
home_on v (store_position locks value) quiet home = refl
home_on v (give_position_back value) quiet home = refl
home_on v stay quiet home = refl
home_on v (load_lock lock limit) quiet home = refl
home_on v (take_lock lock) quiet home = refl
home_on v (advance lock upto) quiet home = refl
home_on v (release lock) quiet home = refl
home_on v (load_buffer_end buffer) quiet home = refl
home_on v store_ring_word quiet home = refl
home_on v (load_ring_word k) quiet home = refl
home_on v load_written quiet home = refl
home_on v load_flushed quiet home = refl
home_on v load_moment quiet home = refl
home_on v load_down quiet home = refl
home_on v store_written quiet home = refl
home_on v store_moment quiet home = refl
home_on v store_flushed quiet home = refl
home_on v set_down quiet home = refl
home_on v load_async quiet home = refl
home_on v (raise_async expected upto) quiet home = refl
home_on v take_mapping_turn quiet home = refl
home_on v load_initialised_end quiet home = refl
home_on v clear_end quiet home = refl
home_on v zero_ring_word quiet home = refl
home_on v publish_end quiet home = refl
home_on v publish_initialised_end quiet home = refl
home_on v release_mapping_turn quiet home = refl
home_on v (create segment outcome) quiet home = absurd quiet
home_on v (write segment page upto bytes outcome) quiet home = absurd quiet
home_on v (sync segment outcome) quiet home = absurd quiet

pub quiet_behind : (v : View) (e : StepKind) → IsQuiet e → (met : ℕ) (home other : Option Plain)
    → view_behind v e met other ≡ view_behind v e met home
quiet_behind v load_position quiet met home other = refl
quiet_behind v take_write_turn quiet met home other = refl
quiet_behind v slot_out quiet met home other = absurd quiet
quiet_behind v slot_in quiet met home other = absurd quiet
quiet_behind v release_write_turn quiet met home other = refl
quiet_behind v (lock_position expected) quiet met home other = refl
quiet_behind v load_prev quiet met home other = refl
quiet_behind v store_prev quiet met home other = refl
quiet_behind v (store_position locks value) quiet met home other = refl
quiet_behind v (give_position_back value) quiet met home other = refl
quiet_behind v stay quiet met home other = refl
quiet_behind v (load_lock lock limit) quiet met home other = refl
quiet_behind v (take_lock lock) quiet met home other = refl
quiet_behind v (advance lock upto) quiet met home other = refl
quiet_behind v (release lock) quiet met home other = refl
quiet_behind v (load_buffer_end buffer) quiet met home other = refl
quiet_behind v store_ring_word quiet met home other = refl
quiet_behind v (load_ring_word k) quiet met home other = refl
quiet_behind v load_written quiet met home other = refl
quiet_behind v load_flushed quiet met home other = refl
quiet_behind v load_moment quiet met home other = refl
quiet_behind v load_down quiet met home other = refl
quiet_behind v store_written quiet met home other = refl
quiet_behind v store_moment quiet met home other = refl
quiet_behind v store_flushed quiet met home other = refl
quiet_behind v set_down quiet met home other = refl
quiet_behind v load_async quiet met home other = refl
quiet_behind v (raise_async expected upto) quiet met home other = refl
quiet_behind v take_mapping_turn quiet met home other = refl
quiet_behind v load_initialised_end quiet met home other = refl
quiet_behind v clear_end quiet met home other = refl
quiet_behind v zero_ring_word quiet met home other = refl
quiet_behind v publish_end quiet met home other = refl
quiet_behind v publish_initialised_end quiet met home other = refl
quiet_behind v release_mapping_turn quiet met home other = refl
quiet_behind v (create segment outcome) quiet met home other = absurd quiet
quiet_behind v (write segment page upto bytes outcome) quiet met home other = absurd quiet
quiet_behind v (sync segment outcome) quiet met home other = absurd quiet
