-- The kinds of steps that leave what is said of ring and pages.
use Rattle.machine_state.specs.Steps.{StepKind, store_position, release, load_buffer_end, store_ring_word, load_written, store_written, take_mapping_turn, load_initialised_end, clear_end, zero_ring_word, publish_end, publish_initialised_end, release_mapping_turn}

-- those that leave each copy as it is
abbrev pub LeavesCopies : StepKind → Type 0
LeavesCopies (store_position locks value) = ⊥
LeavesCopies (release lock) = ⊥
LeavesCopies store_ring_word = ⊥
LeavesCopies other = Unit {0}

-- those that leave each end that was met, how far a mapper is, and each word that is said of pages
abbrev pub LeavesPages : StepKind → Type 0
LeavesPages (load_buffer_end buffer) = ⊥
LeavesPages store_ring_word = ⊥
LeavesPages load_written = ⊥
LeavesPages store_written = ⊥
LeavesPages take_mapping_turn = ⊥
LeavesPages load_initialised_end = ⊥
LeavesPages clear_end = ⊥
LeavesPages zero_ring_word = ⊥
LeavesPages publish_end = ⊥
LeavesPages publish_initialised_end = ⊥
LeavesPages release_mapping_turn = ⊥
LeavesPages other = Unit {0}
