-- What a step leaves behind it, and the parts of the invariant that speak of locks and turns, in
-- one state.
use Rattle.std.specs.Prelude.{◌≡◌, ℕ, ◌≤◌, List, [], ◌∷◌, ◌++◌, ◌+◌, length, map, set, slice_index, ◌==◌, if◌then◌else◌}
use mathlib.Core.Option.{Option}
use Rattle.byte_position.specs.Geometry.{IsSegmentSize}
use Rattle.segment_disk.specs.Tape.{create_call, sync_call, write_call}
use Rattle.wal_page.specs.Order.{Entry}
use Rattle.machine_state.specs.Words.{lock_word, mapping_turn, write_turn, word_count, end_form, order_end, Opening}
use Rattle.machine_state.specs.Views.{HasAt, Stored, Stage, Away, Taken, Looked, Ready, Zeroing, Published, Plain, View, working_of, watching_of, mapper_of, writer_of}
use Rattle.machine_state.specs.Locked.{AreHeld, ProgressHolds, IsMappingTurn, IsWriteTurn}
use Rattle.machine_state.specs.Watched.{WatchHolds}
use Rattle.machine_state.specs.Moves.{entry_reserved, looked, ready, after_create, after_write, after_sync}
use Rattle.machine_state.specs.Steps.{StepKind, store_position, take_mapping_turn, load_initialised_end, load_written, clear_end, zero_ring_word, publish_end, publish_initialised_end, release_mapping_turn, create, write, sync, word_of_step, value_behind, view_behind, place_at, page_mapped, words_zeroed}

-- ---- the state behind a step of a view

abbrev pub words_behind : List ℕ → View → StepKind → List ℕ
words_behind words v e = set words (word_of_step v e)
    (value_behind v e (slice_index words (word_of_step v e)))

abbrev pub view_left : List ℕ → Option Plain → View → StepKind → View
view_left words home v e = view_behind v e (slice_index words (word_of_step v e)) home

abbrev pub views_behind : List ℕ → Option Plain → List View → ℕ → View → StepKind → List View
views_behind words home views id v e = set views id (view_left words home v e)

-- the order, which the store of the position behind a record makes longer by its entry
abbrev pub order_behind : View → StepKind → List Entry → List Entry
order_behind v (store_position locks value) order = order
    ++ entry_reserved (v.reserving).number (place_at v (v.reserving).place) value ∷ []
order_behind v other order = order

-- ---- what is said of locks, of what they tell, and of those who watch them

pub record WorksHold (opening : Opening) (order : List Entry) (words : List ℕ) (views : List View)
    : Type 0 where
  pub held : AreHeld (lock_word words) (map working_of views)
  pub told : ProgressHolds opening.setup.seg_size
      (end_form opening.setup (order_end opening order)) (lock_word words)
      (map working_of views)
  pub watched : WatchHolds opening.setup.seg_size
      (end_form opening.setup (order_end opening order)) (map working_of views)
      (map watching_of views)

-- what a step of a view rests on: the view is there, with what is fixed; it has seen no more than
-- is reserved; and what it is about to reserve begins where the order ends
pub record StepsFrom (opening : Opening) (order : List Entry) (words : List ℕ) (views : List View)
    (id : ℕ) (v : View) : Type 0 where
  pub here : HasAt views id v
  pub size : IsSegmentSize opening.setup.seg_size
  pub wide : length words ≡ word_count opening.setup
  pub setup_is : (v.opening).setup ≡ opening.setup
  pub seen : (v.reserving).seen ≤ order_end opening order
  pub starts : (at prev : ℕ) → (v.reserving).place ≡ Stored at prev
      → at ≡ order_end opening order

-- ---- what is said of the two turns

-- a view that has no turn does not move it
abbrev pub moved : Stage → Stage → Stage → Stage
moved Away stage next = stage
moved Taken stage next = next
moved (Looked at) stage next = next
moved (Ready at written) stage next = next
moved (Zeroing at count) stage next = next
moved (Published at) stage next = next

module _ (v : View) where
  -- how far the mapper is behind a step of this view, where the number met is `met`
  abbrev pub stage_behind : StepKind → ℕ → Stage → Stage
  stage_behind take_mapping_turn met stage = if met == 0 then Taken else stage
  stage_behind load_initialised_end met stage = moved (v.mapping).stage stage (looked met stage)
  stage_behind load_written met stage = moved (v.mapping).stage stage (ready met stage)
  stage_behind clear_end met stage = Zeroing (page_mapped (v.mapping).stage) 0
  stage_behind zero_ring_word met stage =
      Zeroing (page_mapped (v.mapping).stage) (words_zeroed (v.mapping).stage + 1)
  stage_behind publish_end met stage = Published (page_mapped (v.mapping).stage)
  stage_behind publish_initialised_end met stage = Taken
  stage_behind release_mapping_turn met stage = Away
  stage_behind other met stage = stage

  -- the writer, which the calls of the device change
  abbrev pub writer_behind : StepKind → Plain → Plain
  writer_behind (create segment outcome) writer = after_create segment
      (create_call ((v.opening).setup).seg_size segment) outcome writer
  writer_behind (write segment page upto bytes outcome) writer = after_write segment upto
      (write_call ((v.opening).setup).seg_size segment page bytes) outcome writer
  writer_behind (sync segment outcome) writer =
      after_sync (sync_call ((v.opening).setup).seg_size segment) outcome writer
  writer_behind other writer = writer

pub record TurnsHold (words : List ℕ) (home : Option Plain) (stage : Stage) (writer : Plain)
    (views : List View) : Type 0 where
  pub mapping : IsMappingTurn (mapping_turn words) stage (map mapper_of views)
  pub writing : IsWriteTurn (write_turn words) home writer (map writer_of views)
