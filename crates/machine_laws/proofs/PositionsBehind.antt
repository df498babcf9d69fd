-- The positions behind a step of any kind.
use Rattle.std.proofs.Common.{◌≡◌, ◌≢◌, ℕ, ◌<◌, true, Contains, List, [], ◌∷◌, ◌++◌, map, set, slice_index, refl, sym, ap, subst, arith, eqb, ⊎_elim, ◌∙◌}
use mathlib.Core.Option.{Option}
use Rattle.wal_page.specs.Order.{Entry}
use Rattle.machine_state.specs.declared.setup.Setup.{Setup}
use Rattle.machine_state.specs.Words.{lock_word, position_word, prev_word, written_word, flushed_word, moment_word, down_word, mapping_turn_number, write_turn_number, written_number, flushed_number, moment_number, down_number, lock_number}
use Rattle.machine_state.specs.Views.{HasAt, Plain, Flight, Writing, Locked, Taken, View, reserving_of, working_of, flight_of, writing_of, receipts_of}
use Rattle.machine_state.specs.Positioned.{PositionsHold}
use Rattle.machine_state.specs.Moves.{with_place, with_stage, with_working}
use Rattle.machine_state.specs.Failed.{KnowsOfFault}
use Rattle.machine_state.specs.Steps.{StepKind, MayStep, word_of_step, home_behind, load_position, take_write_turn, slot_out, slot_in, release_write_turn, lock_position, load_prev, store_prev, store_position, give_position_back, stay, load_lock, take_lock, advance, release, load_buffer_end, store_ring_word, load_ring_word, load_written, load_flushed, load_moment, load_down, store_written, store_moment, store_flushed, set_down, load_async, raise_async, take_mapping_turn, load_initialised_end, clear_end, zero_ring_word, publish_end, publish_initialised_end, release_mapping_turn, create, write, sync}
use Rattle.machine_state.specs.Sound.{IsSound}
use Rattle.machine_state.proofs.Lists.{part_at, part_set}
use Rattle.machine_state.proofs.WordLists.{single_set, word_else, word_again}
use Rattle.machine_laws.specs.PositionParts.{Positions, HasPositions as HasPositionsNow}
use Rattle.machine_laws.proofs.PositionKept as kept
use Rattle.machine_laws.proofs.PositionCalls as calls
use Rattle.machine_laws.specs.LocksBehind.{order_behind, writer_behind}
use Rattle.machine_laws.proofs.Frames.{Moved, moved, later, views_later, same_either, positions_stay}
use Rattle.machine_laws.proofs.KnownViews.{now, has_now, told_here}
use Rattle.segment_disk.specs.Tape.{DiskState}

module _ {first : DiskState} (words : List ℕ) (home : Option Plain) (views : List View) (id : ℕ) (v : View)
    (k : IsSound first v.opening words home views) (here : HasAt views id v)
    (live : (v.reserving).live ≡ true) where
  abbrev setup : Setup
  setup = (v.opening).setup

  module _ (e : StepKind) where
    abbrev s : Moved
    s = moved words home views id v k here e

    -- the positions over the words and views behind
    abbrev pub HasPositions : List Entry → Plain → Type 0
    HasPositions es writer = PositionsHold first v.opening es (written_word (later s))
        (flushed_word (later s)) (down_word (later s)) (home_behind v e home) writer
        (map flight_of (views_later s)) (map writing_of (views_later s))

    -- where the words of which they speak are known
    with_words : (es : List Entry) (writer : Plain) (written flushed down : ℕ)
        → written_word (later s) ≡ written → flushed_word (later s) ≡ flushed
        → down_word (later s) ≡ down
        → PositionsHold first v.opening es written flushed down (home_behind v e home) writer
        (set (map flight_of views) id (flight_of s.w))
        (set (map writing_of views) id (writing_of s.w))
        → HasPositions es writer
    with_words es writer written flushed down is_written is_flushed is_down holds =
        subst (λ (x : ℕ × ℕ × ℕ × List Flight × List Writing).
        PositionsHold first v.opening es x.0 x.1 x.2 (home_behind v e home) writer x.3 x.4)
        (λ j. (
          sym is_written j,
          sym is_flushed j,
          sym is_down j,
          sym (part_set flight_of views id s.w) j,
          sym (part_set writing_of views id s.w) j,
        )) holds

    same : (j : ℕ) → j ≢ s.i → slice_index (later s) j ≡ slice_index words j
    same j apart = word_else words s.i s.n j apart

    -- where none of them is stored
    by_law : (es : List Entry) (writer : Plain) → written_number ≢ s.i → flushed_number ≢ s.i → down_number ≢ s.i
        → PositionsHold first v.opening es (written_word words) (flushed_word words) (down_word words)
        (home_behind v e home) writer (set (map flight_of views) id (flight_of s.w))
        (set (map writing_of views) id (writing_of s.w))
        → HasPositions es writer
    by_law es writer apart_written apart_flushed apart_down holds = with_words es writer
        (written_word words) (flushed_word words) (down_word words) (same written_number apart_written)
        (same flushed_number apart_flushed) (same down_number apart_down) holds

    -- where a load leaves all words
    by_load : (es : List Entry) (writer : Plain) → later s ≡ words
        → PositionsHold first v.opening es (written_word words) (flushed_word words) (down_word words)
        (home_behind v e home) writer (set (map flight_of views) id (flight_of s.w))
        (set (map writing_of views) id (writing_of s.w))
        → HasPositions es writer
    by_load es writer is holds = with_words es writer (written_word words) (flushed_word words)
        (down_word words) (ap written_word is) (ap flushed_word is) (ap down_word is) holds

  abbrev step : StepKind → Moved
  step e = moved words home views id v k here e

  -- what the laws of positions start from
  abbrev p : Positions
  p = now words home views id v k

  known : HasPositionsNow p id v
  known = has_now words home views id v k here

  -- a down value that the view met or set is the word
  pub down_known : KnowsOfFault v → down_word words ≢ 0
  down_known knows none =
      let told = (k.durable).views id (receipts_of v) (told_here words home views id v k here) in
      ⊎_elim (λ met. met (told.down_met met ∙ none)) (λ set. set (told.down_set set ∙ none)) knows

  pub lock_low : (lock : ℕ) → Contains (v.working).locks lock → lock < 8
  lock_low lock has =
      (((k.locks).locks).each id lock v.working (part_at working_of views id v here) has).0

  pub positions_hold : (e : StepKind) → MayStep v e
      → HasPositions e (order_behind v e k.order) (writer_behind v e k.writer)
  positions_hold load_position may = positions_stay (step load_position) refl refl
      (λ e. omega arith) (λ e. omega arith) (λ e. omega arith)
  positions_hold take_write_turn may = by_law take_write_turn k.order k.writer
      (λ e. omega arith) (λ e. omega arith) (λ e. omega arith)
      (kept.take_write_turn_keeps p id v known)
  positions_hold slot_out may = by_law slot_out k.order k.writer
      (λ e. omega arith) (λ e. omega arith) (λ e. omega arith)
      (kept.slot_out_keeps p id v known
      (lock_word words) views refl here (k.locks).locks k.watching may)
  positions_hold slot_in may = by_law slot_in k.order k.writer
      (λ e. omega arith) (λ e. omega arith) (λ e. omega arith)
      (kept.slot_in_keeps p id v known
      (slice_index words write_turn_number) down_known may)
  positions_hold release_write_turn may = by_law release_write_turn k.order k.writer
      (λ e. omega arith) (λ e. omega arith) (λ e. omega arith)
      (kept.release_write_turn_keeps p id v known)
  positions_hold (lock_position expected) may =
      let hit = eqb (slice_index words 0) expected in
      positions_stay (step (lock_position expected))
      (same_either flight_of hit (with_place (Locked expected) v) v refl)
      (same_either writing_of hit (with_place (Locked expected) v) v refl)
      (λ e. omega arith) (λ e. omega arith) (λ e. omega arith)
  positions_hold load_prev may = positions_stay (step load_prev) (rw may.1 refl) (rw may.1 refl)
      (λ e. omega arith) (λ e. omega arith) (λ e. omega arith)
  positions_hold store_prev may = positions_stay (step store_prev) (rw may.2 refl) (rw may.2 refl)
      (λ e. omega arith) (λ e. omega arith) (λ e. omega arith)
  positions_hold (store_position locks value) may = by_law (store_position locks value)
      (order_behind v (store_position locks value) k.order) k.writer
      (λ e. omega arith) (λ e. omega arith) (λ e. omega arith)
      (kept.store_position_keeps p id v known
      (position_word words) (prev_word words) (map reserving_of views) locks value k.reserved
      (part_at reserving_of views id v here) live may)
  positions_hold (give_position_back value) may = positions_stay (step (give_position_back value))
      (rw may.1 refl) (rw may.1 refl) (λ e. omega arith) (λ e. omega arith) (λ e. omega arith)
  positions_hold stay may = positions_stay (step stay)
      (rw may.1 refl) (rw may.1 refl) (λ e. omega arith) (λ e. omega arith) (λ e. omega arith)
  positions_hold (load_lock lock limit) may = positions_stay (step (load_lock lock limit)) refl
      refl (λ e. omega arith) (λ e. omega arith) (λ e. omega arith)
  positions_hold (take_lock lock) may =
      let free = eqb (slice_index words (lock_number lock)) 0 in
      let taken = with_working ((v.working).locks ++ lock ∷ []) (v.working).flight v in
      positions_stay (step (take_lock lock)) (same_either flight_of free taken v refl)
      (same_either writing_of free taken v refl)
      (λ e. omega arith) (λ e. omega arith) (λ e. omega arith)
  positions_hold (advance lock upto) may =
      let low = lock_low lock may.0 in
      positions_stay (step (advance lock upto)) refl refl
      (λ e. omega arith) (λ e. omega arith) (λ e. omega arith)
  positions_hold (release lock) may =
      let low = lock_low lock may.0 in
      by_law (release lock) k.order k.writer
      (λ e. omega arith) (λ e. omega arith) (λ e. omega arith)
      (kept.release_keeps p id v known lock
      (slice_index words (lock_number lock)))
  positions_hold (load_buffer_end buffer) may = positions_stay (step
      (load_buffer_end buffer)) refl refl
      (λ e. omega arith) (λ e. omega arith) (λ e. omega arith)
  positions_hold store_ring_word may = by_law store_ring_word k.order k.writer
      (λ e. omega arith) (λ e. omega arith) (λ e. omega arith)
      (kept.store_word_keeps p id v known
      (slice_index words (word_of_step v store_ring_word)))
  positions_hold (load_ring_word number) may = by_law (load_ring_word number) k.order k.writer
      (λ e. omega arith) (λ e. omega arith) (λ e. omega arith)
      (kept.load_word_keeps p id v known number
      (slice_index words (word_of_step v (load_ring_word number))))
  positions_hold load_written may = by_load load_written k.order k.writer (word_again words written_number)
      (kept.load_written_keeps p id v known)
  positions_hold load_flushed may = by_load load_flushed k.order k.writer (word_again words flushed_number)
      (kept.load_flushed_keeps p id v known)
  positions_hold load_moment may = by_load load_moment k.order k.writer (word_again words moment_number)
      (kept.load_moment_keeps p id v known
      (moment_word words))
  positions_hold load_down may = by_load load_down k.order k.writer (word_again words down_number)
      (kept.load_down_keeps p id v known
      (down_word words))
  positions_hold store_written may = with_words store_written k.order k.writer _
      (flushed_word words) (down_word words)
      (single_set words setup k.wide written_number (step store_written).n (omega arith))
      (same store_written flushed_number (λ e. omega arith)) (same store_written down_number (λ e. omega arith))
      (kept.store_written_keeps p id v known may)
  positions_hold store_moment may = by_law store_moment k.order k.writer
      (λ e. omega arith) (λ e. omega arith) (λ e. omega arith)
      (kept.store_moment_keeps p id v known
      (moment_word words))
  positions_hold store_flushed may = with_words store_flushed k.order k.writer
      (written_word words) _ (down_word words) (same store_flushed written_number (λ e. omega arith))
      (single_set words setup k.wide flushed_number (step store_flushed).n (omega arith))
      (same store_flushed down_number (λ e. omega arith))
      (kept.store_flushed_keeps p id v known may)
  positions_hold set_down may = with_words set_down k.order k.writer (written_word words)
      (flushed_word words) _ (same set_down written_number (λ e. omega arith))
      (same set_down flushed_number (λ e. omega arith))
      (single_set words setup k.wide down_number (step set_down).n (omega arith))
      (kept.set_down_keeps p id v known may)
  positions_hold load_async may = positions_stay (step load_async) refl refl
      (λ e. omega arith) (λ e. omega arith) (λ e. omega arith)
  positions_hold (raise_async expected upto) may = positions_stay
      (step (raise_async expected upto)) refl refl
      (λ e. omega arith) (λ e. omega arith) (λ e. omega arith)
  positions_hold take_mapping_turn may =
      let free = eqb (slice_index words mapping_turn_number) 0 in
      positions_stay (step take_mapping_turn)
      (same_either flight_of free (with_stage Taken v) v refl)
      (same_either writing_of free (with_stage Taken v) v refl)
      (λ e. omega arith) (λ e. omega arith) (λ e. omega arith)
  positions_hold load_initialised_end may = positions_stay (step load_initialised_end) refl refl
      (λ e. omega arith) (λ e. omega arith) (λ e. omega arith)
  positions_hold clear_end may = positions_stay (step clear_end) refl refl
      (λ e. omega arith) (λ e. omega arith) (λ e. omega arith)
  positions_hold zero_ring_word may = positions_stay (step zero_ring_word) refl refl
      (λ e. omega arith) (λ e. omega arith) (λ e. omega arith)
  positions_hold publish_end may = positions_stay (step publish_end) refl refl
      (λ e. omega arith) (λ e. omega arith) (λ e. omega arith)
  positions_hold publish_initialised_end may = positions_stay
      (step publish_initialised_end) refl refl
      (λ e. omega arith) (λ e. omega arith) (λ e. omega arith)
  positions_hold release_mapping_turn may = positions_stay (step release_mapping_turn) refl refl
      (λ e. omega arith) (λ e. omega arith) (λ e. omega arith)
  positions_hold (create segment outcome) may = by_law (create segment outcome) k.order
      (writer_behind v (create segment outcome) k.writer)
      (λ e. omega arith) (λ e. omega arith) (λ e. omega arith)
      (calls.create_keeps p id v known
      (moment_word words) (map receipts_of views) k.durable (slice_index words write_turn_number) segment outcome may)
  positions_hold (write segment page upto bytes outcome) may =
      by_law (write segment page upto bytes outcome) k.order
      (writer_behind v (write segment page upto bytes outcome) k.writer)
      (λ e. omega arith) (λ e. omega arith) (λ e. omega arith)
      (calls.write_keeps p id v known
      (moment_word words) (map receipts_of views) k.durable (slice_index words write_turn_number) segment page upto
      bytes outcome (told_here words home views id v k here) may)
  positions_hold (sync segment outcome) may = by_law (sync segment outcome) k.order
      (writer_behind v (sync segment outcome) k.writer)
      (λ e. omega arith) (λ e. omega arith) (λ e. omega arith)
      (calls.sync_keeps p id v known
      (moment_word words) (map receipts_of views) k.durable (slice_index words write_turn_number) segment outcome may)
