-- Durability behind each kind of step, from a state that keeps the invariant.
use Rattle.std.proofs.Common.{◌≡◌, ◌≢◌, ℕ, ◌<◌, ◌≤◌, Bool, true, false, Contains, List, [], ◌∷◌, ◌++◌, map, set, slice_index, refl, sym, ap, subst, ◌∙◌, ◌==◌, if◌then◌else◌, arith}
use mathlib.Core.Option.{Option}
use Rattle.byte_position.proofs.SegmentSizes.{segment_size_in_pages}
use Rattle.segment_disk.specs.Tape.{DiskState, create_call, sync_call, write_call}
use Rattle.wal_types.specs.declared.record.Record.{Record}
use Rattle.wal_page.specs.Order.{Entry}
use Rattle.machine_state.specs.Words.{Opening, flushed_word, moment_word, down_word, written_word, write_turn, mapping_turn_number, write_turn_number, initialised_number, written_number, flushed_number, moment_number, down_number, ends_number, lock_number}
use Rattle.machine_state.specs.Views.{HasAt, Lent, Out, Plain, Receipts, View, reserving_of, receipts_of, working_of, writer_of, writing_of, flight_of, Taken, Locked}
use Rattle.machine_state.specs.Moves.{CallOutcome, after_create, after_sync, after_write, after_join, entry_reserved, after_split, orphan_of, split_off, spent, without_work, with_place, with_stage, with_working}
use Rattle.machine_state.specs.Durable.{DurabilityHolds}
use Rattle.machine_state.specs.Sound.{IsSound}
use Rattle.machine_state.specs.Steps.{StepKind, MayStep, home_behind, place_at, value_behind, view_behind, word_of_step, load_position, take_write_turn, slot_out, slot_in, release_write_turn, lock_position, load_prev, store_prev, store_position, give_position_back, stay, load_lock, take_lock, advance, release, load_buffer_end, store_ring_word, load_ring_word, load_written, load_flushed, load_moment, load_down, store_written, store_moment, store_flushed, set_down, load_async, raise_async, take_mapping_turn, load_initialised_end, clear_end, zero_ring_word, publish_end, publish_initialised_end, release_mapping_turn, create, write, sync}
use Rattle.machine_state.proofs.Lists.{part_added, part_at, part_set, view_from}
use Rattle.machine_state.proofs.WordLists.{single_set, word_again, word_else}
use Rattle.machine_laws.specs.DurableBehind.{HasDurable, HasDurableWith, IsInside, LoadsStaged}
use Rattle.machine_laws.proofs.DurableCallSteps.{create_keeps, sync_keeps, write_keeps}
use Rattle.machine_laws.proofs.DurableReserving.{store_position_keeps}
use Rattle.machine_laws.proofs.DurableAssured.{out_holds}
use Rattle.machine_laws.proofs.DurableViewSteps as one

-- one of two views, of which the part is the same
either_told : (b : Bool) (x y : View) → receipts_of x ≡ receipts_of y
    → receipts_of (if b then x else y) ≡ receipts_of y
either_told true x y same = same
either_told false x y same = refl

module _ {first : DiskState} (words : List ℕ) (home : Option Plain) (views : List View) (id : ℕ) (v : View)
    (k : IsSound first v.opening words home views) (here : HasAt views id v) where
  abbrev o : Opening
  o = v.opening

  mine : HasAt (map receipts_of views) id (receipts_of v)
  mine = part_at receipts_of views id v here

  turn_at : HasAt (map writer_of views) id (writer_of v)
  turn_at = part_at writer_of views id v here

  some_flushed : 1 ≤ flushed_word words
  some_flushed =
      let whole = segment_size_in_pages ((v.opening).setup).seg_size (k.setup_is).size in
      omega (arith, (k.positions).begun, whole.0, whole.1)

  low : flushed_word words ≤ (k.writer).written
  low = omega (arith, (k.positions).flushed_low, (k.positions).written_low)

  module _ (order : List Entry) (writer : Plain) (elsewhere : Option Plain) (i n : ℕ) (w : View)
    where
      -- the words of which it speaks are these
      with_words : (f m d : ℕ) → f ≡ flushed_word (set words i n) → m ≡ moment_word (set words i n)
          → d ≡ down_word (set words i n)
          → DurabilityHolds first o order f m d elsewhere writer (set (map receipts_of views) id (receipts_of w))
          → DurabilityHolds first o order (flushed_word (set words i n)) (moment_word (set words i n))
          (down_word (set words i n)) elsewhere writer (map receipts_of (set views id w))
      with_words f m d flushed moment down h =
          subst (λ (x : ℕ × ℕ × ℕ × List Receipts).
          DurabilityHolds first o order x.0 x.1 x.2 elsewhere writer x.3)
          (λ j. (flushed j, moment j, down j, sym (part_set receipts_of views id w) j)) h

      -- they are not stored
      stays : (j : ℕ) → j ≢ i → slice_index words j ≡ slice_index (set words i n) j
      stays j apart = sym (word_else words i n j apart)

      elsewhere_stored : flushed_number ≢ i → moment_number ≢ i → down_number ≢ i
          → DurabilityHolds first o order (flushed_word words) (moment_word words) (down_word words)
          elsewhere writer (set (map receipts_of views) id (receipts_of w))
          → DurabilityHolds first o order (flushed_word (set words i n)) (moment_word (set words i n))
          (down_word (set words i n)) elsewhere writer (map receipts_of (set views id w))
      elsewhere_stored flushed moment down h =
          with_words (flushed_word words) (moment_word words) (down_word words)
          (stays flushed_number flushed) (stays moment_number moment) (stays down_number down) h

  -- a word is loaded
  loaded : (i : ℕ) (w : View) → DurabilityHolds first o k.order (flushed_word words) (moment_word words)
      (down_word words) home k.writer (set (map receipts_of views) id (receipts_of w))
      → (let later = set words i (slice_index words i) in
      DurabilityHolds first o k.order (flushed_word later) (moment_word later) (down_word later) home
      k.writer (map receipts_of (set views id w)))
  loaded i w h =
      let later = set words i (slice_index words i) in
      let again = sym (word_again words i) in
      with_words k.order k.writer home i (slice_index words i) w (flushed_word words)
      (moment_word words) (down_word words) (ap (λ (l : List ℕ). flushed_word l) again)
      (ap (λ (l : List ℕ). moment_word l) again) (ap (λ (l : List ℕ). down_word l) again) h

  -- nothing of which it speaks becomes another
  untouched : (i n : ℕ) (w : View) → receipts_of w ≡ receipts_of v → flushed_number ≢ i → moment_number ≢ i → down_number ≢ i
      → DurabilityHolds first o k.order (flushed_word (set words i n)) (moment_word (set words i n))
      (down_word (set words i n)) home k.writer (map receipts_of (set views id w))
  untouched i n w is flushed moment down =
      elsewhere_stored k.order k.writer home i n w flushed moment down
      (subst (λ (x : Receipts). DurabilityHolds first o k.order (flushed_word words) (moment_word words)
      (down_word words) home k.writer (set (map receipts_of views) id x)) (sym is)
      (one.same o k.order (flushed_word words) (moment_word words) (down_word words) home k.writer
      (map receipts_of views) k.durable id v mine))

  lock_below : (lock : ℕ) → Contains (v.working).locks lock → lock < 8
  lock_below lock has =
      (((k.locks).locks).each id lock v.working (part_at working_of views id v here) has).0

  -- ---- passes

  pub durable-split : HasDurableWith o words home views k
      (set views id (after_split v) ++ split_off v ∷ [])
  durable-split = subst (λ (parts : List Receipts). DurabilityHolds first o k.order (flushed_word words)
      (moment_word words) (down_word words) home k.writer parts)
      (sym (part_added receipts_of (set views id (after_split v)) (split_off v)
      ∙ ap (λ (xs : List Receipts). xs ++ receipts_of (split_off v) ∷ [])
      (part_set receipts_of views id (after_split v))))
      (one.split_keeps o k.order (flushed_word words) (moment_word words) (down_word words) home
      k.writer (map receipts_of views) k.durable id v mine)

  pub durable-given_up : HasDurableWith o words home views k
      (set views id (without_work v) ++ orphan_of v ∷ [])
  durable-given_up = subst (λ (parts : List Receipts). DurabilityHolds first o k.order (flushed_word words)
      (moment_word words) (down_word words) home k.writer parts)
      (sym (part_added receipts_of (set views id (without_work v)) (orphan_of v)
      ∙ ap (λ (xs : List Receipts). xs ++ receipts_of (orphan_of v) ∷ [])
      (part_set receipts_of views id (without_work v))))
      (one.give_up_keeps o k.order (flushed_word words) (moment_word words) (down_word words) home
      k.writer (map receipts_of views) k.durable id v mine)

  pub durable-taken_in : (other : ℕ) (u : View) → HasAt views other u → id ≢ other
      → HasDurableWith o words home views k (set (set views other (spent u)) id (after_join v u))
  durable-taken_in other u there apart = subst (λ (parts : List Receipts). DurabilityHolds first o k.order
      (flushed_word words) (moment_word words) (down_word words) home k.writer parts)
      (sym (part_set receipts_of (set views other (spent u)) id (after_join v u)
      ∙ ap (λ (xs : List Receipts). set xs id (receipts_of (after_join v u)))
      (part_set receipts_of views other (spent u))))
      (one.join_keeps o k.order (flushed_word words) (moment_word words) (down_word words) home
      k.writer (map receipts_of views) k.durable id v mine other u
      (part_at receipts_of views other u there) apart)

  -- ---- an entry, and calls of the device

  pub durable-reserved : (v.reserving).live ≡ true → (locks : List ℕ) (value : Record)
      → MayStep v (store_position locks value)
      → HasDurable first words home views id v (store_position locks value)
      (k.order ++ entry_reserved (v.reserving).number (place_at v (v.reserving).place) value ∷ [])
      k.writer
  durable-reserved live locks value may =
      let at = may.0 in
      let prev = may.1 in
      let is = may.2 in
      let met = slice_index words 0 in
      let size = ((v.opening).setup).seg_size in
      let w = view_behind v (store_position locks value) met home in
      let entry = λ (p : ℕ). entry_reserved (v.reserving).number p value in
      let place : at ≡ place_at v (v.reserving).place = sym (ap (place_at v) is) in
      elsewhere_stored (k.order ++ entry (place_at v (v.reserving).place) ∷ []) k.writer home 0
      (value_behind v (store_position locks value) met) w (λ e. omega arith) (λ e. omega arith)
      (λ e. omega arith)
      (subst (λ (p : ℕ). DurabilityHolds first o (k.order ++ entry p ∷ []) (flushed_word words)
      (moment_word words) (down_word words) home k.writer
      (set (map receipts_of views) id (receipts_of w))) place
      (store_position_keeps o k.order (flushed_word words) (moment_word words) (down_word words)
      home k.writer views id met locks value v at prev _ _ _ _ _ _ k.durable here k.setup_is
      (k.reserved).chained
      ((k.reserved).places id v.reserving (part_at reserving_of views id v here) live)
      k.positions is))

  pub durable-create : (segment : ℕ) (outcome : CallOutcome) → MayStep v (create segment outcome)
      → HasDurable first words home views id v (create segment outcome) k.order
      (after_create segment (create_call ((v.opening).setup).seg_size segment) outcome
      k.writer)
  durable-create segment outcome may =
      let met = slice_index words write_turn_number in
      elsewhere_stored k.order _ home write_turn_number met (view_behind v (create segment outcome) met home)
      (λ e. omega arith) (λ e. omega arith) (λ e. omega arith)
      (create_keeps o k.order (flushed_word words) (moment_word words) (down_word words) home
      k.writer (map receipts_of views) k.durable id v mine refl k.setup_is (write_turn words)
      (map writer_of views) (k.locks).writing turn_at (written_word words) (map flight_of views)
      (map writing_of views) k.positions segment outcome met may)

  pub durable-write : (segment page upto : ℕ) (bytes : List ℕ) (outcome : CallOutcome)
      → MayStep v (write segment page upto bytes outcome)
      → HasDurable first words home views id v (write segment page upto bytes outcome) k.order
      (after_write segment upto
      (write_call ((v.opening).setup).seg_size segment page bytes) outcome k.writer)
  durable-write segment page upto bytes outcome may =
      let met = slice_index words write_turn_number in
      elsewhere_stored k.order _ home write_turn_number met
      (view_behind v (write segment page upto bytes outcome) met home)
      (λ e. omega arith) (λ e. omega arith) (λ e. omega arith)
      (write_keeps o k.order (flushed_word words) (moment_word words) (down_word words) home
      k.writer (map receipts_of views) k.durable id v mine refl k.setup_is (write_turn words)
      (map writer_of views) (k.locks).writing turn_at (written_word words) (map flight_of views)
      (map writing_of views) k.positions segment page upto bytes outcome met may)

  pub durable-sync : (segment : ℕ) (outcome : CallOutcome) → MayStep v (sync segment outcome)
      → HasDurable first words home views id v (sync segment outcome) k.order
      (after_sync (sync_call ((v.opening).setup).seg_size segment) outcome k.writer)
  durable-sync segment outcome may =
      let met = slice_index words write_turn_number in
      elsewhere_stored k.order _ home write_turn_number met (view_behind v (sync segment outcome) met home)
      (λ e. omega arith) (λ e. omega arith) (λ e. omega arith)
      (sync_keeps o k.order (flushed_word words) (moment_word words) (down_word words) home
      k.writer (map receipts_of views) k.durable id v mine refl k.setup_is (write_turn words)
      (map writer_of views) (k.locks).writing turn_at (written_word words) (map flight_of views)
      (map writing_of views) k.positions segment outcome met may)

  -- ---- all other kinds

  stored : (i n : ℕ) → i < ends_number → n ≡ slice_index (set words i n) i
  stored i n single = sym (single_set words (v.opening).setup k.wide i n single)

  away : (i n j : ℕ) → j ≢ i → slice_index words j ≡ slice_index (set words i n) j
  away i n j apart = sym (word_else words i n j apart)

  -- of two views that have the writer in hand each is the holder of the turn
  alone_out : (l : Lent) → (v.writing).hold ≡ Out l → one.IsAloneOut (map receipts_of views) id
  alone_out l out j x m there is =
      let turn = (k.locks).writing in
      let found = view_from receipts_of views j x there in
      let u = found.0 in
      let other = ap (λ (y : Receipts). (y.writing).hold) found.2 ∙ is in
      sym (out_holds (write_turn words) turn.holder home k.writer j (u.reserving).number
      (u.writing).hold m other
      (turn.each j (writer_of u) (part_at writer_of views j u found.1)))
      ∙ out_holds (write_turn words) turn.holder home k.writer id (v.reserving).number
      (v.writing).hold l out (turn.each id (writer_of v) turn_at)

  pub durable-inside : (e : StepKind) → MayStep v e → IsInside e
      → LoadsStaged v k.order e (slice_index words (word_of_step v e))
      → HasDurable first words home views id v e k.order k.writer
  durable-inside load_position may inside staged =
      untouched 0 _ _ refl (λ e. omega arith) (λ e. omega arith) (λ e. omega arith)
  durable-inside take_write_turn may inside staged =
      elsewhere_stored k.order k.writer home write_turn_number _ _ (λ e. omega arith) (λ e. omega arith)
      (λ e. omega arith)
      (one.take_turn_keeps o k.order (flushed_word words) (moment_word words) (down_word words)
      home k.writer (map receipts_of views) k.durable id v mine (slice_index words write_turn_number))
  durable-inside slot_out may inside staged =
      elsewhere_stored k.order k.writer (home_behind v slot_out home) write_turn_number _ _ (λ e. omega arith)
      (λ e. omega arith) (λ e. omega arith)
      (one.slot_out_keeps o k.order (flushed_word words) (moment_word words) (down_word words)
      home k.writer (map receipts_of views) k.durable id v mine (write_turn words)
      (map writer_of views) (k.locks).writing turn_at (slice_index words write_turn_number) may)
  durable-inside slot_in may inside staged =
      elsewhere_stored k.order k.writer (home_behind v slot_in home) write_turn_number _ _ (λ e. omega arith)
      (λ e. omega arith) (λ e. omega arith)
      (one.slot_in_keeps o k.order (flushed_word words) (moment_word words) (down_word words)
      home k.writer (map receipts_of views) k.durable id v mine (write_turn words)
      (map writer_of views) (k.locks).writing turn_at (slice_index words write_turn_number) may)
  durable-inside release_write_turn may inside staged =
      elsewhere_stored k.order k.writer home write_turn_number _ _ (λ e. omega arith) (λ e. omega arith)
      (λ e. omega arith)
      (one.release_turn_keeps o k.order (flushed_word words) (moment_word words) (down_word words)
      home k.writer (map receipts_of views) k.durable id v mine)
  durable-inside (lock_position expected) may inside staged =
      untouched 0 _ _ (either_told (slice_index words 0 == expected)
      (with_place (Locked expected) v) v refl) (λ e. omega arith) (λ e. omega arith)
      (λ e. omega arith)
  durable-inside load_prev may inside staged =
      untouched 1 _ _ (rw may.1 refl) (λ e. omega arith) (λ e. omega arith) (λ e. omega arith)
  durable-inside store_prev may inside staged =
      untouched 1 _ _ (rw may.2 refl) (λ e. omega arith) (λ e. omega arith) (λ e. omega arith)
  durable-inside (store_position locks value) may inside staged = absurd inside
  durable-inside (give_position_back value) may inside staged =
      untouched 0 _ _ (rw may.1 refl) (λ e. omega arith) (λ e. omega arith) (λ e. omega arith)
  durable-inside stay may inside staged =
      untouched 0 _ _ (rw may.1 refl) (λ e. omega arith) (λ e. omega arith) (λ e. omega arith)
  durable-inside (load_lock lock limit) may inside staged =
      untouched (lock_number lock) _ _ refl (λ e. omega arith) (λ e. omega arith) (λ e. omega arith)
  durable-inside (take_lock lock) may inside staged =
      untouched (lock_number lock) _ _ (either_told (slice_index words (lock_number lock) == 0)
      (with_working ((v.working).locks ++ lock ∷ []) (v.working).flight v) v refl)
      (λ e. omega arith) (λ e. omega arith) (λ e. omega arith)
  durable-inside (advance lock upto) may inside staged =
      let below = lock_below lock may.0 in
      untouched (lock_number lock) _ _ refl (λ e. omega arith) (λ e. omega arith) (λ e. omega arith)
  durable-inside (release lock) may inside staged =
      let below = lock_below lock may.0 in
      untouched (lock_number lock) _ _ refl (λ e. omega arith) (λ e. omega arith) (λ e. omega arith)
  durable-inside (load_buffer_end buffer) may inside staged =
      untouched (word_of_step v (load_buffer_end buffer)) _ _ refl (λ e. omega arith)
      (λ e. omega arith)
      (λ e. omega arith)
  durable-inside store_ring_word may inside staged =
      untouched (word_of_step v store_ring_word) _ _ refl (λ e. omega arith) (λ e. omega arith)
      (λ e. omega arith)
  durable-inside (load_ring_word i) may inside staged =
      elsewhere_stored k.order k.writer home (word_of_step v (load_ring_word i)) _ _
      (λ e. omega arith) (λ e. omega arith) (λ e. omega arith)
      (one.load_word_keeps o k.order (flushed_word words) (moment_word words) (down_word words)
      home k.writer (map receipts_of views) k.durable id v mine i
      (slice_index words (word_of_step v (load_ring_word i))) staged)
  durable-inside load_written may inside staged =
      loaded written_number _ (one.load_written_keeps o k.order (flushed_word words) (moment_word words)
      (down_word words) home k.writer (map receipts_of views) k.durable id v mine
      (slice_index words written_number))
  durable-inside load_flushed may inside staged =
      loaded flushed_number _ (one.load_flushed_keeps o k.order (flushed_word words) (moment_word words)
      (down_word words) home k.writer (map receipts_of views) k.durable id v mine
      (slice_index words flushed_number))
  durable-inside load_moment may inside staged =
      loaded moment_number _ (one.load_moment_keeps o k.order (flushed_word words) (moment_word words)
      (down_word words) home k.writer (map receipts_of views) k.durable id v mine
      ((k.positions).views id v.writing (part_at writing_of views id v here)).flushed_met)
  durable-inside load_down may inside staged =
      loaded down_number _ (one.load_down_keeps o k.order (flushed_word words) (moment_word words)
      (down_word words) home k.writer (map receipts_of views) k.durable id v mine)
  durable-inside store_written may inside staged =
      elsewhere_stored k.order k.writer home written_number _ _ (λ e. omega arith) (λ e. omega arith)
      (λ e. omega arith)
      (one.store_written_keeps o k.order (flushed_word words) (moment_word words)
      (down_word words) home k.writer (map receipts_of views) k.durable id v mine)
  durable-inside store_moment may inside staged =
      let n = value_behind v store_moment (slice_index words moment_number) in
      with_words k.order k.writer home moment_number n _ (flushed_word words) n (down_word words)
      (away moment_number n flushed_number (λ e. omega arith)) (stored moment_number n (omega arith))
      (away moment_number n down_number (λ e. omega arith))
      (one.store_moment_keeps o k.order (flushed_word words) (moment_word words)
      (down_word words) home k.writer (map receipts_of views) k.durable id v mine (write_turn words)
      (map writer_of views) (k.locks).writing turn_at (slice_index words moment_number) may)
  durable-inside store_flushed may inside staged =
      let n = value_behind v store_flushed (slice_index words flushed_number) in
      with_words k.order k.writer home flushed_number n _ n (moment_word words) (down_word words)
      (stored flushed_number n (omega arith)) (away flushed_number n moment_number (λ e. omega arith))
      (away flushed_number n down_number (λ e. omega arith))
      (one.store_flushed_keeps o k.order (flushed_word words) (moment_word words)
      (down_word words) home k.writer (map receipts_of views) k.durable id v mine (write_turn words)
      (map writer_of views) (k.locks).writing turn_at (slice_index words flushed_number) some_flushed low may)
  durable-inside set_down may inside staged =
      let n = value_behind v set_down (slice_index words down_number) in
      with_words k.order k.writer home down_number n _ (flushed_word words) (moment_word words) n
      (away down_number n flushed_number (λ e. omega arith)) (away down_number n moment_number (λ e. omega arith))
      (stored down_number n (omega arith))
      (one.set_down_keeps o k.order (flushed_word words) (moment_word words)
      (down_word words) home k.writer (map receipts_of views) k.durable id v mine (write_turn words)
      (map writer_of views) (k.locks).writing turn_at (alone_out may.0 may.1)
      (slice_index words down_number) may)
  durable-inside load_async may inside staged =
      untouched _ _ _ refl (λ e. omega arith) (λ e. omega arith) (λ e. omega arith)
  durable-inside (raise_async expected upto) may inside staged =
      untouched _ _ _ refl (λ e. omega arith) (λ e. omega arith) (λ e. omega arith)
  durable-inside take_mapping_turn may inside staged =
      untouched mapping_turn_number _ _ (either_told (slice_index words mapping_turn_number == 0) (with_stage Taken v) v refl)
      (λ e. omega arith) (λ e. omega arith) (λ e. omega arith)
  durable-inside load_initialised_end may inside staged =
      untouched initialised_number _ _ refl (λ e. omega arith) (λ e. omega arith) (λ e. omega arith)
  durable-inside clear_end may inside staged =
      untouched (word_of_step v clear_end) _ _ refl (λ e. omega arith) (λ e. omega arith)
      (λ e. omega arith)
  durable-inside zero_ring_word may inside staged =
      untouched (word_of_step v zero_ring_word) _ _ refl (λ e. omega arith) (λ e. omega arith)
      (λ e. omega arith)
  durable-inside publish_end may inside staged =
      untouched (word_of_step v publish_end) _ _ refl (λ e. omega arith) (λ e. omega arith)
      (λ e. omega arith)
  durable-inside publish_initialised_end may inside staged =
      untouched initialised_number _ _ refl (λ e. omega arith) (λ e. omega arith) (λ e. omega arith)
  durable-inside release_mapping_turn may inside staged =
      untouched mapping_turn_number _ _ refl (λ e. omega arith) (λ e. omega arith) (λ e. omega arith)
  durable-inside (create segment outcome) may inside staged = absurd inside
  durable-inside (write segment page upto bytes outcome) may inside staged = absurd inside
  durable-inside (sync segment outcome) may inside staged = absurd inside
