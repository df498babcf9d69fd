-- What is fixed of a view behind a step of any kind: it stays live, and watches for no more than it
-- has seen reserved; and the down word, once set, stays set.
use Rattle.std.proofs.Common.{◌≡◌, ◌≢◌, ℕ, ◌≤◌, Bool, cond, true, false, ◌&&◌, ◌||◌, not, List, [], ◌∷◌, ◌++◌, slice_index, refl, sym, ap, ◌∙◌, subst, eqb, ⊎_elim, arith}
use mathlib.Core.Option.{Option, none, some}
use Rattle.wal_types.specs.declared.record.Record.{Record}
use Rattle.wal_page.specs.Order.{Entry, position_behind}
use Rattle.machine_state.specs.Words.{Opening, down_word, end_form, write_turn, mapping_turn_number, write_turn_number, down_number, lock_number, order_end, last_start}
use Rattle.machine_state.specs.Views.{HasAt, Place, Locked, Stored, Plain, Hold, Idle, Turned, Out, Taken, Watching, View, reserving_of, writer_of}
use Rattle.machine_state.specs.Ordered.{AtPlace}
use Rattle.machine_state.specs.Moves.{fault_number, after_store_position, begun, entry_reserved, is_own, visited_on, with_hold, with_place, with_stage, with_working}
use Rattle.machine_state.specs.Steps.{StepKind, MayStep, number_lent, value_behind, word_of_step, view_behind, load_position, take_write_turn, slot_out, slot_in, release_write_turn, lock_position, load_prev, store_prev, store_position, give_position_back, stay, load_lock, take_lock, advance, release, load_buffer_end, store_ring_word, load_ring_word, load_written, load_flushed, load_moment, load_down, store_written, store_moment, store_flushed, set_down, load_async, raise_async, take_mapping_turn, load_initialised_end, clear_end, zero_ring_word, publish_end, publish_initialised_end, release_mapping_turn, create, write, sync, with_slot, with_call_on}
use Rattle.machine_state.specs.Sound.{IsGrounded, IsSound}
use Rattle.machine_state.proofs.Lists.{part_at}
use Rattle.machine_state.proofs.WordLists.{single_set, word_again, word_else}
use Rattle.machine_laws.proofs.DurableAssured.{stands_out}
use Rattle.machine_laws.proofs.Frames.{Moved, moved, later, grounded_live, watches_still}
use Rattle.machine_laws.proofs.PositionsBehind.{lock_low}
use Rattle.segment_disk.specs.Tape.{DiskState}

-- what is fixed of a view, that it is live, the end watched for, and what it has seen reserved
abbrev ground_of : View → Opening × Bool × ℕ × ℕ
ground_of v = (v.opening, (v.reserving).live, (v.watching).end, (v.reserving).seen)

-- one of two views, of the same ground
ground_either : (b : Bool) (x y : View) → ground_of x ≡ ground_of y
    → ground_of (cond b x y) ≡ ground_of y
ground_either true x y same = same
ground_either false x y same = refl

ground_slot : (v : View) (home : Option Plain) → ground_of (with_slot v home) ≡ ground_of v
ground_slot v none = refl
ground_slot v (some writer) = refl

ground_call : (v : View) (f : Plain → Plain) (hold : Hold)
    → ground_of (with_call_on v f hold) ≡ ground_of v
ground_call v f Idle = refl
ground_call v f Turned = refl
ground_call v f (Out l) = refl

-- one of two watches, for no more than this
end_either : (b : Bool) (x y : Watching) (n : ℕ) → x.end ≤ n → y.end ≤ n → (cond b x y).end ≤ n
end_either true x y n low other = low
end_either false x y n low other = other

visited_low : (own : Bool) (lock met n : ℕ) (x : Watching) → x.end ≤ n
    → (visited_on own lock met x).end ≤ n
visited_low own lock met n x low =
    end_either (eqb lock x.visited && (own || not (eqb met 1))) _ x n low low

module _ {first : DiskState} (words : List ℕ) (home : Option Plain) (views : List View) (id : ℕ) (v : View)
    (k : IsSound first v.opening words home views) (here : HasAt views id v)
    (live : (v.reserving).live ≡ true) where
  abbrev behind : StepKind → View
  behind e = view_behind v e (slice_index words (word_of_step v e)) home

  low : (v.watching).end ≤ end_form (v.opening).setup (v.reserving).seen
  low = (k.grounded id v here).watches live

  low_still : (seen : ℕ) → (v.reserving).seen ≤ seen
      → (v.watching).end ≤ end_form (v.opening).setup seen
  low_still seen more = watches_still (v.opening).setup (k.setup_is).size (v.watching).end
      (v.reserving).seen seen low more

  begun_low : (lock limit : ℕ)
      → (begun lock limit v).end ≤ end_form (v.opening).setup (v.reserving).seen
  begun_low lock limit = end_either (eqb lock 0) _ v.watching
      (end_form (v.opening).setup (v.reserving).seen) (omega arith) low

  module _ (down : ℕ) where
    same : (e : StepKind) → ground_of (behind e) ≡ ground_of v → IsGrounded v.opening down
        (behind e)
    same e is = grounded_live v.opening down (behind e) (ap (λ g. g.0) is)
        (ap (λ g. g.1) is ∙ live)
        (subst (λ (g : Opening × Bool × ℕ × ℕ). g.2 ≤ end_form (v.opening).setup g.3) (sym is) low)

    sees_more : (e : StepKind) → (behind e).opening ≡ v.opening
        → ((behind e).reserving).live ≡ (v.reserving).live
        → ((behind e).watching).end ≡ (v.watching).end
        → (v.reserving).seen ≤ ((behind e).reserving).seen → IsGrounded v.opening down (behind e)
    sees_more e opening lives ends more = grounded_live v.opening down (behind e) opening
        (lives ∙ live) (subst (λ (n : ℕ). n ≤ end_form (v.opening).setup
        ((behind e).reserving).seen) (sym ends) (low_still ((behind e).reserving).seen more))

    reserved : (locks : List ℕ) (value : Record) → MayStep v (store_position locks value)
        → IsGrounded v.opening down (behind (store_position locks value))
    reserved locks value may =
        let size : ℕ = ((v.opening).setup).seg_size in
        let mine = part_at reserving_of views id v here in
        let seen = ((k.reserved).views id v.reserving mine live).seen in
        let place = subst
        (AtPlace size (order_end v.opening k.order) (last_start v.opening k.order) _ _ _ _) may.2
        ((k.reserved).places id v.reserving mine live) in
        let at : may.0 ≡ order_end v.opening k.order = place.2 in
        let e : Entry = entry_reserved (v.reserving).number may.0 value in
        subst (λ (p : Place).
        IsGrounded v.opening down (after_store_position locks value (with_place p v)))
        (sym may.2) (grounded_live v.opening down
        (after_store_position locks value (with_place (Stored may.0 may.1) v)) refl live
        (low_still (position_behind size e) (omega arith)))

    pub grounded_behind : (e : StepKind) → MayStep v e → IsGrounded v.opening down (behind e)
    grounded_behind load_position may = sees_more load_position refl refl refl (omega arith)
    grounded_behind take_write_turn may = same take_write_turn
        (ground_either (eqb (slice_index words write_turn_number) 0) (with_hold Turned v) v refl)
    grounded_behind slot_out may = same slot_out (ground_slot v home)
    grounded_behind slot_in may = same slot_in refl
    grounded_behind release_write_turn may = same release_write_turn refl
    grounded_behind (lock_position expected) may = same (lock_position expected)
        (ground_either (eqb (slice_index words 0) expected) (with_place (Locked expected) v) v refl)
    grounded_behind load_prev may = same load_prev (rw may.1 refl)
    grounded_behind store_prev may = same store_prev (rw may.2 refl)
    grounded_behind (store_position locks value) may = reserved locks value may
    grounded_behind (give_position_back value) may = same (give_position_back value) (rw may.1 refl)
    grounded_behind stay may = same stay (rw may.1 refl)
    grounded_behind (load_lock lock limit) may = grounded_live v.opening down
        (behind (load_lock lock limit)) refl live
        (visited_low (is_own lock v.working) lock (slice_index words (lock_number lock))
        (end_form (v.opening).setup (v.reserving).seen) (begun lock limit v) (begun_low lock limit))
    grounded_behind (take_lock lock) may = same (take_lock lock)
        (ground_either (eqb (slice_index words (lock_number lock)) 0)
        (with_working ((v.working).locks ++ lock ∷ []) (v.working).flight v) v refl)
    grounded_behind (advance lock upto) may = same (advance lock upto) refl
    grounded_behind (release lock) may = same (release lock) refl
    grounded_behind (load_buffer_end buffer) may = same (load_buffer_end buffer) refl
    grounded_behind store_ring_word may = same store_ring_word refl
    grounded_behind (load_ring_word number) may = same (load_ring_word number) refl
    grounded_behind load_written may = same load_written refl
    grounded_behind load_flushed may = sees_more load_flushed refl refl refl (omega arith)
    grounded_behind load_moment may = same load_moment refl
    grounded_behind load_down may = same load_down refl
    grounded_behind store_written may = same store_written refl
    grounded_behind store_moment may = same store_moment refl
    grounded_behind store_flushed may = sees_more store_flushed refl refl refl (omega arith)
    grounded_behind set_down may = same set_down refl
    grounded_behind load_async may = same load_async refl
    grounded_behind (raise_async expected upto) may = same (raise_async expected upto) refl
    grounded_behind take_mapping_turn may = same take_mapping_turn
        (ground_either (eqb (slice_index words mapping_turn_number) 0) (with_stage Taken v) v refl)
    grounded_behind load_initialised_end may = same load_initialised_end refl
    grounded_behind clear_end may = same clear_end refl
    grounded_behind zero_ring_word may = same zero_ring_word refl
    grounded_behind publish_end may = same publish_end refl
    grounded_behind publish_initialised_end may = same publish_initialised_end refl
    grounded_behind release_mapping_turn may = same release_mapping_turn refl
    grounded_behind (create segment outcome) may = same (create segment outcome)
        (ground_call v _ (v.writing).hold)
    grounded_behind (write segment page upto bytes outcome) may =
        same (write segment page upto bytes outcome)
        (ground_call v _ (v.writing).hold)
    grounded_behind (sync segment outcome) may = same (sync segment outcome)
        (ground_call v _ (v.writing).hold)

  -- ---- the down word

  abbrev step : StepKind → Moved
  step e = moved words home views id v k here e

  not_stored : (e : StepKind) → down_number ≢ word_of_step v e → down_word words ≢ 0
      → down_word (later (step e)) ≢ 0
  not_stored e apart down zero_now =
      down (sym (word_else words (step e).i (step e).n down_number apart) ∙ zero_now)

  -- what is set is a count of faults that rose
  set_is : MayStep v set_down → value_behind v set_down (slice_index words down_number) ≢ 0
  set_is may zero_now =
      let turn = (k.locks).writing in
      let writer = (stands_out (write_turn words) turn.holder home k.writer id
      (v.reserving).number (v.writing).hold may.0 may.1
      (turn.each id (writer_of v) (part_at writer_of views id v here))).1 in
      let value : value_behind v set_down (slice_index words down_number) ≡ (may.2).0 =
      ap (number_lent v (λ l. fault_number (l.writer).fault)) may.1
      ∙ ap fault_number (may.2).1 in
      ⊎_elim (λ up. omega arith) (λ top. omega arith)
      ((k.durable).fault_rose (may.2).0 (ap (λ (w : Plain). w.fault) (sym writer) ∙ (may.2).1))

  pub down_stays : (e : StepKind) → MayStep v e → down_word words ≢ 0
      → down_word (later (step e)) ≢ 0
  down_stays load_position may = not_stored load_position (λ e. omega arith)
  down_stays take_write_turn may = not_stored take_write_turn (λ e. omega arith)
  down_stays slot_out may = not_stored slot_out (λ e. omega arith)
  down_stays slot_in may = not_stored slot_in (λ e. omega arith)
  down_stays release_write_turn may = not_stored release_write_turn (λ e. omega arith)
  down_stays (lock_position expected) may = not_stored (lock_position expected) (λ e. omega arith)
  down_stays load_prev may = not_stored load_prev (λ e. omega arith)
  down_stays store_prev may = not_stored store_prev (λ e. omega arith)
  down_stays (store_position locks value) may =
      not_stored (store_position locks value) (λ e. omega arith)
  down_stays (give_position_back value) may =
      not_stored (give_position_back value) (λ e. omega arith)
  down_stays stay may = not_stored stay (λ e. omega arith)
  down_stays (load_lock lock limit) may = not_stored (load_lock lock limit) (λ e. omega arith)
  down_stays (take_lock lock) may = not_stored (take_lock lock) (λ e. omega arith)
  down_stays (advance lock upto) may =
      let low = lock_low words home views id v k here live lock may.0 in
      not_stored (advance lock upto) (λ e. omega arith)
  down_stays (release lock) may =
      let low = lock_low words home views id v k here live lock may.0 in
      not_stored (release lock) (λ e. omega arith)
  down_stays (load_buffer_end buffer) may = not_stored (load_buffer_end buffer) (λ e. omega arith)
  down_stays store_ring_word may = not_stored store_ring_word (λ e. omega arith)
  down_stays (load_ring_word number) may = not_stored (load_ring_word number) (λ e. omega arith)
  down_stays load_written may = not_stored load_written (λ e. omega arith)
  down_stays load_flushed may = not_stored load_flushed (λ e. omega arith)
  down_stays load_moment may = not_stored load_moment (λ e. omega arith)
  down_stays load_down may = λ down zero_now.
      down (sym (ap down_word (word_again words down_number)) ∙ zero_now)
  down_stays store_written may = not_stored store_written (λ e. omega arith)
  down_stays store_moment may = not_stored store_moment (λ e. omega arith)
  down_stays store_flushed may = not_stored store_flushed (λ e. omega arith)
  down_stays set_down may = λ down zero_now. set_is may
      (sym (single_set words (v.opening).setup k.wide down_number (step set_down).n (omega arith))
      ∙ zero_now)
  down_stays load_async may = not_stored load_async (λ e. omega arith)
  down_stays (raise_async expected upto) may =
      not_stored (raise_async expected upto) (λ e. omega arith)
  down_stays take_mapping_turn may = not_stored take_mapping_turn (λ e. omega arith)
  down_stays load_initialised_end may = not_stored load_initialised_end (λ e. omega arith)
  down_stays clear_end may = not_stored clear_end (λ e. omega arith)
  down_stays zero_ring_word may = not_stored zero_ring_word (λ e. omega arith)
  down_stays publish_end may = not_stored publish_end (λ e. omega arith)
  down_stays publish_initialised_end may = not_stored publish_initialised_end (λ e. omega arith)
  down_stays release_mapping_turn may = not_stored release_mapping_turn (λ e. omega arith)
  down_stays (create segment outcome) may = not_stored (create segment outcome) (λ e. omega arith)
  down_stays (write segment page upto bytes outcome) may =
      not_stored (write segment page upto bytes outcome) (λ e. omega arith)
  down_stays (sync segment outcome) may = not_stored (sync segment outcome) (λ e. omega arith)
