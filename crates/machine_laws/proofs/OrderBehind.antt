-- The reserved order behind a step of any kind.
use Rattle.std.proofs.Common.{◌≡◌, ℕ, ◌≤◌, true, List, [], ◌∷◌, ◌++◌, map, set, slice_index, refl, sym, subst, arith, eqb}
use mathlib.Core.Option.{Option, none, some}
use Rattle.wal_page.specs.Order.{Entry}
use Rattle.machine_state.specs.Words.{position_word, prev_word, flushed_word, mapping_turn_number, write_turn_number, lock_number}
use Rattle.machine_state.specs.Views.{HasAt, Plain, Reserving, Hold, Idle, Turned, Out, Taken, View, reserving_of}
use Rattle.machine_state.specs.Ordered.{OrderHolds}
use Rattle.machine_state.specs.Moves.{with_hold, with_stage, with_working}
use Rattle.machine_state.specs.Steps.{StepKind, MayStep, word_of_step, number_lent, load_position, take_write_turn, slot_out, slot_in, release_write_turn, lock_position, load_prev, store_prev, store_position, give_position_back, stay, load_lock, take_lock, advance, release, load_buffer_end, store_ring_word, load_ring_word, load_written, load_flushed, load_moment, load_down, store_written, store_moment, store_flushed, set_down, load_async, raise_async, take_mapping_turn, load_initialised_end, clear_end, zero_ring_word, publish_end, publish_initialised_end, release_mapping_turn, create, write, sync, with_slot, with_call_on}
use Rattle.machine_state.specs.Sound.{IsSound}
use Rattle.machine_state.proofs.Lists.{part_at, part_set}
use Rattle.machine_state.proofs.WordLists.{single_set, word_else}
use Rattle.machine_laws.specs.OrderParts.{TakesPart, HoldsWith}
use Rattle.machine_laws.proofs.OrderKept as order
use Rattle.machine_laws.proofs.PositionKept.{flushed_is_reserved, hard_is_reserved}
use Rattle.machine_laws.specs.LocksBehind.{order_behind}
use Rattle.machine_laws.proofs.Frames.{Moved, moved, later, views_later, same_either, order_stays}
use Rattle.machine_laws.proofs.KnownViews.{now, has_now}
use Rattle.segment_disk.specs.Tape.{DiskState}

module _ {first : DiskState} (words : List ℕ) (home : Option Plain) (views : List View) (id : ℕ) (v : View)
    (k : IsSound first v.opening words home views) (here : HasAt views id v)
    (live : (v.reserving).live ≡ true) where
  pub takes_part : TakesPart k.order (position_word words) (prev_word words)
      (map reserving_of views)
      id v
  takes_part = record {
    size = (k.setup_is).size;
    holds = k.reserved;
    here = part_at reserving_of views id v here;
    live = live;
  }

  module _ (e : StepKind) where
    abbrev s : Moved
    s = moved words home views id v k here e

    -- the order over the words and views behind
    abbrev pub HasOrder : List Entry → Type 0
    HasOrder es = OrderHolds v.opening es (position_word (later s))
        (prev_word (later s)) (map reserving_of (views_later s))

    position_stored : (es : List Entry) → s.i ≡ 0
        → HoldsWith es s.n (prev_word words) (map reserving_of views) id v s.w → HasOrder es
    position_stored es is holds =
        let stored : position_word (later s) ≡ s.n =
        subst (λ (i : ℕ). slice_index (set words i s.n) 0 ≡ s.n) (sym is)
        (single_set words (v.opening).setup k.wide 0 s.n (omega arith)) in
        let prev : prev_word (later s) ≡ prev_word words =
        word_else words s.i s.n 1 (λ e. omega arith) in
        subst (λ (x : ℕ × ℕ × List Reserving).
        OrderHolds v.opening es x.0 x.1 x.2)
        (λ j. (sym stored j, sym prev j, sym (part_set reserving_of views id s.w) j)) holds

    prev_stored : s.i ≡ 1
        → HoldsWith k.order (position_word words) s.n (map reserving_of views) id v s.w
        → HasOrder k.order
    prev_stored is holds =
        let stored : prev_word (later s) ≡ s.n =
        subst (λ (i : ℕ). slice_index (set words i s.n) 1 ≡ s.n) (sym is)
        (single_set words (v.opening).setup k.wide 1 s.n (omega arith)) in
        let position : position_word (later s) ≡ position_word words =
        word_else words s.i s.n 0 (λ e. omega arith) in
        subst (λ (x : ℕ × ℕ × List Reserving).
        OrderHolds v.opening k.order x.0 x.1 x.2)
        (λ j. (sym position j, sym stored j, sym (part_set reserving_of views id s.w) j)) holds

    -- where neither is stored, but the view may know more
    neither_stored : 2 ≤ s.i
        → HoldsWith k.order (position_word words) (prev_word words)
        (map reserving_of views) id v s.w
        → HasOrder k.order
    neither_stored above holds =
        let position : position_word (later s) ≡ position_word words =
        word_else words s.i s.n 0 (λ e. omega arith) in
        let prev : prev_word (later s) ≡ prev_word words =
        word_else words s.i s.n 1 (λ e. omega arith) in
        subst (λ (x : ℕ × ℕ × List Reserving).
        OrderHolds v.opening k.order x.0 x.1 x.2)
        (λ j. (sym position j, sym prev j, sym (part_set reserving_of views id s.w) j)) holds

  -- a step that leaves the part
  stays : (e : StepKind) → reserving_of (moved words home views id v k here e).w ≡ reserving_of v
      → 2 ≤ word_of_step v e → HasOrder e k.order
  stays e same above = order_stays (moved words home views id v k here e) same above

  slot_same : (home : Option Plain) → reserving_of (with_slot v home) ≡ reserving_of v
  slot_same none = refl
  slot_same (some writer) = refl

  call_same : (f : Plain → Plain) (hold : Hold) → reserving_of
      (with_call_on v f hold) ≡ reserving_of v
  call_same f Idle = refl
  call_same f Turned = refl
  call_same f (Out l) = refl

  pub order_holds : (e : StepKind) → MayStep v e → HasOrder e (order_behind v e k.order)
  order_holds load_position may = position_stored load_position k.order refl
      (order.load_position_keeps k.order (position_word words) (prev_word words)
      (map reserving_of views) id v home takes_part)
  order_holds take_write_turn may = stays take_write_turn
      (same_either reserving_of (eqb (slice_index words write_turn_number) 0) (with_hold Turned v) v refl)
      (omega arith)
  order_holds slot_out may = stays slot_out (slot_same home) (omega arith)
  order_holds slot_in may = stays slot_in refl (omega arith)
  order_holds release_write_turn may = stays release_write_turn refl (omega arith)
  order_holds (lock_position expected) may = position_stored (lock_position expected) k.order refl
      (order.lock_position_keeps k.order (position_word words) (prev_word words)
      (map reserving_of views) id v home expected takes_part may)
  order_holds load_prev may = prev_stored load_prev refl
      (order.load_prev_keeps k.order (position_word words) (prev_word words)
      (map reserving_of views) id v home takes_part may)
  order_holds store_prev may = prev_stored store_prev refl
      (order.store_prev_keeps k.order (position_word words) (prev_word words)
      (map reserving_of views) id v home takes_part may)
  order_holds (store_position locks value) may = position_stored (store_position locks value)
      (order_behind v (store_position locks value) k.order) refl
      (order.store_position_keeps k.order (position_word words) (prev_word words)
      (map reserving_of views) id v home locks value takes_part may)
  order_holds (give_position_back value) may =
      position_stored (give_position_back value) k.order refl
      (order.give_position_back_keeps k.order (position_word words) (prev_word words)
      (map reserving_of views) id v home value takes_part may)
  order_holds stay may = position_stored stay k.order refl
      (order.stay_keeps k.order (position_word words) (prev_word words)
      (map reserving_of views) id v home takes_part may)
  order_holds (load_lock lock limit) may = stays (load_lock lock limit) refl (omega arith)
  order_holds (take_lock lock) may = stays (take_lock lock)
      (same_either reserving_of (eqb (slice_index words (lock_number lock)) 0)
      (with_working ((v.working).locks ++ lock ∷ []) (v.working).flight v) v refl) (omega arith)
  order_holds (advance lock upto) may = stays (advance lock upto) refl (omega arith)
  order_holds (release lock) may = stays (release lock) refl (omega arith)
  order_holds (load_buffer_end buffer) may = stays (load_buffer_end buffer) refl (omega arith)
  order_holds store_ring_word may = stays store_ring_word refl (omega arith)
  order_holds (load_ring_word number) may = stays (load_ring_word number) refl (omega arith)
  order_holds load_written may = stays load_written refl (omega arith)
  order_holds load_flushed may = neither_stored load_flushed (omega arith)
      (order.load_flushed_keeps k.order (position_word words) (prev_word words)
      (map reserving_of views) id v home (flushed_word words) takes_part
      (flushed_is_reserved (now words home views id v k) id v
      (has_now words home views id v k here)))
  order_holds load_moment may = stays load_moment refl (omega arith)
  order_holds load_down may = stays load_down refl (omega arith)
  order_holds store_written may = stays store_written refl (omega arith)
  order_holds store_moment may = stays store_moment refl (omega arith)
  order_holds store_flushed may = neither_stored store_flushed (omega arith)
      (order.load_flushed_keeps k.order (position_word words) (prev_word words)
      (map reserving_of views) id v home (number_lent v (λ l. l.hard) (v.writing).hold) takes_part
      (hard_is_reserved (now words home views id v k) id v (has_now words home views id v k here)
      may))
  order_holds set_down may = stays set_down refl (omega arith)
  order_holds load_async may = stays load_async refl (omega arith)
  order_holds (raise_async expected upto) may = stays (raise_async expected upto) refl (omega arith)
  order_holds take_mapping_turn may = stays take_mapping_turn
      (same_either reserving_of (eqb (slice_index words mapping_turn_number) 0) (with_stage Taken v) v refl)
      (omega arith)
  order_holds load_initialised_end may = stays load_initialised_end refl (omega arith)
  order_holds clear_end may = stays clear_end refl (omega arith)
  order_holds zero_ring_word may = stays zero_ring_word refl (omega arith)
  order_holds publish_end may = stays publish_end refl (omega arith)
  order_holds publish_initialised_end may = stays publish_initialised_end refl (omega arith)
  order_holds release_mapping_turn may = stays release_mapping_turn refl (omega arith)
  order_holds (create segment outcome) may =
      stays (create segment outcome) (call_same _ (v.writing).hold) (omega arith)
  order_holds (write segment page upto bytes outcome) may =
      stays (write segment page upto bytes outcome) (call_same _ (v.writing).hold) (omega arith)
  order_holds (sync segment outcome) may =
      stays (sync segment outcome) (call_same _ (v.writing).hold) (omega arith)
