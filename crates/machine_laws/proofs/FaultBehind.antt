-- Who knows that the disk has failed, behind a step of any kind and where passes come and go: who
-- set the down word, or met it, is live and knows it still, or was taken in by one that knows it.
use Rattle.std.proofs.Common.{◌≡◌, ◌≢◌, ◌⊎◌, inl, inr, ℕ, Bool, true, eqb, List, [], ◌∷◌, ◌++◌, set, slice_index, refl, sym, ap, ◌∙◌, subst, arith}
use mathlib.Core.Logic.{dite}
use mathlib.Core.Option.{Option, none, some}
use native.Mathlib.Decide.{ℕ_discrete}
use Rattle.segment_disk.specs.Tape.{DiskState}
use Rattle.machine_state.specs.Words.{down_word, mapping_turn_number, write_turn_number, down_number, lock_number}
use Rattle.machine_state.specs.Views.{HasAt, Hold, Idle, Locked, Out, Plain, Taken, Turned, View}
use Rattle.machine_state.specs.Failed.{FaultIsKnown, KnowsOfFault, SomeKnowsOfFault}
use Rattle.machine_state.specs.Moves.{after_join, after_split, orphan_of, spent, split_off, with_hold, with_place, with_stage, with_working, without_work}
use Rattle.machine_state.specs.Steps.{StepKind, MayStep, word_of_step, view_behind, with_slot, with_call_on, load_position, take_write_turn, slot_out, slot_in, release_write_turn, lock_position, load_prev, store_prev, store_position, give_position_back, stay, load_lock, take_lock, advance, release, load_buffer_end, store_ring_word, load_ring_word, load_written, load_flushed, load_moment, load_down, store_written, store_moment, store_flushed, set_down, load_async, raise_async, take_mapping_turn, load_initialised_end, clear_end, zero_ring_word, publish_end, publish_initialised_end, release_mapping_turn, create, write, sync}
use Rattle.machine_state.specs.Sound.{IsSound}
use Rattle.machine_state.proofs.Lists.{at_else, at_front, at_place, at_same}
use Rattle.machine_state.proofs.WordLists.{single_set, word_again, word_else}
use Rattle.machine_laws.proofs.Frames.{Moved, moved, later, same_either, views_later}
use Rattle.machine_laws.proofs.PositionsBehind.{lock_low}

-- what is said of a view: whether it is live, and the down values that it met and set
abbrev knows_of : View → Bool × ℕ × ℕ
knows_of v = ((v.reserving).live, (v.writing).down_met, (v.writing).down_set)

-- a view that knows it is one of these, and of each that knows it this is so
abbrev IsKnowing : View → Type 0
IsKnowing v = ((v.reserving).live ≡ true) × KnowsOfFault v

knowing_as : (v w : View) → knows_of w ≡ knows_of v → IsKnowing v → IsKnowing w
knowing_as v w is knows = subst (λ (x : Bool × ℕ × ℕ). (x.0 ≡ true) × ((x.1 ≢ 0) ⊎ (x.2 ≢ 0)))
    (sym is) knows

-- some view that knows it, with its place
known_at : (views : List View) (id : ℕ) (v : View) → HasAt views id v → IsKnowing v
    → SomeKnowsOfFault views
known_at views id v here knows = (id, v, here, knows.0, knows.1)

-- each view that knows it goes on, so some view knows it still
goes_on : (down : ℕ) (views changed : List View) → FaultIsKnown down views
    → ((j : ℕ) (u : View) → HasAt views j u → IsKnowing u → SomeKnowsOfFault changed)
    → FaultIsKnown down changed
goes_on down views changed known each failed =
    let who = known failed in each who.0 who.1 who.2 (who.3, who.4)

-- one view is replaced by one that knows it where the first did
in_place : (views : List View) (id : ℕ) (v w : View) → HasAt views id v
    → (IsKnowing v → IsKnowing w)
    → (j : ℕ) (u : View) → HasAt views j u → IsKnowing u → SomeKnowsOfFault (set views id w)
in_place views id v w here stays j u at knows = dite (ℕ_discrete j id)
    (λ (is : j ≡ id).
    let same = at_same views u v id (subst (λ (n : ℕ). HasAt views n u) is at) here in
    known_at (set views id w) id w (at_place views id v w here)
    (stays (subst IsKnowing same knows)))
    (λ apart. known_at (set views id w) j u (at_else views id j w u apart at) knows)

-- and one is added
with_one_more : (views : List View) (x : View) → SomeKnowsOfFault views
    → SomeKnowsOfFault (views ++ x ∷ [])
with_one_more views x who =
    known_at (views ++ x ∷ []) who.0 who.1 (at_front views who.0 x who.1 who.2) (who.3, who.4)

module _ {first : DiskState} (words : List ℕ) (home : Option Plain) (views : List View) (id : ℕ) (v : View)
    (k : IsSound first v.opening words home views) (here : HasAt views id v) where
  -- ---- passes

  pub split_failed : FaultIsKnown (down_word words)
      (set views id (after_split v) ++ split_off v ∷ [])
  split_failed = goes_on (down_word words) views _ k.failed (λ j u at knows.
      with_one_more (set views id (after_split v)) (split_off v)
      (in_place views id v (after_split v) here (knowing_as v (after_split v) refl) j u at knows))

  pub give_up_failed : FaultIsKnown (down_word words)
      (set views id (without_work v) ++ orphan_of v ∷ [])
  give_up_failed = goes_on (down_word words) views _ k.failed (λ j u at knows.
      with_one_more (set views id (without_work v)) (orphan_of v)
      (in_place views id v (without_work v) here (knowing_as v (without_work v) refl) j u at knows))

  -- who takes a pass in knows what either did
  joined_knows : (w : View) → KnowsOfFault v ⊎ KnowsOfFault w → KnowsOfFault (after_join v w)
  joined_knows w (inl (inl met)) = inl (λ e. met (omega (arith, e)))
  joined_knows w (inl (inr own)) = inr own
  joined_knows w (inr (inl met)) = inl (λ e. met (omega (arith, e)))
  joined_knows w (inr (inr own)) = inl (λ e. own (omega (arith, e)))

  pub join_failed : (live : (v.reserving).live ≡ true) (other : ℕ) (w : View)
      → HasAt views other w → id ≢ other
      → FaultIsKnown (down_word words) (set (set views other (spent w)) id (after_join v w))
  join_failed live other w there apart = goes_on (down_word words) views _ k.failed
      (λ j u at knows. dite (ℕ_discrete j other)
      (λ (is : j ≡ other).
      let same = at_same views u w other (subst (λ (n : ℕ). HasAt views n u) is at) there in
      taker (inr (subst IsKnowing same knows).1))
      (λ (not_other : j ≢ other). dite (ℕ_discrete j id)
      (λ (is : j ≡ id).
      let same = at_same views u v id (subst (λ (n : ℕ). HasAt views n u) is at) here in
      taker (inl (subst IsKnowing same knows).1))
      (λ (not_this : j ≢ id). known_at _ j u
      (at_else (set views other (spent w)) id j (after_join v w) u not_this
      (at_else views other j (spent w) u not_other at)) knows)))
    where
      taker : KnowsOfFault v ⊎ KnowsOfFault w
          → SomeKnowsOfFault (set (set views other (spent w)) id (after_join v w))
      taker knows = known_at _ id (after_join v w)
          (at_place (set views other (spent w)) id v (after_join v w)
          (at_else views other id (spent w) v apart here))
          (live, joined_knows w knows)

  -- ---- a step

  module _ (live : (v.reserving).live ≡ true) where
    abbrev behind : StepKind → View
    behind e = view_behind v e (slice_index words (word_of_step v e)) home

    abbrev s : StepKind → Moved
    s e = moved words home views id v k here e

    abbrev IsKnownBehind : StepKind → Type 0
    IsKnownBehind e = FaultIsKnown (down_word (later (s e))) (views_later (s e))

    -- another word is stored, and the view knows what it knew
    knows_still : (e : StepKind) → down_number ≢ word_of_step v e → (IsKnowing v → IsKnowing (behind e))
        → IsKnownBehind e
    knows_still e apart still = subst (λ (down : ℕ). FaultIsKnown down (views_later (s e)))
        (sym (word_else words (s e).i (s e).n down_number apart))
        (goes_on (down_word words) views (views_later (s e)) k.failed
        (in_place views id v (behind e) here still))

    stays : (e : StepKind) → down_number ≢ word_of_step v e → knows_of (behind e) ≡ knows_of v
        → IsKnownBehind e
    stays e apart is = knows_still e apart (knowing_as v (behind e) is)

    loaded : IsKnownBehind load_down
    loaded failed = known_at _ id (behind load_down) (at_place views id v (behind load_down) here)
        (live, inl (λ none. failed (ap down_word (word_again words down_number) ∙ none)))

    stored : IsKnownBehind set_down
    stored failed = known_at _ id (behind set_down) (at_place views id v (behind set_down) here) (
      live,
      inr (λ none. failed
          (single_set words (v.opening).setup k.wide down_number (s set_down).n (omega arith) ∙ none)),
    )

    -- who takes a writer that has failed knows it then
    slot_knows : (home : Option Plain) → IsKnowing v → IsKnowing (with_slot v home)
    slot_knows none knows = knows
    slot_knows (some writer) (is, inl met) = (is, inl (λ e. met (omega (arith, e))))
    slot_knows (some writer) (is, inr own) = (is, inr own)

    call_same : (f : Plain → Plain) (hold : Hold) → knows_of (with_call_on v f hold) ≡ knows_of v
    call_same f Idle = refl
    call_same f Turned = refl
    call_same f (Out l) = refl

    pub failed_behind : (e : StepKind) → MayStep v e → IsKnownBehind e
    failed_behind load_position may = stays load_position (λ e. omega arith) refl
    failed_behind take_write_turn may = stays take_write_turn (λ e. omega arith)
        (same_either knows_of (eqb (slice_index words write_turn_number) 0) (with_hold Turned v) v refl)
    failed_behind slot_out may = knows_still slot_out (λ e. omega arith) (slot_knows home)
    failed_behind slot_in may = stays slot_in (λ e. omega arith) refl
    failed_behind release_write_turn may = stays release_write_turn (λ e. omega arith) refl
    failed_behind (lock_position expected) may = stays (lock_position expected) (λ e. omega arith)
        (same_either knows_of (eqb (slice_index words 0) expected)
        (with_place (Locked expected) v) v refl)
    failed_behind load_prev may = stays load_prev (λ e. omega arith) (rw may.1 refl)
    failed_behind store_prev may = stays store_prev (λ e. omega arith) (rw may.2 refl)
    failed_behind (store_position locks value) may =
        stays (store_position locks value) (λ e. omega arith) (rw may.2 refl)
    failed_behind (give_position_back value) may =
        stays (give_position_back value) (λ e. omega arith) (rw may.1 refl)
    failed_behind stay may = stays stay (λ e. omega arith) (rw may.1 refl)
    failed_behind (load_lock lock limit) may =
        stays (load_lock lock limit) (λ e. omega (arith, may.0)) refl
    failed_behind (take_lock lock) may = stays (take_lock lock) (λ e. omega (arith, may))
        (same_either knows_of (eqb (slice_index words (lock_number lock)) 0)
        (with_working ((v.working).locks ++ lock ∷ []) (v.working).flight v) v refl)
    failed_behind (advance lock upto) may =
        let low = lock_low words home views id v k here live lock may.0 in
        stays (advance lock upto) (λ e. omega arith) refl
    failed_behind (release lock) may =
        let low = lock_low words home views id v k here live lock may.0 in
        stays (release lock) (λ e. omega arith) refl
    failed_behind (load_buffer_end buffer) may =
        stays (load_buffer_end buffer) (λ e. omega arith) refl
    failed_behind store_ring_word may = stays store_ring_word (λ e. omega arith) refl
    failed_behind (load_ring_word number) may =
        stays (load_ring_word number) (λ e. omega arith) refl
    failed_behind load_written may = stays load_written (λ e. omega arith) refl
    failed_behind load_flushed may = stays load_flushed (λ e. omega arith) refl
    failed_behind load_moment may = stays load_moment (λ e. omega arith) refl
    failed_behind load_down may = loaded
    failed_behind store_written may = stays store_written (λ e. omega arith) refl
    failed_behind store_moment may = stays store_moment (λ e. omega arith) refl
    failed_behind store_flushed may = stays store_flushed (λ e. omega arith) refl
    failed_behind set_down may = stored
    failed_behind load_async may = stays load_async (λ e. omega arith) refl
    failed_behind (raise_async expected upto) may =
        stays (raise_async expected upto) (λ e. omega arith) refl
    failed_behind take_mapping_turn may = stays take_mapping_turn (λ e. omega arith)
        (same_either knows_of (eqb (slice_index words mapping_turn_number) 0) (with_stage Taken v) v refl)
    failed_behind load_initialised_end may = stays load_initialised_end (λ e. omega arith) refl
    failed_behind clear_end may = stays clear_end (λ e. omega arith) refl
    failed_behind zero_ring_word may = stays zero_ring_word (λ e. omega arith) refl
    failed_behind publish_end may = stays publish_end (λ e. omega arith) refl
    failed_behind publish_initialised_end may =
        stays publish_initialised_end (λ e. omega arith) refl
    failed_behind release_mapping_turn may = stays release_mapping_turn (λ e. omega arith) refl
    failed_behind (create segment outcome) may = stays (create segment outcome) (λ e. omega arith)
        (call_same _ (v.writing).hold)
    failed_behind (write segment page upto bytes outcome) may =
        stays (write segment page upto bytes outcome) (λ e. omega arith)
        (call_same _ (v.writing).hold)
    failed_behind (sync segment outcome) may = stays (sync segment outcome) (λ e. omega arith)
        (call_same _ (v.writing).hold)
