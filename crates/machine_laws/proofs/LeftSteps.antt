-- The steps that leave what is said of ring and pages.
use Rattle.std.proofs.Common.{◌≡◌, ◌⊎◌, inl, inr, ℕ, ◌+◌, ◌<◌, ◌≤◌, Bool, true, false, cond, List, [], ◌∷◌, ◌++◌, map, set, sym, refl, ap, subst, ⊎_elim, arith}
use Rattle.std.specs.Prelude.{Contains, ◌==◌}
use mathlib.Core.Option.{Option, none, some}
use Rattle.wal_types.specs.declared.record.Record.{Record}
use Rattle.machine_state.specs.Words.{initialised_word, written_word, end_word, word_of_ring, async_number, initialised_number, written_number, flushed_number, ends_number}
use Rattle.machine_state.specs.Views.{HasAt, Place, Free, Locked, Loaded, Stored, StopCause, LogFull, AtSegmentStart, Flight, Taken, Reserving, Plain, Hold, Idle, Turned, Out, Writing, View, working_of, flight_of, confirmed_of}
use Rattle.machine_state.specs.Ringed.{RingHolds}
use Rattle.machine_state.specs.Paged.{PagesHold}
use Rattle.machine_state.specs.Moves.{with_reserving, with_place, with_writing, with_working, with_hold, with_stage, after_load_prev, after_store_prev, after_store_position, after_stop}
use Rattle.machine_state.specs.Steps.{StepKind, MayStep, word_of_step, value_behind, view_behind, with_slot, with_call_on, load_position, take_write_turn, slot_out, slot_in, release_write_turn, lock_position, load_prev, store_prev, store_position, give_position_back, stay, load_lock, take_lock, advance, release, load_buffer_end, store_ring_word, load_ring_word, load_written, load_flushed, load_moment, load_down, store_written, store_moment, store_flushed, set_down, load_async, raise_async, take_mapping_turn, load_initialised_end, clear_end, zero_ring_word, publish_end, publish_initialised_end, release_mapping_turn, create, write, sync, ring_place}
use Rattle.machine_state.specs.Sound.{IsSound}
use Rattle.machine_state.proofs.Lists.{part_at, part_same}
use Rattle.machine_state.proofs.WordLists.{word_again, word_else, ends_before, ring_before}
use Rattle.machine_laws.proofs.Buffers.{pages_alike}
use Rattle.machine_laws.specs.RingBehind.{met_by, words_behind, HasPages, HasRing}
use Rattle.machine_laws.specs.RingLeft.{LeavesCopies, LeavesPages}
use Rattle.segment_disk.specs.Tape.{DiskState}

-- what holds of each kind of step that leaves the copies, and of the three others
module _ (P : StepKind → Type 0) (left : (e : StepKind) → LeavesCopies e → P e)
    (put : (locks : List ℕ) (value : Record) → P (store_position locks value))
    (given : (lock : ℕ) → P (release lock)) (stored : P store_ring_word) where
  pub by_copies : (e : StepKind) → P e
  by_copies load_position = left load_position tt
  by_copies take_write_turn = left take_write_turn tt
  by_copies slot_out = left slot_out tt
  by_copies slot_in = left slot_in tt
  by_copies release_write_turn = left release_write_turn tt
  by_copies (lock_position expected) = left (lock_position expected) tt
  by_copies load_prev = left load_prev tt
  by_copies store_prev = left store_prev tt
  by_copies (store_position locks value) = put locks value
  by_copies (give_position_back value) = left (give_position_back value) tt
  by_copies stay = left stay tt
  by_copies (load_lock lock limit) = left (load_lock lock limit) tt
  by_copies (take_lock lock) = left (take_lock lock) tt
  by_copies (advance lock upto) = left (advance lock upto) tt
  by_copies (release lock) = given lock
  by_copies (load_buffer_end buffer) = left (load_buffer_end buffer) tt
  by_copies store_ring_word = stored
  by_copies (load_ring_word n) = left (load_ring_word n) tt
  by_copies load_written = left load_written tt
  by_copies load_flushed = left load_flushed tt
  by_copies load_moment = left load_moment tt
  by_copies load_down = left load_down tt
  by_copies store_written = left store_written tt
  by_copies store_moment = left store_moment tt
  by_copies store_flushed = left store_flushed tt
  by_copies set_down = left set_down tt
  by_copies load_async = left load_async tt
  by_copies (raise_async expected upto) = left (raise_async expected upto) tt
  by_copies take_mapping_turn = left take_mapping_turn tt
  by_copies load_initialised_end = left load_initialised_end tt
  by_copies clear_end = left clear_end tt
  by_copies zero_ring_word = left zero_ring_word tt
  by_copies publish_end = left publish_end tt
  by_copies publish_initialised_end = left publish_initialised_end tt
  by_copies release_mapping_turn = left release_mapping_turn tt
  by_copies (create segment outcome) = left (create segment outcome) tt
  by_copies (write segment page upto bytes outcome) = left (write segment page upto bytes outcome) tt
  by_copies (sync segment outcome) = left (sync segment outcome) tt

-- ---- a part that is neither of what a view reserves nor of what it writes

module _ {W : Type 0} (f : View → W) (v : View)
    (no_reserving : (x : Reserving) → f (with_reserving x v) ≡ f v)
    (no_writing : (x : Writing) → f (with_writing x v) ≡ f v) where
  if_same : (b : Bool) (w : View) → f w ≡ f v → f (cond b w v) ≡ f v
  if_same true w same = same
  if_same false w same = refl

  slot_same : (home : Option Plain) → f (with_slot v home) ≡ f v
  slot_same none = refl
  slot_same (some writer) = no_writing _

  call_same : (change : Plain → Plain) (hold : Hold) → f (with_call_on v change hold) ≡ f v
  call_same change Idle = refl
  call_same change Turned = refl
  call_same change (Out l) = no_writing _

  load_prev_same : (met : ℕ) (p : Place) → f (after_load_prev met (with_place p v)) ≡ f v
  load_prev_same met Free = no_reserving _
  load_prev_same met (Locked at) = no_reserving _
  load_prev_same met (Loaded at prev) = no_reserving _
  load_prev_same met (Stored at prev) = no_reserving _

  store_prev_same : (p : Place) → f (after_store_prev (with_place p v)) ≡ f v
  store_prev_same Free = no_reserving _
  store_prev_same (Locked at) = no_reserving _
  store_prev_same (Loaded at prev) = no_reserving _
  store_prev_same (Stored at prev) = no_reserving _

  stop_same : (cause : StopCause) (p : Place) → f (after_stop cause (with_place p v)) ≡ f v
  stop_same cause Free = no_reserving _
  stop_same cause (Locked at) = no_reserving _
  stop_same cause (Loaded at prev) = no_reserving _
  stop_same cause (Stored at prev) = no_reserving _

module _ (v : View) where
  reserved_met : (locks : List ℕ) (value : Record) (p : Place)
      → confirmed_of (after_store_position locks value (with_place p v)) ≡ confirmed_of v
  reserved_met locks value Free = refl
  reserved_met locks value (Locked at) = refl
  reserved_met locks value (Loaded at prev) = refl
  reserved_met locks value (Stored at prev) = refl

  pub flight_left : (e : StepKind) (met : ℕ) (home : Option Plain) → LeavesCopies e
      → flight_of (view_behind v e met home) ≡ flight_of v
  flight_left load_position met home leaves = refl
  flight_left take_write_turn met home leaves =
      if_same flight_of v (λ x. refl) (λ x. refl) (met == 0) (with_hold Turned v) refl
  flight_left slot_out met home leaves = slot_same flight_of v (λ x. refl) (λ x. refl) home
  flight_left slot_in met home leaves = refl
  flight_left release_write_turn met home leaves = refl
  flight_left (lock_position expected) met home leaves =
      if_same flight_of v (λ x. refl) (λ x. refl)
      (met == expected) (with_place (Locked expected) v) refl
  flight_left load_prev met home leaves =
      load_prev_same flight_of v (λ x. refl) (λ x. refl) met (v.reserving).place
  flight_left store_prev met home leaves =
      store_prev_same flight_of v (λ x. refl) (λ x. refl) (v.reserving).place
  flight_left (store_position locks value) met home leaves = absurd leaves
  flight_left (give_position_back value) met home leaves =
      stop_same flight_of v (λ x. refl) (λ x. refl) LogFull (v.reserving).place
  flight_left stay met home leaves =
      stop_same flight_of v (λ x. refl) (λ x. refl) AtSegmentStart
      (v.reserving).place
  flight_left (load_lock lock limit) met home leaves = refl
  flight_left (take_lock lock) met home leaves =
      if_same flight_of v (λ x. refl) (λ x. refl)
      (met == 0) (with_working ((v.working).locks ++ lock ∷ []) (v.working).flight v) refl
  flight_left (advance lock upto) met home leaves = refl
  flight_left (release lock) met home leaves = absurd leaves
  flight_left (load_buffer_end buffer) met home leaves = refl
  flight_left store_ring_word met home leaves = absurd leaves
  flight_left (load_ring_word n) met home leaves = refl
  flight_left load_written met home leaves = refl
  flight_left load_flushed met home leaves = refl
  flight_left load_moment met home leaves = refl
  flight_left load_down met home leaves = refl
  flight_left store_written met home leaves = refl
  flight_left store_moment met home leaves = refl
  flight_left store_flushed met home leaves = refl
  flight_left set_down met home leaves = refl
  flight_left load_async met home leaves = refl
  flight_left (raise_async expected upto) met home leaves = refl
  flight_left take_mapping_turn met home leaves =
      if_same flight_of v (λ x. refl) (λ x. refl) (met == 0) (with_stage Taken v) refl
  flight_left load_initialised_end met home leaves = refl
  flight_left clear_end met home leaves = refl
  flight_left zero_ring_word met home leaves = refl
  flight_left publish_end met home leaves = refl
  flight_left publish_initialised_end met home leaves = refl
  flight_left release_mapping_turn met home leaves = refl
  flight_left (create segment outcome) met home leaves =
      call_same flight_of v (λ x. refl) (λ x. refl) _ (v.writing).hold
  flight_left (write segment page upto bytes outcome) met home leaves =
      call_same flight_of v (λ x. refl) (λ x. refl) _ (v.writing).hold
  flight_left (sync segment outcome) met home leaves =
      call_same flight_of v (λ x. refl) (λ x. refl) _ (v.writing).hold

  pub confirmed_left : (e : StepKind) (met : ℕ) (home : Option Plain) → LeavesPages e
      → confirmed_of (view_behind v e met home) ≡ confirmed_of v
  confirmed_left load_position met home leaves = refl
  confirmed_left take_write_turn met home leaves =
      if_same confirmed_of v (λ x. refl) (λ x. refl) (met == 0) (with_hold Turned v) refl
  confirmed_left slot_out met home leaves = slot_same confirmed_of v (λ x. refl) (λ x. refl) home
  confirmed_left slot_in met home leaves = refl
  confirmed_left release_write_turn met home leaves = refl
  confirmed_left (lock_position expected) met home leaves =
      if_same confirmed_of v (λ x. refl) (λ x. refl)
      (met == expected) (with_place (Locked expected) v) refl
  confirmed_left load_prev met home leaves =
      load_prev_same confirmed_of v (λ x. refl) (λ x. refl) met (v.reserving).place
  confirmed_left store_prev met home leaves =
      store_prev_same confirmed_of v (λ x. refl) (λ x. refl) (v.reserving).place
  confirmed_left (store_position locks value) met home leaves =
      reserved_met locks value (v.reserving).place
  confirmed_left (give_position_back value) met home leaves =
      stop_same confirmed_of v (λ x. refl) (λ x. refl) LogFull (v.reserving).place
  confirmed_left stay met home leaves =
      stop_same confirmed_of v (λ x. refl) (λ x. refl) AtSegmentStart
      (v.reserving).place
  confirmed_left (load_lock lock limit) met home leaves = refl
  confirmed_left (take_lock lock) met home leaves =
      if_same confirmed_of v (λ x. refl) (λ x. refl)
      (met == 0) (with_working ((v.working).locks ++ lock ∷ []) (v.working).flight v) refl
  confirmed_left (advance lock upto) met home leaves = refl
  confirmed_left (release lock) met home leaves = refl
  confirmed_left (load_buffer_end buffer) met home leaves = absurd leaves
  confirmed_left store_ring_word met home leaves = absurd leaves
  confirmed_left (load_ring_word n) met home leaves = refl
  confirmed_left load_written met home leaves = absurd leaves
  confirmed_left load_flushed met home leaves = refl
  confirmed_left load_moment met home leaves = refl
  confirmed_left load_down met home leaves = refl
  confirmed_left store_written met home leaves = absurd leaves
  confirmed_left store_moment met home leaves = refl
  confirmed_left store_flushed met home leaves = refl
  confirmed_left set_down met home leaves = refl
  confirmed_left load_async met home leaves = refl
  confirmed_left (raise_async expected upto) met home leaves = refl
  confirmed_left take_mapping_turn met home leaves = absurd leaves
  confirmed_left load_initialised_end met home leaves = absurd leaves
  confirmed_left clear_end met home leaves = absurd leaves
  confirmed_left zero_ring_word met home leaves = absurd leaves
  confirmed_left publish_end met home leaves = absurd leaves
  confirmed_left publish_initialised_end met home leaves = absurd leaves
  confirmed_left release_mapping_turn met home leaves = absurd leaves
  confirmed_left (create segment outcome) met home leaves =
      call_same confirmed_of v (λ x. refl) (λ x. refl) _ (v.writing).hold
  confirmed_left (write segment page upto bytes outcome) met home leaves =
      call_same confirmed_of v (λ x. refl) (λ x. refl) _ (v.writing).hold
  confirmed_left (sync segment outcome) met home leaves =
      call_same confirmed_of v (λ x. refl) (λ x. refl) _ (v.writing).hold

-- ---- a state that keeps the invariant

module _ {first : DiskState} (v : View) (words : List ℕ) (home : Option Plain) (views : List View) (id : ℕ)
    (s : IsSound first v.opening words home views) (here : HasAt views id v) where
  -- the lock of a step that changes one is one of eight
  held-low : (lock : ℕ) → Contains (v.working).locks lock → lock < 8
  held-low lock held = (((s.locks).locks).each id lock v.working
      (part_at working_of views id v here) held).0

  pub ring_behind-left : (e : StepKind) → LeavesCopies e
      → HasRing v words home views id e s.order s.reach s.memory
  ring_behind-left e leaves =
      let met : ℕ = met_by v words home views id e in
      subst (λ (fs : List Flight). RingHolds v.opening s.order s.reach s.memory fs)
      (sym (part_same flight_of views id v (view_behind v e met home) here
      (flight_left v e met home leaves))) s.ring

  -- a step that sets a word that is not said of pages, or none
  pages_left : (e : StepKind)
      → confirmed_of (view_behind v e (met_by v words home views id e) home) ≡ confirmed_of v
      → (_ : initialised_word (words_behind v words home views id e) ≡ initialised_word words)
      (_ : written_word (words_behind v words home views id e) ≡ written_word words)
      (_ : end_word (words_behind v words home views id e) ≡ end_word words)
      (_ : word_of_ring (v.opening).setup (words_behind v words home views id e)
      ≡ word_of_ring (v.opening).setup words)
      → HasPages v words home views id e s.reach s.stage s.memory
  pages_left e same i w es r =
      let parts = part_same confirmed_of views id v
      (view_behind v e (met_by v words home views id e) home) here same in
      subst (λ (x : ℕ × ℕ × (ℕ → ℕ) × (ℕ → ℕ) × List ℕ).
      PagesHold ((v.opening).setup).ring_pages s.reach s.stage x.0 x.1 x.2 x.3 s.memory x.4)
      (λ j. (sym i j, sym w j, sym es j, sym r j, sym parts j)) s.pages

  pages_by_word : (e : StepKind) → LeavesPages e → (word_of_step v e < initialised_number)
      ⊎ ((flushed_number ≤ word_of_step v e) × (word_of_step v e < ends_number))
      → HasPages v words home views id e s.reach s.stage s.memory
  pages_by_word e leaves away =
      let i : ℕ = word_of_step v e in
      let n : ℕ = value_behind v e (met_by v words home views id e) in
      let before : i < ends_number = ⊎_elim (λ a. omega arith) (λ a. a.1) away in
      pages_left e (confirmed_left v e (met_by v words home views id e) home leaves)
      (word_else words i n initialised_number (λ f. ⊎_elim (λ a. omega arith)
      (λ a. let b = a.0 in omega arith) away))
      (word_else words i n written_number (λ f. ⊎_elim (λ a. omega arith)
      (λ a. let b = a.0 in omega arith) away))
      (ends_before words i n before) (ring_before words (v.opening).setup i n (omega arith))

  -- the last word stands behind those of buffers and ring
  pages_raised : (expected upto : ℕ) → HasPages v words home views id (raise_async expected upto)
      s.reach s.stage s.memory
  pages_raised expected upto =
      let e : StepKind = raise_async expected upto in
      let i : ℕ = async_number (v.opening).setup in
      let n : ℕ = value_behind v e (met_by v words home views id e) in
      let low = (s.setup_is).ring_low in
      let parts = part_same confirmed_of views id v
      (view_behind v e (met_by v words home views id e) home) here refl in
      subst (λ (x : ℕ × ℕ × List ℕ). PagesHold ((v.opening).setup).ring_pages s.reach s.stage x.0
      x.1 (end_word (set words i n)) (word_of_ring (v.opening).setup (set words i n)) s.memory x.2)
      (λ j. (
        sym (word_else words i n initialised_number (λ e. omega arith)) j,
        sym (word_else words i n written_number (λ e. omega arith)) j,
        sym parts j,
      ))
      (pages_alike ((v.opening).setup).ring_pages s.reach s.stage (initialised_word words)
      (written_word words) (end_word words) (word_of_ring (v.opening).setup words) s.memory
      (map confirmed_of views) (end_word (set words i n))
      (word_of_ring (v.opening).setup (set words i n))
      (λ b below. word_else words i n (ends_number + b) (λ e. omega arith))
      (λ k below. word_else words i n (ends_number + ((v.opening).setup).ring_pages + k)
      (λ e. omega arith)) s.pages)

  pub pages_behind-left : (e : StepKind) → MayStep v e → LeavesPages e
      → HasPages v words home views id e s.reach s.stage s.memory
  pages_behind-left load_position may leaves = pages_by_word load_position tt (inl (omega arith))
  pages_behind-left take_write_turn may leaves =
      pages_by_word take_write_turn tt (inl (omega arith))
  pages_behind-left slot_out may leaves = pages_by_word slot_out tt (inl (omega arith))
  pages_behind-left slot_in may leaves = pages_by_word slot_in tt (inl (omega arith))
  pages_behind-left release_write_turn may leaves =
      pages_by_word release_write_turn tt (inl (omega arith))
  pages_behind-left (lock_position expected) may leaves =
      pages_by_word (lock_position expected) tt (inl (omega arith))
  pages_behind-left load_prev may leaves = pages_by_word load_prev tt (inl (omega arith))
  pages_behind-left store_prev may leaves = pages_by_word store_prev tt (inl (omega arith))
  pages_behind-left (store_position locks value) may leaves =
      pages_by_word (store_position locks value) tt (inl (omega arith))
  pages_behind-left (give_position_back value) may leaves =
      pages_by_word (give_position_back value) tt (inl (omega arith))
  pages_behind-left stay may leaves =
      pages_by_word stay tt (inl (omega arith))
  pages_behind-left (load_lock lock limit) may leaves =
      pages_by_word (load_lock lock limit) tt (inl (omega arith))
  pages_behind-left (take_lock lock) may leaves =
      pages_by_word (take_lock lock) tt (inl (omega arith))
  pages_behind-left (advance lock upto) may leaves =
      pages_by_word (advance lock upto) tt (inl (let low = held-low lock may.0 in omega arith))
  pages_behind-left (release lock) may leaves =
      pages_by_word (release lock) tt (inl (let low = held-low lock may.0 in omega arith))
  pages_behind-left (load_buffer_end buffer) may leaves = absurd leaves
  pages_behind-left store_ring_word may leaves = absurd leaves
  pages_behind-left (load_ring_word n) may leaves =
      let place : ℕ = ends_number + ((v.opening).setup).ring_pages + ring_place (v.opening).setup n in
      let same = word_again words place in
      pages_left (load_ring_word n) refl (ap initialised_word same) (ap written_word same)
      (ap end_word same) (ap (word_of_ring (v.opening).setup) same)
  pages_behind-left load_written may leaves = absurd leaves
  pages_behind-left load_flushed may leaves =
      pages_by_word load_flushed tt (inr (omega arith, omega arith))
  pages_behind-left load_moment may leaves =
      pages_by_word load_moment tt (inr (omega arith, omega arith))
  pages_behind-left load_down may leaves =
      pages_by_word load_down tt (inr (omega arith, omega arith))
  pages_behind-left store_written may leaves = absurd leaves
  pages_behind-left store_moment may leaves =
      pages_by_word store_moment tt (inr (omega arith, omega arith))
  pages_behind-left store_flushed may leaves =
      pages_by_word store_flushed tt (inr (omega arith, omega arith))
  pages_behind-left set_down may leaves =
      pages_by_word set_down tt (inr (omega arith, omega arith))
  pages_behind-left load_async may leaves =
      let same = word_again words (async_number (v.opening).setup) in
      pages_left load_async refl (ap initialised_word same) (ap written_word same)
      (ap end_word same) (ap (word_of_ring (v.opening).setup) same)
  pages_behind-left (raise_async expected upto) may leaves = pages_raised expected upto
  pages_behind-left take_mapping_turn may leaves = absurd leaves
  pages_behind-left load_initialised_end may leaves = absurd leaves
  pages_behind-left clear_end may leaves = absurd leaves
  pages_behind-left zero_ring_word may leaves = absurd leaves
  pages_behind-left publish_end may leaves = absurd leaves
  pages_behind-left publish_initialised_end may leaves = absurd leaves
  pages_behind-left release_mapping_turn may leaves = absurd leaves
  pages_behind-left (create segment outcome) may leaves =
      pages_by_word (create segment outcome) tt (inl (omega arith))
  pages_behind-left (write segment page upto bytes outcome) may leaves =
      pages_by_word (write segment page upto bytes outcome) tt (inl (omega arith))
  pages_behind-left (sync segment outcome) may leaves =
      pages_by_word (sync segment outcome) tt (inl (omega arith))
