-- What is read of the writer's disk, behind a step of any kind and where passes come and go. The
-- calls of the device change what is read; a store of a copy's next word changes the memory, a load
-- for a write what was loaded last; all other steps leave that, or let it go.
use Rattle.std.proofs.Common.{◌≡◌, ℕ, ◌/◌, Bool, true, false, cond, eqb, List, [], ◌∷◌, ◌++◌, map, set, slice_index, Some, refl, sym, ap, ◌∙◌, subst, arith}
use mathlib.Core.Option.{Option, none, some}
use Rattle.segment_disk.specs.declared.disk.Call.{Call}
use Rattle.segment_disk.specs.Assured.{IsNowhere, SegmentAssures, TapeAssures}
use Rattle.segment_disk.specs.Tape.{DiskState, Segment, Tape, create_call, failed_call, state_now, sync_call, write_call}
use Rattle.byte_position.specs.Geometry.{pages_of}
use Rattle.machine_state.specs.Words.{Opening, write_turn, mapping_turn_number, write_turn_number, lock_number}
use Rattle.machine_state.specs.Views.{HasAt, Hold, Turned, Out, Lent, Locked, Plain, Taken, View, Writing, writer_of, writing_of}
use Rattle.machine_state.specs.Moves.{CallOutcome, after_create, after_join, after_sync, after_write, hardened, orphan_of, spent, split_off, with_hold, with_lent, with_outcome, with_place, with_stage, with_working}
use Rattle.machine_state.specs.Durable.{IsLawfulAt}
use Rattle.machine_state.specs.Reading.{ReadingHolds, ReadsAtMost}
use Rattle.machine_state.specs.Suited.{BeganSuited, tape_from}
use Rattle.machine_state.specs.Steps.{StepKind, IsNextWrite, MayStep, word_of_step, view_behind, with_call_on, with_slot, load_position, take_write_turn, slot_out, slot_in, release_write_turn, lock_position, load_prev, store_prev, store_position, give_position_back, stay, load_lock, take_lock, advance, release, load_buffer_end, store_ring_word, load_ring_word, load_written, load_flushed, load_moment, load_down, store_written, store_moment, store_flushed, set_down, load_async, raise_async, take_mapping_turn, load_initialised_end, clear_end, zero_ring_word, publish_end, publish_initialised_end, release_mapping_turn, create, write, sync}
use Rattle.machine_state.specs.Sound.{IsSound}
use Rattle.machine_state.proofs.Lists.{part_at, part_set, view_from}
use Rattle.machine_state.proofs.Tapes.{at_suited}
use Rattle.machine_laws.specs.LocksBehind.{writer_behind}
use Rattle.machine_laws.specs.RingBehind.{memory_behind, memory_stored}
use Rattle.machine_laws.proofs.DurableAssured.{out_holds}
use Rattle.machine_laws.proofs.Frames.{same_either}
use Rattle.machine_laws.proofs.PageSteps.{memory_met}
use Rattle.machine_laws.proofs.ReadingCalls.{puts_created, puts_synced, puts_written}
use Rattle.machine_laws.proofs.ReadingParts as part
use Rattle.machine_laws.proofs.ReadingParts.{LoadsNoMore, Puts, as_before, lent_as_before, none_idle, none_lent, none_turned}
use Rattle.machine_laws.proofs.RingSteps.{memory_turns}

module _ {first : DiskState} (words : List ℕ) (home : Option Plain) (views : List View) (id : ℕ)
    (v : View) (k : IsSound first v.opening words home views) (here : HasAt views id v) where
  abbrev o : Opening
  o = v.opening

  abbrev size : ℕ
  size = ((v.opening).setup).seg_size

  abbrev parts : List Writing
  parts = map writing_of views

  mine : HasAt (map writing_of views) id v.writing
  mine = part_at writing_of views id v here

  abbrev behind : StepKind → View
  behind e = view_behind v e (slice_index words (word_of_step v e)) home

  abbrev HasReading : StepKind → (ℕ → ℕ) → Plain → Type 0
  HasReading e memory writer =
      ReadingHolds first v.opening memory writer (map writing_of (set views id (behind e)))

  by_part : (e : StepKind) (memory : ℕ → ℕ) (writer : Plain)
      → ReadingHolds first o memory writer (set parts id (writing_of (behind e)))
      → HasReading e memory writer
  by_part e memory writer = subst (λ (ps : List Writing). ReadingHolds first o memory writer ps)
      (sym (part_set writing_of views id (behind e)))

  -- ---- where nothing is loaded, and no call is made

  changes : (e : StepKind) → LoadsNoMore (v.writing).hold ((behind e).writing).hold
      → HasReading e k.memory k.writer
  changes e less = by_part e k.memory k.writer
      (part.part_changes first o k.memory k.writer parts k.reading id v.writing
      (writing_of (behind e)) mine less)

  -- nothing changes of what the view has of the turn
  keeps : (e : StepKind) → ((behind e).writing).hold ≡ (v.writing).hold
      → HasReading e k.memory k.writer
  keeps e is = changes e
      (subst (LoadsNoMore (v.writing).hold) (sym is) (as_before (v.writing).hold))

  -- of one of two views, of which each loads nothing
  either_less : (b : Bool) (x y : View) → LoadsNoMore (v.writing).hold (x.writing).hold
      → LoadsNoMore (v.writing).hold (y.writing).hold
      → LoadsNoMore (v.writing).hold ((cond b x y).writing).hold
  either_less true x y one other = one
  either_less false x y one other = other

  slot_less : (at : Option Plain) → LoadsNoMore (v.writing).hold ((with_slot v at).writing).hold
  slot_less none = as_before (v.writing).hold
  slot_less (some writer) = none_lent (v.writing).hold _ refl

  -- ---- calls of the device

  -- no other view has the writer in hand
  alone_out : (l : Lent) → (v.writing).hold ≡ Out l → (j : ℕ) (u : Writing) (m : Lent)
      → HasAt (map writing_of views) j u → u.hold ≡ Out m → j ≡ id
  alone_out l out j u m there is =
      let turn = (k.locks).writing in
      let found = view_from writing_of views j u there in
      let w = found.0 in
      let other = ap (λ (y : Writing). y.hold) found.2 ∙ is in
      sym (out_holds (write_turn words) turn.holder home k.writer j (w.reserving).number
      (w.writing).hold m other
      (turn.each j (writer_of w) (part_at writer_of views j w found.1)))
      ∙ out_holds (write_turn words) turn.holder home k.writer id (v.reserving).number
      (v.writing).hold l out (turn.each id (writer_of v) (part_at writer_of views id v here))

  abbrev PutsOf : Lent → Call → Type 0
  PutsOf l call = (t : Tape) → tape_from first (k.writer).calls ≡ Some t → BeganSuited o t
      → Puts size l.staged (state_now t) call

  called : (e : StepKind) (f : Plain → Plain) (call : Call) (outcome : CallOutcome) (l : Lent)
      → (v.writing).hold ≡ Out l → behind e ≡ with_call_on v f (v.writing).hold
      → PutsOf l call → ((made : Bool) → PutsOf l (failed_call made call))
      → (f k.writer).calls ≡ (with_outcome call outcome k.writer).calls
      → HasReading e k.memory (f k.writer)
  called e f call outcome l out is puts failed calls =
      let d = k.durable in
      let m : Lent = record l { writer = f l.writer } in
      let hold : ((with_call_on v f (v.writing).hold).writing).hold ≡ Out m =
      subst (λ (h : Hold). ((with_call_on v f h).writing).hold ≡ Out m) (sym out)
      (ap (with_lent (λ (n : Lent). record n { writer = f l.writer })) out) in
      by_part e k.memory (f k.writer)
      (part.call_made o k.memory k.writer parts k.reading d.counted
      (omega (arith, d.begun, d.moment_low)) id v.writing mine l out (alone_out l out) call outcome
      puts failed (f k.writer) calls (writing_of (behind e)) m
      (ap (λ (w : View). (w.writing).hold) is ∙ hold) refl)

  -- the segments that are there have all pages of this size
  has_pages : (t : Tape) → tape_from first (k.writer).calls ≡ Some t → BeganSuited o t
      → (segment : ℕ) (s : Segment) → state_now t segment ≡ Some s → s.pages ≡ pages_of size
  has_pages t is suited segment s there =
      let lawful = at_suited first o k.writer
      (TapeAssures size IsNowhere (IsLawfulAt o k.order) o.moment) t is suited
      (k.durable).lawful in
      (subst (SegmentAssures size IsNowhere (IsLawfulAt o k.order) segment) there
      (lawful.now segment)).0

  writes : (segment page upto : ℕ) (bytes : List ℕ) (l : Lent) → (v.writing).hold ≡ Out l
      → IsNextWrite o.setup segment page upto bytes l → (done : Bool) (t : Tape)
      → tape_from first (k.writer).calls ≡ Some t → BeganSuited o t
      → Puts size l.staged (state_now t)
      (record (write_call size segment page bytes) { done = done })
  writes segment page upto bytes l out may done t is suited =
      puts_written size (k.setup_is).size l.staged (state_now t) segment page
      ((l.writer).written / 8192) bytes may.on_segment may.page_is may.whole may.loaded
      (has_pages t is suited segment)
      (λ number word last. at_suited first o k.writer (ReadsAtMost size number word) t is suited
      ((k.reading).staged id v.writing l mine out number word last).read)
      done

  -- ---- a step

  pub reading_behind : (e : StepKind) → MayStep v e
      → HasReading e (memory_behind v e k.memory) (writer_behind v e k.writer)
  reading_behind load_position may = keeps load_position refl
  reading_behind take_write_turn may = changes take_write_turn
      (either_less (eqb (slice_index words write_turn_number) 0) (with_hold Turned v) v
      (none_turned (v.writing).hold) (as_before (v.writing).hold))
  reading_behind slot_out may = changes slot_out (slot_less home)
  reading_behind slot_in may = changes slot_in (none_turned (v.writing).hold)
  reading_behind release_write_turn may = changes release_write_turn (none_idle (v.writing).hold)
  reading_behind (lock_position expected) may = keeps (lock_position expected)
      (ap (λ (x : Writing). x.hold) (same_either writing_of (eqb (slice_index words 0) expected)
      (with_place (Locked expected) v) v refl))
  reading_behind load_prev may = keeps load_prev (rw may.1 refl)
  reading_behind store_prev may = keeps store_prev (rw may.2 refl)
  reading_behind (store_position locks value) may =
      keeps (store_position locks value) (rw may.2 refl)
  reading_behind (give_position_back value) may = keeps (give_position_back value) (rw may.1 refl)
  reading_behind stay may = keeps stay (rw may.1 refl)
  reading_behind (load_lock lock limit) may = keeps (load_lock lock limit) refl
  reading_behind (take_lock lock) may = keeps (take_lock lock)
      (ap (λ (x : Writing). x.hold)
      (same_either writing_of (eqb (slice_index words (lock_number lock)) 0)
      (with_working ((v.working).locks ++ lock ∷ []) (v.working).flight v) v refl))
  reading_behind (advance lock upto) may = keeps (advance lock upto) refl
  reading_behind (release lock) may = keeps (release lock) refl
  reading_behind (load_buffer_end buffer) may = keeps (load_buffer_end buffer) refl
  reading_behind store_ring_word may =
      part.memory_turns first o k.memory k.writer
      (map writing_of (set views id (behind store_ring_word)))
      (keeps store_ring_word refl) (memory_stored v k.memory)
      (memory_turns v words home views id k here may)
  reading_behind (load_ring_word number) may = by_part (load_ring_word number) k.memory k.writer
      (part.word_loaded first o k.memory k.writer parts k.reading id number
      (slice_index words (word_of_step v (load_ring_word number))) v.writing
      (writing_of (behind (load_ring_word number))) mine refl
      (λ l out. memory_met v words home views id k here number l out may))
  reading_behind load_written may = keeps load_written refl
  reading_behind load_flushed may = keeps load_flushed refl
  reading_behind load_moment may = keeps load_moment refl
  reading_behind load_down may = keeps load_down refl
  reading_behind store_written may = changes store_written
      (lent_as_before (λ (l : Lent). record l { stored = (l.writer).written }) (λ l. refl)
      (v.writing).hold)
  reading_behind store_moment may = changes store_moment
      (lent_as_before hardened (λ l. refl) (v.writing).hold)
  reading_behind store_flushed may = keeps store_flushed refl
  reading_behind set_down may = keeps set_down refl
  reading_behind load_async may = keeps load_async refl
  reading_behind (raise_async expected upto) may = keeps (raise_async expected upto) refl
  reading_behind take_mapping_turn may = keeps take_mapping_turn
      (ap (λ (x : Writing). x.hold) (same_either writing_of (eqb (slice_index words mapping_turn_number) 0)
      (with_stage Taken v) v refl))
  reading_behind load_initialised_end may = keeps load_initialised_end refl
  reading_behind clear_end may = keeps clear_end refl
  reading_behind zero_ring_word may = keeps zero_ring_word refl
  reading_behind publish_end may = keeps publish_end refl
  reading_behind publish_initialised_end may = keeps publish_initialised_end refl
  reading_behind release_mapping_turn may = keeps release_mapping_turn refl
  reading_behind (create segment outcome) may = called (create segment outcome)
      (after_create segment (create_call size segment) outcome) (create_call size segment) outcome
      may.0.0 may.0.1 refl
      (λ t is suited. puts_created size (k.setup_is).size (may.0.0).staged (state_now t) segment
      true true)
      (λ made t is suited. puts_created size (k.setup_is).size (may.0.0).staged (state_now t)
      segment made false)
      refl
  reading_behind (write segment page upto bytes outcome) may =
      called (write segment page upto bytes outcome)
      (after_write segment upto (write_call size segment page bytes) outcome)
      (write_call size segment page bytes) outcome may.0.0 may.0.1 refl
      (writes segment page upto bytes may.0.0 may.0.1 may.0.2 true)
      (λ made. writes segment page upto bytes may.0.0 may.0.1 may.0.2 false)
      refl
  reading_behind (sync segment outcome) may = called (sync segment outcome)
      (after_sync (sync_call size segment) outcome) (sync_call size segment) outcome
      may.0.0 may.0.1 refl
      (λ t is suited. puts_synced size (k.setup_is).size (may.0.0).staged (state_now t) segment
      true)
      (λ made t is suited. puts_synced size (k.setup_is).size (may.0.0).staged (state_now t)
      segment false)
      refl

  -- ---- passes

  pub reading_split : ReadingHolds first v.opening k.memory k.writer
      (set (map writing_of views) id v.writing ++ writing_of (split_off v) ∷ [])
  reading_split = part.part_added first o k.memory k.writer parts k.reading id v.writing v.writing
      mine (as_before (v.writing).hold)

  pub reading_given_up : ReadingHolds first v.opening k.memory k.writer
      (set (map writing_of views) id v.writing ++ writing_of (orphan_of v) ∷ [])
  reading_given_up = reading_split

  pub reading_taken_in : (other : ℕ) (w : View) → ReadingHolds first v.opening k.memory k.writer
      (set (set (map writing_of views) other (writing_of (spent w))) id
      (writing_of (after_join v w)))
  reading_taken_in other w = part.part_joined first o k.memory k.writer parts k.reading id other
      v.writing (writing_of (after_join v w)) mine (as_before (v.writing).hold)
