-- The invariant behind a step of any kind: each part by its own laws.
use Rattle.std.proofs.Common.{◌≡◌, ℕ, ◌+◌, true, List, [], ◌∷◌, ◌++◌, slice_index, sym, ap, subst}
use mathlib.Core.Option.{Option}
use Rattle.machine_state.specs.Views.{HasAt, Plain, Stage, Away, Taken, Looked, Ready, Zeroing, Published, View, mapper_of}
use Rattle.machine_state.specs.Locked.{HasTurn}
use Rattle.machine_state.specs.Moves.{entry_reserved, looked, ready}
use Rattle.machine_state.specs.Steps.{StepKind, MayStep, place_at, word_of_step, load_position, take_write_turn, slot_out, slot_in, release_write_turn, lock_position, load_prev, store_prev, store_position, give_position_back, stay, load_lock, take_lock, advance, release, load_buffer_end, store_ring_word, load_ring_word, load_written, load_flushed, load_moment, load_down, store_written, store_moment, store_flushed, set_down, load_async, raise_async, take_mapping_turn, load_initialised_end, clear_end, zero_ring_word, publish_end, publish_initialised_end, release_mapping_turn, create, write, sync}
use Rattle.machine_state.specs.Words.{down_word, initialised_number, written_number}
use Rattle.machine_state.specs.Sound.{IsSound}
use Rattle.machine_state.proofs.Lists.{part_at}
use Rattle.machine_laws.specs.LocksBehind.{order_behind, stage_behind, writer_behind, moved as stage_moved}
use Rattle.machine_laws.proofs.SoundLockSteps.{locks_behind}
use Rattle.machine_laws.specs.RingBehind.{HasRing, HasPages, memory_behind}
use Rattle.machine_laws.specs.RingLeft.{LeavesCopies, LeavesPages}
use Rattle.machine_laws.proofs.LeftSteps as left
use Rattle.machine_laws.proofs.PageSteps as page
use Rattle.machine_laws.proofs.RingSteps as ring
use Rattle.machine_laws.specs.DurableBehind.{HasDurable, IsInside, LoadsStaged}
use Rattle.machine_laws.proofs.SoundDurableSteps as durable
use Rattle.machine_laws.specs.InvariantKept.{KeepsSound}
use Rattle.machine_laws.proofs.Frames.{moved, later, grounded_stay, wide_stays}
use Rattle.machine_laws.proofs.GroundBehind.{grounded_behind, down_stays}
use Rattle.machine_laws.proofs.OrderBehind.{order_holds}
use Rattle.machine_laws.proofs.PositionsBehind.{positions_hold}
use Rattle.machine_laws.proofs.AlignedBehind.{aligned_behind}
use Rattle.machine_laws.proofs.AloneBehind.{alone_behind}
use Rattle.machine_laws.proofs.AsyncBehind.{async_behind}
use Rattle.machine_laws.proofs.FaultBehind.{failed_behind}
use Rattle.machine_laws.proofs.ReadingBehind.{reading_behind}
use Rattle.segment_disk.specs.Tape.{DiskState}

-- how many pages are mapped behind a step
abbrev pub reach_behind : StepKind → ℕ → ℕ
reach_behind publish_end reach = reach + 1
reach_behind other reach = reach

-- what holds of the stage that a load leaves, where only the mapper moves it
by_moved : (P : Stage → Type 0) (own stage : Stage) (f : Stage → Stage) → P stage
    → (HasTurn own → P (f stage)) → P (stage_moved own stage (f stage))
by_moved P Away stage f stays goes = stays
by_moved P Taken stage f stays goes = goes tt
by_moved P (Looked at) stage f stays goes = goes tt
by_moved P (Ready at written) stage f stays goes = goes tt
by_moved P (Zeroing at count) stage f stays goes = goes tt
by_moved P (Published at) stage f stays goes = goes tt

module _ {first : DiskState} (words : List ℕ) (home : Option Plain) (views : List View) (id : ℕ) (v : View)
    (k : IsSound first v.opening words home views) (here : HasAt views id v)
    (live : (v.reserving).live ≡ true) where
  -- where the part is left, or the step adds no entry and makes no call
  ring_left : (e : StepKind) → LeavesCopies e
      → HasRing v words home views id e k.order k.reach k.memory
  ring_left = left.ring_behind-left v words home views id k here

  pages_left : (e : StepKind) → MayStep v e → LeavesPages e
      → HasPages v words home views id e k.reach k.stage k.memory
  pages_left = left.pages_behind-left v words home views id k here

  inside : (e : StepKind) → MayStep v e → IsInside e
      → LoadsStaged v k.order e (slice_index words (word_of_step v e))
      → HasDurable first words home views id v e k.order k.writer
  inside = durable.durable-inside words home views id v k here

  ring_holds : (e : StepKind) → MayStep v e → HasRing v words home views id e
      (order_behind v e k.order) (reach_behind e k.reach) (memory_behind v e k.memory)
  ring_holds load_position may = ring_left load_position tt
  ring_holds take_write_turn may = ring_left take_write_turn tt
  ring_holds slot_out may = ring_left slot_out tt
  ring_holds slot_in may = ring_left slot_in tt
  ring_holds release_write_turn may = ring_left release_write_turn tt
  ring_holds (lock_position expected) may = ring_left (lock_position expected) tt
  ring_holds load_prev may = ring_left load_prev tt
  ring_holds store_prev may = ring_left store_prev tt
  ring_holds (store_position locks value) may =
      let number = (v.reserving).number in
      subst (λ (at : ℕ). HasRing v words home views id (store_position locks value)
      (k.order ++ entry_reserved number at value ∷ []) k.reach k.memory)
      (sym (ap (place_at v) may.2))
      (ring.ring_behind-reserved v words home views id k here locks value live may)
  ring_holds (give_position_back value) may = ring_left (give_position_back value) tt
  ring_holds stay may = ring_left stay tt
  ring_holds (load_lock lock limit) may = ring_left (load_lock lock limit) tt
  ring_holds (take_lock lock) may = ring_left (take_lock lock) tt
  ring_holds (advance lock upto) may = ring_left (advance lock upto) tt
  ring_holds (release lock) may = ring.ring_behind-released v words home views id k here lock may
  ring_holds (load_buffer_end buffer) may = ring_left (load_buffer_end buffer) tt
  ring_holds store_ring_word may = ring.ring_behind-stored v words home views id k here may
  ring_holds (load_ring_word number) may = ring_left (load_ring_word number) tt
  ring_holds load_written may = ring_left load_written tt
  ring_holds load_flushed may = ring_left load_flushed tt
  ring_holds load_moment may = ring_left load_moment tt
  ring_holds load_down may = ring_left load_down tt
  ring_holds store_written may = ring_left store_written tt
  ring_holds store_moment may = ring_left store_moment tt
  ring_holds store_flushed may = ring_left store_flushed tt
  ring_holds set_down may = ring_left set_down tt
  ring_holds load_async may = ring_left load_async tt
  ring_holds (raise_async expected upto) may = ring_left (raise_async expected upto) tt
  ring_holds take_mapping_turn may = ring_left take_mapping_turn tt
  ring_holds load_initialised_end may = ring_left load_initialised_end tt
  ring_holds clear_end may = ring_left clear_end tt
  ring_holds zero_ring_word may = ring_left zero_ring_word tt
  ring_holds publish_end may = ring.ring_behind-published v words home views id k here
  ring_holds publish_initialised_end may = ring_left publish_initialised_end tt
  ring_holds release_mapping_turn may = ring_left release_mapping_turn tt
  ring_holds (create segment outcome) may = ring_left (create segment outcome) tt
  ring_holds (write segment page upto bytes outcome) may = ring_left
      (write segment page upto bytes outcome) tt
  ring_holds (sync segment outcome) may = ring_left (sync segment outcome) tt

  -- the stage of the one that has the turn
  its_stage : HasTurn (v.mapping).stage → k.stage ≡ (v.mapping).stage
  its_stage has =
      (((k.locks).mapping).each id (mapper_of v) (part_at mapper_of views id v here) has).1

  pages_hold : (e : StepKind) → MayStep v e → HasPages v words home views id e
      (reach_behind e k.reach) (stage_behind v e (slice_index words (word_of_step v e)) k.stage)
      (memory_behind v e k.memory)
  pages_hold load_position may = pages_left load_position may tt
  pages_hold take_write_turn may = pages_left take_write_turn may tt
  pages_hold slot_out may = pages_left slot_out may tt
  pages_hold slot_in may = pages_left slot_in may tt
  pages_hold release_write_turn may = pages_left release_write_turn may tt
  pages_hold (lock_position expected) may = pages_left (lock_position expected) may tt
  pages_hold load_prev may = pages_left load_prev may tt
  pages_hold store_prev may = pages_left store_prev may tt
  pages_hold (store_position locks value) may = pages_left (store_position locks value) may tt
  pages_hold (give_position_back value) may = pages_left (give_position_back value) may tt
  pages_hold stay may = pages_left stay may tt
  pages_hold (load_lock lock limit) may = pages_left (load_lock lock limit) may tt
  pages_hold (take_lock lock) may = pages_left (take_lock lock) may tt
  pages_hold (advance lock upto) may = pages_left (advance lock upto) may tt
  pages_hold (release lock) may = pages_left (release lock) may tt
  pages_hold
      (load_buffer_end buffer) may = page.pages_behind-end v words home views id k here buffer may
  pages_hold store_ring_word may = page.pages_behind-stored v words home views id k here may
  pages_hold (load_ring_word number) may = pages_left (load_ring_word number) may tt
  pages_hold load_written may = by_moved
      (λ (st : Stage). HasPages v words home views id load_written k.reach st k.memory)
      (v.mapping).stage k.stage (ready (slice_index words written_number))
      (page.pages_behind-written_loaded v words home views id k here)
      (λ has. subst (λ (st : Stage). HasPages v words home views id load_written k.reach
      (ready (slice_index words written_number) st) k.memory) (sym (its_stage has))
      (page.pages_behind-ready v words home views id k here (its_stage has)))
  pages_hold load_flushed may = pages_left load_flushed may tt
  pages_hold load_moment may = pages_left load_moment may tt
  pages_hold load_down may = pages_left load_down may tt
  pages_hold store_written may = page.pages_behind-written v words home views id k here may
  pages_hold store_moment may = pages_left store_moment may tt
  pages_hold store_flushed may = pages_left store_flushed may tt
  pages_hold set_down may = pages_left set_down may tt
  pages_hold load_async may = pages_left load_async may tt
  pages_hold (raise_async expected upto) may = pages_left (raise_async expected upto) may tt
  pages_hold take_mapping_turn may = page.pages_behind-taken v words home views id k here
  pages_hold load_initialised_end may = by_moved
      (λ (st : Stage). HasPages v words home views id load_initialised_end k.reach st k.memory)
      (v.mapping).stage k.stage (looked (slice_index words initialised_number))
      (page.pages_behind-initialised v words home views id k here)
      (λ has. subst (λ (st : Stage). HasPages v words home views id load_initialised_end k.reach
      (looked (slice_index words initialised_number) st) k.memory) (sym (its_stage has))
      (page.pages_behind-looked v words home views id k here (its_stage has)))
  pages_hold clear_end may = page.pages_behind-cleared v words home views id k here may
  pages_hold zero_ring_word may = page.pages_behind-zeroed v words home views id k here may
  pages_hold publish_end may = page.pages_behind-published v words home views id k here may
  pages_hold publish_initialised_end may = page.pages_behind-advanced v words home views id k here may
  pages_hold release_mapping_turn may = page.pages_behind-given_back v words home views id k here may
  pages_hold (create segment outcome) may = pages_left (create segment outcome) may tt
  pages_hold (write segment page upto bytes outcome) may = pages_left
      (write segment page upto bytes outcome) may tt
  pages_hold (sync segment outcome) may = pages_left (sync segment outcome) may tt

  durable_holds : (e : StepKind) → MayStep v e → HasDurable first words home views id v e
      (order_behind v e k.order) (writer_behind v e k.writer)
  durable_holds load_position may = inside load_position may tt tt
  durable_holds take_write_turn may = inside take_write_turn may tt tt
  durable_holds slot_out may = inside slot_out may tt tt
  durable_holds slot_in may = inside slot_in may tt tt
  durable_holds release_write_turn may = inside release_write_turn may tt tt
  durable_holds (lock_position expected) may = inside (lock_position expected) may tt tt
  durable_holds load_prev may = inside load_prev may tt tt
  durable_holds store_prev may = inside store_prev may tt tt
  durable_holds
      (store_position locks value) may = durable.durable-reserved words home views id v k here live locks value may
  durable_holds (give_position_back value) may = inside (give_position_back value) may tt tt
  durable_holds stay may = inside stay may tt tt
  durable_holds (load_lock lock limit) may = inside (load_lock lock limit) may tt tt
  durable_holds (take_lock lock) may = inside (take_lock lock) may tt tt
  durable_holds (advance lock upto) may = inside (advance lock upto) may tt tt
  durable_holds (release lock) may = inside (release lock) may tt tt
  durable_holds (load_buffer_end buffer) may = inside (load_buffer_end buffer) may tt tt
  durable_holds store_ring_word may = inside store_ring_word may tt tt
  durable_holds (load_ring_word number) may = inside (load_ring_word number) may tt
      (λ l out. page.staged_behind v words home views id k here number l out may)
  durable_holds load_written may = inside load_written may tt tt
  durable_holds load_flushed may = inside load_flushed may tt tt
  durable_holds load_moment may = inside load_moment may tt tt
  durable_holds load_down may = inside load_down may tt tt
  durable_holds store_written may = inside store_written may tt tt
  durable_holds store_moment may = inside store_moment may tt tt
  durable_holds store_flushed may = inside store_flushed may tt tt
  durable_holds set_down may = inside set_down may tt tt
  durable_holds load_async may = inside load_async may tt tt
  durable_holds (raise_async expected upto) may = inside (raise_async expected upto) may tt tt
  durable_holds take_mapping_turn may = inside take_mapping_turn may tt tt
  durable_holds load_initialised_end may = inside load_initialised_end may tt tt
  durable_holds clear_end may = inside clear_end may tt tt
  durable_holds zero_ring_word may = inside zero_ring_word may tt tt
  durable_holds publish_end may = inside publish_end may tt tt
  durable_holds publish_initialised_end may = inside publish_initialised_end may tt tt
  durable_holds release_mapping_turn may = inside release_mapping_turn may tt tt
  durable_holds
      (create segment outcome) may = durable.durable-create words home views id v k here segment outcome may
  durable_holds (write segment page upto bytes outcome) may =
      durable.durable-write words home views id v k here segment page upto bytes outcome may
  durable_holds
      (sync segment outcome) may = durable.durable-sync words home views id v k here segment outcome may

  pub sound_behind : (e : StepKind) → MayStep v e → KeepsSound first words home views id v e
  sound_behind e may =
      let s = moved words home views id v k here e in
      let behind = locks_behind v.opening words home views k id v here live e may in
      record {
        order = order_behind v e k.order;
        memory = memory_behind v e k.memory;
        reach = reach_behind e k.reach;
        stage = stage_behind v e (slice_index words (word_of_step v e)) k.stage;
        writer = writer_behind v e k.writer;
        setup_is = k.setup_is;
        wide = wide_stays s;
        grounded = grounded_stay s (down_stays words home views id v k here live e may)
            (grounded_behind words home views id v k here live (down_word (later s)) e may);
        reserved = order_holds words home views id v k here live e may;
        locks = record {
          locks = (behind.0).held;
          mapping = (behind.1).mapping;
          writing = (behind.1).writing;
        };
        progress = (behind.0).told;
        alone = alone_behind words home views id v k here e may;
        ring = ring_holds e may;
        pages = pages_hold e may;
        positions = positions_hold words home views id v k here live e may;
        durable = durable_holds e may;
        reading = reading_behind words home views id v k here e may;
        watching = (behind.0).watched;
        async = async_behind words home views id v k here live e may;
        aligned = aligned_behind words home views id v k here live e may;
        failed = failed_behind words home views id v k here live e may;
      }
