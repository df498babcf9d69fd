-- Ring and pages behind each kind of step that changes what is said of them, in a state that keeps
-- the invariant.
use Rattle.std.proofs.Common.{◌≡◌, ◌⊎◌, ℕ, ◌+◌, true, List, [], ◌∷◌, ◌++◌, map, set, sym, refl, ap, ◌∙◌, subst, arith}
use mathlib.Core.Option.{Option}
use Rattle.wal_types.specs.declared.record.Record.{Record}
use Rattle.wal_page.specs.Order.{Entry}
use Rattle.machine_state.specs.declared.setup.Setup.{Setup}
use Rattle.machine_state.specs.Words.{initialised_word, written_word, end_word, word_of_ring, order_end, last_start}
use Rattle.machine_state.specs.Views.{HasAt, Place, Flight, Copying, Plain, View, reserving_of, flight_of, confirmed_of}
use Rattle.machine_state.specs.Ordered.{AtPlace}
use Rattle.machine_state.specs.Ringed.{RingHolds}
use Rattle.machine_state.specs.Moves.{with_place, entry_reserved, after_store_position, landed, one_more}
use Rattle.machine_state.specs.Steps.{StepKind, MayStep, view_behind, store_position, release, store_ring_word, publish_end, number_of_next, next_value}
use Rattle.machine_state.specs.Sound.{IsSound}
use Rattle.machine_state.proofs.Lists.{part_at, part_set}
use Rattle.machine_laws.specs.WordsPut.{IsPut}
use Rattle.machine_laws.specs.RingBehind.{memory_stored, met_by, HasRing}
use Rattle.machine_laws.proofs.PutWords.{put_is}
use Rattle.machine_laws.proofs.RingLaws as ring
use Rattle.machine_laws.proofs.StoredWords.{is_mapped}
use Rattle.segment_disk.specs.Tape.{DiskState}

module _ {first : DiskState} (v : View) (words : List ℕ) (home : Option Plain) (views : List View)
    (id : ℕ) (s : IsSound first v.opening words home views) (here : HasAt views id v) where
  abbrev setup : Setup
  setup = (v.opening).setup

  abbrev flights : List Flight
  flights = map flight_of views

  -- the ring behind a step, by the flight that its view has then
  ring_by : (e : StepKind) (order : List Entry) (reach : ℕ) (memory : ℕ → ℕ) (f : Flight)
      → flight_of (view_behind v e (met_by v words home views id e) home) ≡ f
      → RingHolds v.opening order reach memory (set flights id f)
      → HasRing v words home views id e order reach memory
  ring_by e order reach memory f is holds =
      let w : View = view_behind v e (met_by v words home views id e) home in
      subst (λ (fs : List Flight). RingHolds v.opening order reach memory fs)
      (sym (part_set flight_of views id w ∙ ap (λ (x : Flight). set flights id x) is)) holds

  flies : HasAt flights id (v.working).flight
  flies = part_at flight_of views id v here

  pub ring_behind-reserved : (locks : List ℕ) (value : Record) → (v.reserving).live ≡ true
      → (may : MayStep v (store_position locks value))
      → HasRing v words home views id (store_position locks value)
      (s.order ++ entry_reserved (v.reserving).number may.0 value ∷ []) s.reach s.memory
  ring_behind-reserved locks value live may =
      let e : Entry = entry_reserved (v.reserving).number may.0 value in
      let place = subst
      (AtPlace setup.seg_size (order_end v.opening s.order)
      (last_start v.opening s.order) _ _ _ _) may.2
      ((s.reserved).places id v.reserving (part_at reserving_of views id v here) live) in
      ring_by (store_position locks value) (s.order ++ e ∷ []) s.reach s.memory
      (Copying (record { entry = e; prev = may.1; locks = locks; copied = 0 }))
      (subst (λ (p : Place). flight_of (after_store_position locks value (with_place p v))
      ≡ Copying (record { entry = e; prev = may.1; locks = locks; copied = 0 })) (sym may.2) refl)
      (ring.reserves v.opening s.order s.reach s.memory flights s.ring (s.setup_is).size
      (s.reserved).chained id e may.1 locks
      (subst (λ (f : Flight). HasAt flights id f) may.6 flies) place.2 place.4)

  pub ring_behind-released : (lock : ℕ) → MayStep v (release lock)
      → HasRing v words home views id (release lock) s.order s.reach s.memory
  ring_behind-released lock may = ring_by (release lock) s.order s.reach s.memory
      (landed lock (v.working).flight) refl
      (ring.releases v.opening s.order s.reach s.memory flights s.ring (s.setup_is).size
      (s.reserved).chained (s.reserved).placed id (v.working).flight flies lock may.1)

  module _ (may : MayStep v store_ring_word) where
    copy_flies : HasAt flights id (Copying may.0)
    copy_flies = subst (λ (f : Flight). HasAt flights id f) may.1 flies

    next_put : IsPut s.memory (number_of_next setup (Copying may.0)) (next_value v (Copying may.0))
        (memory_stored v s.memory)
    next_put = subst (λ (f : Flight). IsPut s.memory (number_of_next setup f) (next_value v f)
        (memory_stored v s.memory))
        may.1 (put_is s.memory (number_of_next setup (v.working).flight)
        (next_value v (v.working).flight))

    pub ring_behind-stored : HasRing v words home views id store_ring_word s.order s.reach
        (memory_stored v s.memory)
    ring_behind-stored =
        ring_by store_ring_word s.order s.reach (memory_stored v s.memory)
        (one_more (Copying may.0)) (ap one_more may.1)
        (ring.copies v.opening s.order s.reach s.memory flights s.ring (s.setup_is).size
        (s.reserved).chained (s.reserved).placed id may.0 (memory_stored v s.memory) copy_flies
        (may.2).left
        (is_mapped setup s.reach s.stage (initialised_word words) (written_word words)
        (end_word words) (word_of_ring setup words) s.memory (map confirmed_of views) s.pages may.0
        id (v.mapping).confirmed (part_at confirmed_of views id v here) may.2)
        next_put)

    -- in memory the word turns from 0, or stays
    pub memory_turns : (n : ℕ) → (s.memory n ≡ 0) ⊎ (s.memory n ≡ memory_stored v s.memory n)
    memory_turns = ring.memory_grows v.opening s.order s.reach s.memory flights s.ring
        (s.setup_is).size (s.reserved).chained (s.reserved).placed id may.0 copy_flies (may.2).left
        (memory_stored v s.memory) next_put

  pub ring_behind-published : HasRing v words home views id publish_end s.order (s.reach + 1)
      s.memory
  ring_behind-published = ring_by publish_end s.order (s.reach + 1) s.memory (v.working).flight refl
      (ring.reaches v.opening s.order s.reach s.memory (set flights id (v.working).flight)
      (ring.stays v.opening s.order s.reach s.memory flights s.ring id (v.working).flight flies)
      (s.reach + 1) (omega arith))
