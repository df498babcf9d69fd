-- The written and flushed positions through each kind of step, as the machine tells what it does.
use Rattle.std.proofs.Common.{◌≡◌, ◌≢◌, ℕ, ◌≤◌, Bool, true, cond, eq-eqb, ne_eqb, List, [], ◌∷◌, ◌++◌, set, map, refl, sym, ap, ◌∙◌, subst, inl, inr, ⊎_elim, arith}
use Rattle.std.proofs.lemmas.Bool.{cases_lt}
use mathlib.Core.Logic.{dite}
use mathlib.Core.Option.{Option, none}
use native.Mathlib.Decide.{ℕ_discrete}
use Rattle.wal_types.specs.declared.record.Record.{Record}
use Rattle.wal_page.specs.EntryWords.{address_of_word}
use Rattle.machine_state.specs.declared.setup.Setup.{Setup}
use Rattle.machine_state.specs.Words.{end_form, order_end, last_start}
use Rattle.machine_state.specs.Views.{HasAt, Place, Reserving, Watching, Copying, Flight, Plain, Hold, Idle, Turned, Out, Lent, Writing, View, flight_of, working_of, watching_of, writing_of}
use Rattle.machine_state.specs.Ordered.{OrderHolds, AtPlace}
use Rattle.machine_state.specs.Locked.{AreHeld, StandsTo}
use Rattle.machine_state.specs.Watched.{WatchHolds}
use Rattle.machine_state.specs.Positioned.{IsCopiedBelow}
use Rattle.machine_state.specs.Moves.{hardened, landed, one_more, with_place, with_hold, copied_below, lent, entry_reserved, after_split, split_off, after_join, spent, without_work, orphan_of, no_writing}
use Rattle.machine_state.specs.Failed.{KnowsOfFault}
use Rattle.machine_state.specs.Steps.{MayStep, number_lent, place_at, value_behind, view_behind, home_behind, take_write_turn, slot_out, slot_in, release_write_turn, store_position, release, store_ring_word, load_ring_word, load_written, load_flushed, load_moment, load_down, store_written, store_moment, store_flushed, set_down}
use Rattle.machine_state.proofs.Landing.{lock_of}
use Rattle.machine_state.proofs.Lists.{one_set, one_added, part_at, view_from}
use Rattle.machine_laws.specs.PositionParts.{Positions, HasPositions, HoldAmong, HoldBehind}
use Rattle.machine_laws.proofs.Copies.{CopiedStill, one_more_still, landed_still, added_still, joined_still, given_up_still}
use Rattle.machine_laws.proofs.PositionSteps.{KeepsKnown, KeepsKnown-idle, KeepsKnown-turned, KeepsKnown-lent, Within, both_change, none_within, view_changes, view_stays, goes_out, comes_home, tells_down, stores_written, stores_flushed, order_grows}

-- ---- what a watcher knows that visited each lock

module _ (size end : ℕ) (lock : ℕ → ℕ) (views : List View) (id : ℕ) (v : View)
    (here : HasAt views id v) (held : AreHeld lock (map working_of views))
    (watch : WatchHolds size end (map working_of views) (map watching_of views)) where
  abbrev IsKnown : ℕ → Type 0
  IsKnown address = (address ≤ end) × IsCopiedBelow size (map flight_of views) address

  bound_known : (v.watching).visited ≡ 8 → IsKnown (v.watching).bound
  bound_known all =
      let x : Watching = v.watching in
      let mine = part_at watching_of views id v here in
      let low = watch.reserved id x mine in (
        omega (arith, low),
        λ j c at left.
            let u = view_from flight_of views j (Copying c) at in
            let work = part_at working_of views j u.0 u.1 in
            let under = lock_of c.locks (u.0).working.locks
            (held.under j (u.0).working c work u.2) in
            let lock_held = held.each j under.0 (u.0).working work under.2 in
            elim (cases_lt (address_of_word size c.entry 0) x.end) [
              | inl below ↦ watch.behind id j x (u.0).working mine work c under.0 u.2 under.1
                  (omega (arith, lock_held.0, all)) below
              | inr above ↦ omega (arith, above, low.1)
            ],
      )

  nothing_known : IsKnown 0
  nothing_known = (omega arith, λ j c at left. omega arith)

  pub watched_known : IsKnown (copied_below v.watching)
  watched_known = dite (ℕ_discrete (v.watching).visited 8)
      (λ all. subst (λ (b : Bool). IsKnown (cond b (v.watching).bound 0))
      (sym (eq-eqb (v.watching).visited 8 all)) (bound_known all))
      (λ some_left. subst (λ (b : Bool). IsKnown (cond b (v.watching).bound 0))
      (sym (ne_eqb (v.watching).visited 8 some_left)) nothing_known)

module _ (p : Positions) (id : ℕ) (v : View) (t : HasPositions p id v) where
  abbrev setup : Setup
  setup = (v.opening).setup

  abbrev Still : View → Type 0
  Still = HoldBehind p id v

  -- how the view stands to the writer, told what it has of the turn
  pub stands : (h : Hold) → (v.writing).hold ≡ h
      → StandsTo p.turn (t.turns).holder p.home p.writer id (v.reserving).number h
  stands h is = subst
      (λ (o : Hold). StandsTo p.turn (t.turns).holder p.home p.writer id (v.reserving).number o)
      is ((t.turns).each id _ t.writer_here)

  mine : Within v.opening p t.holds v.writing
  mine = (t.holds).views id v.writing t.here

  others : (j : ℕ) (u : Writing) → HasAt p.parts j u → Within v.opening p t.holds u
  others j u there = (t.holds).views j u there

  stays : Still v
  stays = view_stays v.opening p t.holds id v.writing t.here (flight_of v) t.flight_here

  -- the view with another part of writing, of the same flight
  changed : (y : Writing) → y.written ≤ p.written → y.flushed ≤ p.flushed
      → KeepsKnown (v.writing).hold y.hold
      → HoldAmong p v (set p.flights id (flight_of v)) (set p.parts id y)
  changed = view_changes v.opening p t.holds id v.writing t.here (flight_of v) t.flight_here

  -- only what it holds is another
  rehold : (h : Hold) → KeepsKnown (v.writing).hold h → Still (with_hold h v)
  rehold h keeps = changed (record v.writing { hold = h }) mine.written_met mine.flushed_met keeps

  same_hold : KeepsKnown (v.writing).hold (v.writing).hold
  same_hold n is = (n, is, refl, refl)

  -- ---- turns, loads

  pub take_write_turn_keeps : Still (view_behind v take_write_turn p.turn p.home)
  take_write_turn_keeps = dite (ℕ_discrete p.turn 0)
      (λ free. subst (λ (b : Bool). Still (cond b (with_hold Turned v) v))
      (sym (eq-eqb p.turn 0 free)) (rehold Turned (KeepsKnown-turned (v.writing).hold)))
      (λ taken. subst (λ (b : Bool). Still (cond b (with_hold Turned v) v))
      (sym (ne_eqb p.turn 0 taken)) stays)

  pub release_write_turn_keeps : Still (view_behind v release_write_turn p.turn p.home)
  release_write_turn_keeps = rehold Idle (KeepsKnown-idle (v.writing).hold)

  pub load_word_keeps : (k met : ℕ) → Still (view_behind v (load_ring_word k) met p.home)
  load_word_keeps k met = rehold _ (KeepsKnown-lent
      (λ l. record l { staged = (k, met) ∷ l.staged }) (λ _. refl) (λ _. refl) (v.writing).hold)

  pub load_written_keeps : Still (view_behind v load_written p.written p.home)
  load_written_keeps = changed (record v.writing { written = p.written }) (omega arith)
      mine.flushed_met same_hold

  pub load_flushed_keeps : Still (view_behind v load_flushed p.flushed p.home)
  load_flushed_keeps = changed (record v.writing { flushed = p.flushed }) mine.written_met
      (omega arith) same_hold

  pub load_moment_keeps : (met : ℕ) → Still (view_behind v load_moment met p.home)
  load_moment_keeps met = changed (writing_of (view_behind v load_moment met p.home))
      mine.written_met mine.flushed_met same_hold

  pub load_down_keeps : (met : ℕ) → Still (view_behind v load_down met p.home)
  load_down_keeps met = changed (record v.writing { down_met = met }) mine.written_met
      mine.flushed_met same_hold

  -- ---- copies

  copied_still : (f : Flight) → CopiedStill setup.seg_size p.flights (set p.flights id f)
      → HoldAmong p v (set p.flights id f) (set p.parts id v.writing)
  copied_still f still = both_change v.opening p t.holds (set p.flights id f)
      (set p.parts id v.writing) still
      (one_set (λ (j : ℕ) (u : Writing). Within v.opening p t.holds u) p.parts id v.writing
      (λ j u _ there. others j u there) mine)

  pub release_keeps : (lock met : ℕ) → Still (view_behind v (release lock) met p.home)
  release_keeps lock met = copied_still (landed lock (flight_of v))
      (landed_still setup.seg_size p.flights id (flight_of v) t.flight_here lock)

  pub store_word_keeps : (met : ℕ) → Still (view_behind v store_ring_word met p.home)
  store_word_keeps met = copied_still (one_more (flight_of v))
      (one_more_still setup.seg_size p.flights id (flight_of v) t.flight_here)

  -- ---- words that the one stores that has the writer in hand

  pub store_written_keeps : MayStep v store_written
      → HoldBehind (record p { written = value_behind v store_written p.written }) id v
      (view_behind v store_written p.written p.home)
  store_written_keeps may = subst
      (λ (h : Hold). HoldBehind
      (record p { written = value_behind (with_hold h v) store_written p.written }) id v
      (view_behind (with_hold h v) store_written p.written p.home))
      (sym may.1)
      (stores_written v.opening p t.holds id v.writing t.here
      (flight_of v) t.flight_here may.0 may.1
      (stands (Out may.0) may.1).3)

  pub store_moment_keeps : (met : ℕ) → Still (view_behind v store_moment met p.home)
  store_moment_keeps met = rehold _ (KeepsKnown-lent
      hardened (λ _. refl) (λ _. refl) (v.writing).hold)

  pub store_flushed_keeps : MayStep v store_flushed
      → HoldBehind (record p { flushed = value_behind v store_flushed p.flushed }) id v
      (view_behind v store_flushed p.flushed p.home)
  store_flushed_keeps may = subst
      (λ (h : Hold). HoldBehind
      (record p { flushed = value_behind (with_hold h v) store_flushed p.flushed }) id v
      (view_behind v store_flushed p.flushed p.home))
      (sym may.1)
      (stores_flushed v.opening p t.holds id v.writing t.here
      (flight_of v) t.flight_here may.0 may.1
      (stands (Out may.0) may.1).3 (may.2).0 (may.2).1
      (writing_of (view_behind v store_flushed p.flushed p.home)) refl refl refl)

  pub set_down_keeps : MayStep v set_down
      → HoldBehind (record p { down = value_behind v set_down p.down }) id v
      (view_behind v set_down p.down p.home)
  set_down_keeps may = tells_down v.opening p t.holds id v.writing t.here
      (flight_of v) t.flight_here
      (value_behind v set_down p.down) (stands (Out may.0) may.1).2
      (writing_of (view_behind v set_down p.down p.home)) refl refl refl

  pub flushed_is_reserved : p.flushed ≤ end_form setup (order_end v.opening p.order)
  flushed_is_reserved =
      let k = t.holds in omega (arith, k.flushed_low, k.written_low, k.reserved)

  -- the writer in hand is the one writer
  is_writer : (l : Lent) → (v.writing).hold ≡ Out l → (l.writer).written ≡ (p.writer).written
  is_writer l out = ap (λ (w : Plain). w.written) (stands (Out l) out).3

  pub written_rises : MayStep v store_written → p.written ≤ value_behind v store_written p.written
  written_rises may = subst (λ n. p.written ≤ n)
      (sym (ap (number_lent v (λ l. (l.writer).written)) may.1 ∙ is_writer may.0 may.1))
      (t.holds).written_low

  pub flushed_rises : MayStep v store_flushed → p.flushed ≤ value_behind v store_flushed p.flushed
  flushed_rises may =
      let number : value_behind v store_flushed p.flushed ≡ (p.writer).written =
      ap (number_lent v (λ l. l.hard)) may.1 ∙ (may.2).0 ∙ is_writer may.0 may.1 in
      let k = t.holds in
      let low : p.flushed ≤ (p.writer).written = omega (arith, k.flushed_low, k.written_low) in
      subst (λ n. p.flushed ≤ n) (sym number) low

  pub hard_is_reserved : MayStep v store_flushed
      → number_lent v (λ l. l.hard) (v.writing).hold
      ≤ end_form setup (order_end v.opening p.order)
  hard_is_reserved may =
      let number : number_lent v (λ l. l.hard) (v.writing).hold ≡ (may.0).hard =
      ap (number_lent v (λ l. l.hard)) may.1 in
      let own = is_writer may.0 may.1 in
      omega (arith, number, (may.2).0, own, (t.holds).reserved)

  -- ---- the writer goes out, and comes home

  pub slot_out_keeps : (lock : ℕ → ℕ) (views : List View) → p.flights ≡ map flight_of views
      → HasAt views id v → AreHeld lock (map working_of views)
      → WatchHolds setup.seg_size
      (end_form setup (order_end v.opening p.order)) (map working_of views)
      (map watching_of views)
      → MayStep v slot_out
      → HoldBehind (record p { home = home_behind v slot_out p.home }) id v
      (view_behind v slot_out p.turn p.home)
  slot_out_keeps lock views are here held watch may =
      let known = watched_known setup.seg_size
      (end_form setup (order_end v.opening p.order)) lock views id v here held watch in
      let copied = subst (λ (fs : List Flight).
      IsCopiedBelow setup.seg_size fs (copied_below v.watching)) (sym are) known.1 in
      subst (λ (o : Option Plain). HoldBehind (record p { home = none }) id v
      (view_behind v slot_out p.turn o))
      (sym (stands Turned may).2)
      (goes_out v.opening p t.holds id v.writing t.here (flight_of v) t.flight_here _
      (lent p.writer v) known.0 copied (omega arith))

  pub slot_in_keeps : (met : ℕ) → (KnowsOfFault v → p.down ≢ 0) → MayStep v slot_in
      → HoldBehind (record p { home = home_behind v slot_in p.home }) id v
      (view_behind v slot_in met p.home)
  slot_in_keeps met told may = subst
      (λ (h : Hold). HoldBehind (record p { home = home_behind (with_hold h v) slot_in p.home })
      id v (view_behind v slot_in met p.home))
      (sym may.1)
      (comes_home v.opening p t.holds id v.writing t.here (flight_of v) t.flight_here may.0 may.1
      (stands (Out may.0) may.1).3
      (⊎_elim (λ settled. inl settled.1)
      (λ failed. inr (told failed)) may.2))

  -- ---- an entry is reserved

  pub store_position_keeps : (position prev : ℕ) (reservings : List Reserving)
      (locks : List ℕ) (value : Record)
      → OrderHolds v.opening p.order position prev reservings
      → HasAt reservings id v.reserving → (v.reserving).live ≡ true
      → MayStep v (store_position locks value)
      → HoldBehind (record p {
        order = p.order
            ++ entry_reserved (v.reserving).number (place_at v (v.reserving).place) value ∷ [];
      }) id v (view_behind v (store_position locks value) position p.home)
  store_position_keeps position prev reservings locks value k there live may =
      let size : ℕ = setup.seg_size in
      let at = subst (λ (q : Place). AtPlace size (order_end v.opening p.order)
      (last_start v.opening p.order) prev k.locked k.holder id q) may.2
      (k.places id v.reserving there live) in
      subst (λ (q : Place). HoldBehind (record p {
        order = p.order ++ entry_reserved (v.reserving).number (place_at v q) value ∷ [];
      }) id v (view_behind (with_place q v) (store_position locks value) position p.home))
      (sym may.2)
      (order_grows v.opening p t.holds t.size k.chained (entry_reserved
      (v.reserving).number may.0 value) at.2 id
      (record {
        entry = entry_reserved (v.reserving).number may.0 value;
        prev = may.1;
        locks = locks;
        copied = 0;
      }) refl refl v.writing t.here)

  -- ---- passes

  within_added : (j : ℕ) (u : Writing) → HasAt (set p.parts id v.writing ++ no_writing ∷ []) j u
      → Within v.opening p t.holds u
  within_added = one_added (λ (j : ℕ) (u : Writing). Within v.opening p t.holds u)
      (set p.parts id v.writing) no_writing
      (one_set (λ (j : ℕ) (u : Writing). Within v.opening p t.holds u) p.parts id v.writing
      (λ j u _ there. others j u there) mine) (none_within v.opening p t.holds)

  pub split_keeps : HoldAmong p v
      (set p.flights id (flight_of (after_split v)) ++ flight_of (split_off v) ∷ [])
      (set p.parts id (writing_of (after_split v)) ++ writing_of (split_off v) ∷ [])
  split_keeps = both_change v.opening p t.holds _ _
      (added_still setup.seg_size p.flights id (flight_of v) t.flight_here) within_added

  pub give_up_keeps : HoldAmong p v
      (set p.flights id (flight_of (without_work v)) ++ flight_of (orphan_of v) ∷ [])
      (set p.parts id (writing_of (without_work v)) ++ writing_of (orphan_of v) ∷ [])
  give_up_keeps = both_change v.opening p t.holds _ _
      (given_up_still setup.seg_size p.flights id (flight_of v) t.flight_here) within_added

  pub join_keeps : (other : ℕ) (w : View) → HoldAmong p v
      (set (set p.flights other (flight_of (spent w))) id (flight_of (after_join v w)))
      (set (set p.parts other (writing_of (spent w))) id (writing_of (after_join v w)))
  join_keeps other w = both_change v.opening p t.holds _ _
      (joined_still setup.seg_size p.flights id (flight_of v) t.flight_here other)
      (one_set (λ (j : ℕ) (u : Writing). Within v.opening p t.holds u)
      (set p.parts other no_writing) id (writing_of (after_join v w))
      (λ j u _ there. one_set (λ (j : ℕ) (u : Writing). Within v.opening p t.holds u) p.parts other
      no_writing (λ j u _ there. others j u there) (none_within v.opening p t.holds) j u there)
      (record {
        written_met = mine.written_met;
        flushed_met = mine.flushed_met;
        known = mine.known;
        stored = mine.stored;
      }))
