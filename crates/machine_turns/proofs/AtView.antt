-- From a machine that runs: what its invariant gives of one backend's view, so that the step that
-- the order names goes, and what becomes of the writer's home.
use Rattle.std.proofs.Common.{◌≡◌, ◌≢◌, ⊎_elim, ℕ, ◌+◌, ◌%◌, ◌<◌, ◌≤◌, Bool, true, false, cond, eqb, List, refl, sym, ap, ◌∙◌, subst, arith, inl, inr}
use Rattle.std.proofs.Math.Dec.{ltb}
use Rattle.std.proofs.lemmas.Bool.{cases_eq}
use mathlib.Core.Option.{Option, none, some, some-injective, some-ne-none}
use Rattle.byte_position.specs.Geometry.{IsSegmentSize}
use Rattle.wal_page.proofs.PlaceLaws.{end-whole_from}
use Rattle.machine_state.specs.Words.{Opening, down_word, lock_word, write_turn, order_end}
use Rattle.machine_state.specs.Views.{Place, Free, Locked, Loaded, Stored, Stage, Away, Taken, Looked, Ready, Zeroing, Published, Plain, Lent, Hold, Turned as HasTurned, Out, View, reserving_of, writer_of, receipts_of}
use Rattle.machine_state.specs.Ordered.{AtPlace}
use Rattle.machine_state.specs.Locked.{StandsTo}
use Rattle.machine_state.specs.Steps.{StepKind, load_prev, give_position_back, take_lock, load_lock, zero_ring_word, publish_end, slot_in, IsLive, returned, home_behind}
use Rattle.machine_state.specs.Aligned.{LearnsAligned}
use Rattle.machine_state.specs.Sound.{IsSound}
use Rattle.machine_state.proofs.Lists.{part_at}
use Rattle.machine_turns.specs.Doing.{Ask, Inserts, Commits, Flushes, Purpose, ForLine, Doing, Begins, Tries, Reserves, Looks, Copies, Maps, GivesTurn, Tells, Releases, FlushBegins, LoadsPosition, LoadsFlushed, LoadsMoment, Visits, TakesTurn, LoadsDown, TakesOut, LoadsPage, Creates, Writes, SyncsFull, SyncsLast, StoresWritten, StoresMoment, StoresFlushed, SetsDown, PutsBack, GivesWriteTurn, Machine}
use Rattle.machine_turns.specs.Turned.{can_step, looks_down, event_named, reserve_event, map_event, fits, lock_tried}
use Rattle.machine_state.specs.Failed.{KnowsOfFault}
use Rattle.machine_turns.specs.Standing.{IsRunning, IsWriterUp, AwaitsOne, UpFor, segment_next, StandsToDo}
use Rattle.machine_turns.proofs.NextUp.{Calls}
use Rattle.machine_turns.proofs.Poses.{Goes}
use Rattle.machine_turns.proofs.SegmentSteps.{next-near}
use Rattle.machine_turns.proofs.InsertPlaces.{IsPlaceWhole, begins_goes, tries_goes, reserves_goes, looks_goes, copies_goes}
use Rattle.machine_turns.proofs.MapPlaces.{maps_goes, gives_turn_goes, tells_goes, releases_goes}
use Rattle.machine_turns.proofs.FlushPlaces.{hold_of, flush_begins_goes, loads_position_goes, loads_flushed_goes, loads_moment_goes, visits_goes, takes_turn_goes, loads_down_goes, takes_out_goes, loads_page_goes, sets_down_goes, stores_written_goes, stores_moment_goes, stores_flushed_goes, puts_back_goes, gives_write_turn_goes}
use Rattle.machine_turns.proofs.DevicePlaces.{creates_goes, writes_goes, syncs_full_goes, syncs_last_goes}

pub up_by : (doing : Doing) (d : ℕ) → ((purpose : Purpose) → doing ≡ TakesOut purpose → d ≡ 0)
    → ((purpose : Purpose) → doing ≡ SetsDown purpose → d ≡ 0) → UpFor doing d
up_by Begins d taken put = tt
up_by (Tries n) d taken put = tt
up_by (Reserves lock) d taken put = tt
up_by (Looks lock) d taken put = tt
up_by (Copies lock) d taken put = tt
up_by (Maps lock) d taken put = tt
up_by (GivesTurn lock end) d taken put = tt
up_by (Tells lock end) d taken put = tt
up_by (Releases lock full) d taken put = tt
up_by FlushBegins d taken put = tt
up_by LoadsPosition d taken put = tt
up_by LoadsFlushed d taken put = tt
up_by LoadsMoment d taken put = tt
up_by (Visits purpose lock) d taken put = tt
up_by (TakesTurn purpose) d taken put = tt
up_by (LoadsDown purpose) d taken put = tt
up_by (TakesOut purpose) d taken put = taken purpose refl
up_by (LoadsPage purpose k) d taken put = tt
up_by (Creates purpose) d taken put = tt
up_by (Writes purpose) d taken put = tt
up_by (SyncsFull purpose) d taken put = tt
up_by SyncsLast d taken put = tt
up_by (StoresWritten purpose) d taken put = tt
up_by StoresMoment d taken put = tt
up_by StoresFlushed d taken put = tt
up_by (SetsDown purpose) d taken put = put purpose refl
up_by (PutsBack purpose failed) d taken put = tt
up_by (GivesWriteTurn purpose failed) d taken put = tt

module _ (m : Machine) (run : IsRunning m) (number : ℕ) (v : View)
    (live : IsLive m.state (number + 1) v) (ask : Ask) where
  abbrev words : List ℕ
  words = (m.state).words

  abbrev home : Option Plain
  home = (m.state).home

  abbrev views : List View
  views = (m.state).views

  abbrev id : ℕ
  id = number + 1

  abbrev size : ℕ
  size = ((v.opening).setup).seg_size

  pub own : v.opening ≡ m.opening
  own = ((run.sound).grounded id v live.0).opening_is live.1

  pub sound : IsSound m.first v.opening words home views
  sound = subst (λ (o : Opening). IsSound m.first o words home views) (sym own) run.sound

  valid : IsSegmentSize size
  valid = (sound.setup_is).size

  some_page : 0 < ((v.opening).setup).ring_pages
  some_page = let low = (sound.setup_is).ring_low in omega arith

  told : (v.opening).faults ≡ (m.opening).faults
  told = ap (λ (o : Opening). o.faults) own

  learns : LearnsAligned v
  learns = (sound.aligned).views id v live.0

  -- ---- the position

  whole_end : (at : ℕ) → at ≡ order_end v.opening sound.order → at % 8 ≡ 0
  whole_end at is =
      ap (λ n. n % 8) is ∙ end-whole_from size valid ((v.opening).place).position sound.order
      (sound.reserved).chained ((sound.reserved).placed).whole

  whole_at : (p : Place) (last prev locked holder : ℕ)
      → AtPlace size (order_end v.opening sound.order) last prev locked holder id p
      → IsPlaceWhole m ask p
  whole_at Free last prev locked holder s = tt
  whole_at (Locked at) last prev locked holder s = whole_end at s.2
  whole_at (Loaded at met) last prev locked holder s = whole_end at s.2
  whole_at (Stored at met) last prev locked holder s = whole_end at s.2

  whole : IsPlaceWhole m ask (v.reserving).place
  whole = whole_at (v.reserving).place _ _ _ _
      ((sound.reserved).places id (reserving_of v) (part_at reserving_of views id v live.0) live.1)

  -- ---- the writer

  pub to_writer_of : (o : Opening) (k : IsSound m.first o words home views) (h : Hold)
      → (v.writing).hold ≡ h
      → StandsTo (write_turn words) ((k.locks).writing).holder home k.writer id
      (v.reserving).number h
  to_writer_of o k h is = subst
      (λ (g : Hold). StandsTo (write_turn words) ((k.locks).writing).holder home k.writer id
      (v.reserving).number g) is
      (((k.locks).writing).each id (writer_of v) (part_at writer_of views id v live.0))

  near : (l : Lent) → (v.writing).hold ≡ Out l
      → segment_next size l.writer ≤ (l.writer).made + 1
  near l is = subst (λ (w : Plain). segment_next size w ≤ w.made + 1)
      (sym (to_writer_of v.opening sound (Out l) is).3)
      (next-near size valid (sound.writer).written (sound.writer).made (sound.durable).reached)

  -- at home, while no disk has failed
  at_home_up : (w : Plain) → w.fault ≡ none → home ≡ some w → IsWriterUp size w
  at_home_up w up is = record {
    up = up;
    awaits = subst (λ (o : Opening). AwaitsOne (o.setup).seg_size w) (sym own)
        (run.at_home w is up);
  }

  knows_no_down : down_word words ≡ 0 → KnowsOfFault v → ⊥
  knows_no_down up knows =
      let told_here = (sound.durable).views id (receipts_of v) (part_at receipts_of views id v live.0) in
      ⊎_elim (λ (met : (v.writing).down_met ≢ 0). met (told_here.down_met met ∙ up))
      (λ (put : (v.writing).down_set ≢ 0). put (told_here.down_set put ∙ up)) knows

  takes_out_now : (purpose : Purpose) → down_word words ≡ 0 → StandsToDo v (TakesOut purpose) ask
      → Goes m ask (TakesOut purpose) v
  takes_out_now purpose up stands =
      let there = (to_writer_of v.opening sound HasTurned
      (hold_of purpose ask HasTurned v stands)).2 in
      let no_fault = (sound.durable).down_at_home there up in
      takes_out_goes m ask purpose v sound.writer there
      (at_home_up sound.writer no_fault there) stands

  -- a writer in hand that has not failed: no disk has
  up_out : (l : Lent) → (v.writing).hold ≡ Out l → (l.writer).fault ≡ none → down_word words ≡ 0
  up_out l is up =
      let own = (to_writer_of v.opening sound (Out l) is).3 in
      elim (cases_eq (down_word words) 0) [
        | inl zeros ↦ zeros
        | inr is_down ↦ absurd (some-ne-none (down_word words)
            (sym ((sound.durable).down_is is_down) ∙ ap (λ (w : Plain). w.fault) (sym own) ∙ up))
      ]

  -- who is to call the device has such a writer
  pub calls_up : (doing : Doing) → StandsToDo v doing ask → Calls doing → down_word words ≡ 0
  calls_up (Creates purpose) s c =
      up_out s.0 (hold_of purpose ask (Out s.0) v s.1) ((s.2.0).writer_up).up
  calls_up (Writes purpose) s c =
      up_out s.0 (hold_of purpose ask (Out s.0) v s.1) ((s.2.0).writer_up).up
  calls_up (SyncsFull purpose) s c = up_out s.0 (hold_of purpose ask (Out s.0) v s.1) s.2.0
  calls_up SyncsLast s c = up_out s.0 (hold_of ForLine ask (Out s.0) v s.1) s.2.0
  calls_up Begins s c = absurd c
  calls_up (Tries n) s c = absurd c
  calls_up (Reserves lock) s c = absurd c
  calls_up (Looks lock) s c = absurd c
  calls_up (Copies lock) s c = absurd c
  calls_up (Maps lock) s c = absurd c
  calls_up (GivesTurn lock end) s c = absurd c
  calls_up (Tells lock end) s c = absurd c
  calls_up (Releases lock full) s c = absurd c
  calls_up FlushBegins s c = absurd c
  calls_up LoadsPosition s c = absurd c
  calls_up LoadsFlushed s c = absurd c
  calls_up LoadsMoment s c = absurd c
  calls_up (Visits purpose lock) s c = absurd c
  calls_up (TakesTurn purpose) s c = absurd c
  calls_up (LoadsDown purpose) s c = absurd c
  calls_up (TakesOut purpose) s c = absurd c
  calls_up (LoadsPage purpose k) s c = absurd c
  calls_up (StoresWritten purpose) s c = absurd c
  calls_up StoresMoment s c = absurd c
  calls_up StoresFlushed s c = absurd c
  calls_up (SetsDown purpose) s c = absurd c
  calls_up (PutsBack purpose failed) s c = absurd c
  calls_up (GivesWriteTurn purpose failed) s c = absurd c

  -- ---- the step goes

  pub goes : (doing : Doing) → UpFor doing (down_word words) → StandsToDo v doing ask
      → can_step m v ask doing ≡ true → (looks_down m v ask doing ≡ true → down_word words ≡ 0)
      → Goes m ask doing v
  goes Begins at_out s can up = begins_goes m ask v (knows_no_down (up refl)) s
  goes (Tries n) at_out s can up = tries_goes m ask n v s
  goes (Reserves lock) at_out s can up = reserves_goes m ask lock v valid whole s can
  goes (Looks lock) at_out s can up = looks_goes m ask lock v some_page s
  goes (Copies lock) at_out s can up = copies_goes m ask lock v valid s
  goes (Maps lock) at_out s can up = maps_goes m ask lock v s can
  goes (GivesTurn lock end) at_out s can up = gives_turn_goes m ask lock end v s
  goes (Tells lock end) at_out s can up = tells_goes m ask lock end v valid s
  goes (Releases lock full) at_out s can up = releases_goes m ask lock full v s
  goes FlushBegins at_out s can up = flush_begins_goes m ask v (knows_no_down (up refl)) s
  goes LoadsPosition at_out s can up = loads_position_goes m ask v s
  goes LoadsFlushed at_out s can up = loads_flushed_goes m ask v s
  goes LoadsMoment at_out s can up = loads_moment_goes m ask v s
  goes (Visits purpose lock) at_out s can up = visits_goes m ask purpose lock v valid learns.seen s
  goes (TakesTurn purpose) at_out s can up = takes_turn_goes m ask purpose v s can
  goes (LoadsDown purpose) at_out s can up = loads_down_goes m ask purpose v s
  goes (TakesOut purpose) at_out s can up = takes_out_now purpose at_out s
  goes (LoadsPage purpose k) at_out s can up = loads_page_goes m ask purpose k v s
  goes (Creates purpose) at_out s can up = creates_goes m ask v told purpose valid near s
  goes (Writes purpose) at_out s can up = writes_goes m ask v told purpose valid learns.known s
  goes (SyncsFull purpose) at_out s can up = syncs_full_goes m ask v told purpose s
  goes SyncsLast at_out s can up = syncs_last_goes m ask v told s
  goes (StoresWritten purpose) at_out s can up = stores_written_goes m ask purpose v s
  goes StoresMoment at_out s can up = stores_moment_goes m ask v s
  goes StoresFlushed at_out s can up = stores_flushed_goes m ask v s
  goes (SetsDown purpose) at_out s can up = sets_down_goes m ask purpose v (knows_no_down at_out) s
  goes (PutsBack purpose failed) at_out s can up = puts_back_goes m ask purpose failed v s
  goes (GivesWriteTurn purpose failed) at_out s can up =
      gives_write_turn_goes m ask purpose failed v s

  -- ---- the writer's home

  abbrev pub HomeBy : StepKind → Type 0
  HomeBy e = (w : Plain) → home_behind v e home ≡ some w → w.fault ≡ none
      → AwaitsOne ((m.opening).setup).seg_size w

  either_home : (t : Bool) (e f : StepKind) → HomeBy e → HomeBy f → HomeBy (cond t e f)
  either_home true e f p q = p
  either_home false e f p q = q

  home_reserving : (a : Ask) (lock : ℕ) (p : Place) → HomeBy (reserve_event v words a lock p)
  home_reserving a lock Free = run.at_home
  home_reserving Flushes lock (Locked at) = run.at_home
  home_reserving (Inserts value) lock (Locked at) = either_home (fits v
      (Inserts value) at) load_prev
      (give_position_back value) run.at_home run.at_home
  home_reserving (Commits value) lock (Locked at) = either_home (fits v
      (Commits value) at) load_prev
      (give_position_back value) run.at_home run.at_home
  home_reserving a lock (Loaded at prev) = run.at_home
  home_reserving Flushes lock (Stored at prev) = run.at_home
  home_reserving (Inserts value) lock (Stored at prev) = run.at_home
  home_reserving (Commits value) lock (Stored at prev) = run.at_home

  home_mapping : (s : Stage) → HomeBy (map_event v s)
  home_mapping Away = run.at_home
  home_mapping Taken = run.at_home
  home_mapping (Looked at) = run.at_home
  home_mapping (Ready at written) = run.at_home
  home_mapping (Zeroing at count) =
      either_home (ltb count 1024) zero_ring_word publish_end run.at_home run.at_home
  home_mapping (Published at) = run.at_home

  home_put : (l : Lent) → (v.writing).hold ≡ Out l
      → ((l.writer).fault ≡ none → AwaitsOne size l.writer) → HomeBy slot_in
  home_put l is holds w back up =
      let same : l.writer ≡ w = some-injective l.writer w
      (subst (λ (h : Hold). returned v h home ≡ some w) is back) in
      subst (λ (o : Opening). AwaitsOne (o.setup).seg_size w) own
      (subst (AwaitsOne size) same (holds (subst (λ (x : Plain). x.fault ≡ none) (sym same) up)))

  home_puts_back : (purpose : Purpose) (failed : Bool) → StandsToDo v (PutsBack purpose failed) ask
      → HomeBy slot_in
  home_puts_back purpose false s =
      home_put s.0 (hold_of purpose ask (Out s.0) v s.1) (λ up. (s.2.0).awaits)
  home_puts_back purpose true s = home_put s.0.0 (hold_of purpose ask (Out s.0.0) v s.0.1)
      (λ up. let failed = s.0.2.1 in absurd (cc))

  pub homes : (doing : Doing) → StandsToDo v doing ask → HomeBy (event_named m v ask doing)
  homes Begins s = run.at_home
  homes (Tries n) s = either_home (eqb (lock_word words (lock_tried v n)) 0)
      (take_lock (lock_tried v n)) (load_lock (lock_tried v n) 0) run.at_home run.at_home
  homes (Reserves lock) s = home_reserving ask lock (v.reserving).place
  homes (Looks lock) s = run.at_home
  homes (Copies lock) s = run.at_home
  homes (Maps lock) s = home_mapping (v.mapping).stage
  homes (GivesTurn lock end) s = run.at_home
  homes (Tells lock end) s = run.at_home
  homes (Releases lock full) s = run.at_home
  homes FlushBegins s = run.at_home
  homes LoadsPosition s = run.at_home
  homes LoadsFlushed s = run.at_home
  homes LoadsMoment s = run.at_home
  homes (Visits purpose lock) s = run.at_home
  homes (TakesTurn purpose) s = run.at_home
  homes (LoadsDown purpose) s = run.at_home
  homes (TakesOut purpose) s = λ w gone up. absurd (cc)
  homes (LoadsPage purpose k) s = run.at_home
  homes (Creates purpose) s = run.at_home
  homes (Writes purpose) s = run.at_home
  homes (SyncsFull purpose) s = run.at_home
  homes SyncsLast s = run.at_home
  homes (StoresWritten purpose) s = run.at_home
  homes StoresMoment s = run.at_home
  homes StoresFlushed s = run.at_home
  homes (SetsDown purpose) s = run.at_home
  homes (PutsBack purpose failed) s = home_puts_back purpose failed s
  homes (GivesWriteTurn purpose failed) s = run.at_home
