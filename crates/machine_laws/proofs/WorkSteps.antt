-- Locks, what they tell, and those who watch them, through every step, as the machine tells what it
-- does.
use Rattle.std.proofs.Common.{◌≡◌, ◌⊎◌, ℕ, ◌+◌, ◌<◌, ◌≤◌, Bool, cond, eqb, List, [], ◌∷◌, ◌++◌, map, set, slice_index, inl, inr, sym, refl, ap, ◌∙◌, subst, arith}
use mathlib.Core.Option.{Option, none, some}
use Rattle.wal_types.specs.declared.record.Record.{Record}
use Rattle.wal_page.specs.Order.{Entry}
use Rattle.byte_position.proofs.EndAddresses.{end_address_of-mono}
use Rattle.wal_page.proofs.OrderLaws.{rooms_of_push}
use Rattle.machine_state.specs.declared.setup.Setup.{Setup}
use Rattle.machine_state.specs.Words.{lock_word, end_form, mapping_turn_number, write_turn_number, initialised_number, written_number, flushed_number, moment_number, down_number, ends_number, lock_number, order_end, Opening}
use Rattle.machine_state.specs.Views.{HasAt, Taken, Place, Free, Locked, Loaded, Stored, StopCause, LogFull, AtSegmentStart, Copy, Copying, Hold, Idle, Turned, Out, Plain, Working, Watching, View, working_of, watching_of}
use Rattle.machine_state.specs.Locked.{AreHeld, ProgressHolds, most_told}
use Rattle.machine_state.specs.Watched.{WatchHolds}
use Rattle.machine_state.specs.Moves.{with_working, with_place, with_hold, with_stage, entry_reserved, after_load_prev, after_store_prev, after_store_position, after_stop, after_take_lock, after_advance, after_load_lock, after_release, after_store_word}
use Rattle.machine_state.specs.Steps.{MayStep, StepKind, word_of_step, value_behind, place_at, with_slot, with_call_on, load_position, take_write_turn, slot_out, slot_in, release_write_turn, lock_position, load_prev, store_prev, store_position, give_position_back, stay, load_lock, take_lock, advance, release, load_buffer_end, store_ring_word, load_ring_word, load_written, load_flushed, load_moment, load_down, store_written, store_moment, store_flushed, set_down, load_async, raise_async, take_mapping_turn, load_initialised_end, clear_end, zero_ring_word, publish_end, publish_initialised_end, release_mapping_turn, create, write, sync}
use Rattle.machine_state.proofs.Lists.{part_same, part_set, part_at}
use Rattle.machine_state.proofs.WordLists.{lock_set, lock_else, locks_else, word_again}
use Rattle.machine_laws.specs.LocksBehind.{words_behind, views_behind, order_behind, WorksHold, StepsFrom}
use Rattle.machine_laws.proofs.LocksKept.{met_cases}
use Rattle.machine_laws.proofs.HeldLaws.{held_same, held_told, held_asked, held_released, held_begun, held_copied_on}
use Rattle.machine_laws.proofs.ToldLaws.{told_same, told_advanced, told_asked, told_released, told_begun, told_copied_on, told_later, most_told_later}
use Rattle.machine_laws.proofs.WatchLaws.{watch_visits, watched_asked, watched_released, watched_copied_on, watched_reserved}

-- ---- what a step leaves of its view

-- a view's work and its watch, as another view has them
abbrev pub WorksAs : View → View → Type 0
WorksAs v w = (working_of w ≡ working_of v) × (watching_of w ≡ watching_of v)

works_by_place : (f : View → View) (v : View) → ((p : Place) → WorksAs v (f (with_place p v)))
    → WorksAs v (f v)
works_by_place f v each = each (v.reserving).place

works_met : (v w : View) → WorksAs v w → (a b : ℕ) → WorksAs v (cond (eqb a b) w v)
works_met v w like a b = met_cases (λ (x : Bool). WorksAs v (cond x w v)) a b
    (λ e. like) (λ ne. (refl, refl))

works_on_load_prev : (met : ℕ) (v : View) (p : Place)
    → WorksAs v (after_load_prev met (with_place p v))
works_on_load_prev met v Free = (refl, refl)
works_on_load_prev met v (Locked at) = (refl, refl)
works_on_load_prev met v (Loaded at prev) = (refl, refl)
works_on_load_prev met v (Stored at prev) = (refl, refl)

works_on_store_prev : (v : View) (p : Place) → WorksAs v (after_store_prev (with_place p v))
works_on_store_prev v Free = (refl, refl)
works_on_store_prev v (Locked at) = (refl, refl)
works_on_store_prev v (Loaded at prev) = (refl, refl)
works_on_store_prev v (Stored at prev) = (refl, refl)

works_on_stop : (cause : StopCause) (v : View) (p : Place)
    → WorksAs v (after_stop cause (with_place p v))
works_on_stop cause v Free = (refl, refl)
works_on_stop cause v (Locked at) = (refl, refl)
works_on_stop cause v (Loaded at prev) = (refl, refl)
works_on_stop cause v (Stored at prev) = (refl, refl)

works_on_slot : (v : View) (home : Option Plain) → WorksAs v (with_slot v home)
works_on_slot v none = (refl, refl)
works_on_slot v (some writer) = (refl, refl)

works_on_call : (v : View) (f : Plain → Plain) (h : Hold) → WorksAs v (with_call_on v f h)
works_on_call v f Idle = (refl, refl)
works_on_call v f Turned = (refl, refl)
works_on_call v f (Out l) = (refl, refl)

watch_on_take : (lock met : ℕ) (v : View)
    → watching_of (after_take_lock lock met v) ≡ watching_of v
watch_on_take lock met v = met_cases
    (λ (b : Bool). watching_of
    (cond b (with_working ((v.working).locks ++ lock ∷ []) (v.working).flight v) v)
    ≡ watching_of v)
    met 0 (λ e. refl) (λ ne. refl)

far : (pages place : ℕ) → mapping_turn_number ≤ ends_number + pages + place
far pages place = omega arith

module _ (opening : Opening) (order : List Entry) (words : List ℕ) (home : Option Plain)
    (views : List View) (id : ℕ) (v : View) (s : StepsFrom opening order words views id v)
    (k : WorksHold opening order words views) where
  abbrev size : ℕ
  size = opening.setup.seg_size

  abbrev parts : List Working
  parts = map working_of views

  abbrev watches : List Watching
  watches = map watching_of views

  abbrev end : ℕ
  end = end_form opening.setup (order_end opening order)

  mine : HasAt parts id v.working
  mine = part_at working_of views id v s.here

  -- where a step changes no lock's word, and in its view neither its work nor its watch
  stays : (i n : ℕ) (w : View) → (i < 2) ⊎ (mapping_turn_number ≤ i) → WorksAs v w
      → WorksHold opening order (set words i n) (set views id w)
  stays i n w away like =
      let same = part_same working_of views id v w s.here like.0 in
      let seen = part_same watching_of views id v w s.here like.1 in
      let others = locks_else words i n away in
      record {
        held = subst (λ (ps : List Working). AreHeld (lock_word (set words i n)) ps) (sym same)
            (held_same (lock_word words) parts k.held (lock_word (set words i n)) others);
        told = subst (λ (ps : List Working).
            ProgressHolds size end (lock_word (set words i n)) ps) (sym same)
            (told_same size end (lock_word words) parts k.told k.held
            (lock_word (set words i n)) others);
        watched = subst (λ (x : List Working × List Watching).
            WatchHolds size end x.0 x.1)
            (λ j. (sym same j, sym seen j)) k.watched;
      }

  -- where a step changes its view's work alone
  works : (order' : List Entry) (words' : List ℕ) (w : View) → watching_of w ≡ watching_of v
      → AreHeld (lock_word words') (set parts id (working_of w))
      → ProgressHolds size (end_form opening.setup (order_end opening order'))
      (lock_word words') (set parts id (working_of w))
      → WatchHolds size
      (end_form opening.setup (order_end opening order'))
      (set parts id (working_of w)) watches
      → WorksHold opening order' words' (set views id w)
  works order' words' w like held told watched =
      let set_as = part_set working_of views id w in
      let seen = part_same watching_of views id v w s.here like in
      record {
        held = subst (λ (ps : List Working). AreHeld (lock_word words') ps) (sym set_as) held;
        told = subst (λ (ps : List Working).
            ProgressHolds size (end_form opening.setup
            (order_end opening order')) (lock_word words') ps) (sym set_as) told;
        watched = subst (λ (x : List Working × List Watching). WatchHolds size
            (end_form opening.setup (order_end opening order')) x.0 x.1)
            (λ j. (sym set_as j, sym seen j)) watched;
      }

  -- where a step changes a lock's word alone
  words_only : (words' : List ℕ) (w : View) → working_of w ≡ working_of v
      → watching_of w ≡ watching_of v → AreHeld (lock_word words') parts
      → ProgressHolds size end (lock_word words') parts
      → WorksHold opening order words' (set views id w)
  words_only words' w like watches_on held told =
      let same = part_same working_of views id v w s.here like in
      let seen = part_same watching_of views id v w s.here watches_on in
      record {
        held = subst (λ (ps : List Working). AreHeld (lock_word words') ps) (sym same) held;
        told = subst (λ (ps : List Working). ProgressHolds size end (lock_word words') ps)
            (sym same) told;
        watched = subst (λ (x : List Working × List Watching).
            WatchHolds size end x.0 x.1)
            (λ j. (sym same j, sym seen j)) k.watched;
      }

  -- ---- the steps that change a view's work or its watch

  take_lock_works : (lock : ℕ) → MayStep v (take_lock lock)
      → WorksHold opening order (words_behind words v (take_lock lock))
      (views_behind words home views id v (take_lock lock))
  take_lock_works lock low =
      let e : StepKind = take_lock lock in
      let n : ℕ = value_behind v e (lock_word words lock) in
      let later : ℕ → ℕ = lock_word (set words (lock_number lock) n) in
      let is : later lock ≡ n = lock_set words opening.setup s.wide lock n low in
      works order (set words (lock_number lock) n) (after_take_lock lock (lock_word words lock) v)
      (watch_on_take lock (lock_word words lock) v)
      (held_asked (lock_word words) parts k.held id v.working mine v refl later lock low
      (λ j below ne. lock_else words lock n j ne) is)
      (told_asked size end (lock_word words) parts k.told k.held id v.working mine later
      lock (λ j below ne. lock_else words lock n j ne) v refl is)
      (watched_asked size end parts watches id lock v k.watched mine
      (lock_word words lock))

  advance_works : (lock upto : ℕ) → MayStep v (advance lock upto)
      → WorksHold opening order (words_behind words v (advance lock upto))
      (views_behind words home views id v (advance lock upto))
  advance_works lock upto may =
      let n : ℕ = upto + 1 in
      let later : ℕ → ℕ = lock_word (set words (lock_number lock) n) in
      let low : lock < 8 = (k.held.each id lock v.working mine may.0).0 in
      let is : later lock ≡ n = lock_set words opening.setup s.wide lock n low in
      let up : end_form opening.setup (v.reserving).seen ≤ end
      = end_address_of-mono size s.size (v.reserving).seen
      (order_end opening order) s.seen in
      let seen : upto < most_told size (end_form opening.setup (v.reserving).seen) lock
      (v.working).flight
      = subst (λ (x : Setup). upto < most_told x.seg_size (end_form x (v.reserving).seen) lock
      (v.working).flight) s.setup_is may.1 in
      let least = most_told_later size (end_form opening.setup (v.reserving).seen) end lock
      (v.working).flight up in
      words_only (set words (lock_number lock) n) (after_advance lock upto v) refl refl
      (held_told (lock_word words) parts k.held id v.working mine later lock may.0
      (λ j below ne. lock_else words lock n j ne) (λ z. let no = sym is ∙ z in omega arith))
      (told_advanced size end (lock_word words) parts k.told k.held id v.working mine
      later lock (λ j below ne. lock_else words lock n j ne) may.0 (omega (arith, least, is)))

  release_works : (lock : ℕ) → MayStep v (release lock)
      → WorksHold opening order (words_behind words v (release lock))
      (views_behind words home views id v (release lock))
  release_works lock may =
      let later : ℕ → ℕ = lock_word (set words (lock_number lock) 0) in
      let low : lock < 8 = (k.held.each id lock v.working mine may.0).0 in
      let is : later lock ≡ 0 = lock_set words opening.setup s.wide lock 0 low in
      works order (set words (lock_number lock) 0) (after_release lock v) refl
      (held_released (lock_word words) parts k.held id v.working mine later lock may.0 is
      (λ j below ne. lock_else words lock 0 j ne))
      (told_released size end (lock_word words) parts k.told k.held id v.working mine
      later lock (λ j below ne. lock_else words lock 0 j ne) may.0 is)
      (watched_released size end parts watches k.watched id v.working mine lock
      (after_release lock v).working.locks)

  store_word_works : WorksHold opening order (words_behind words v store_ring_word)
      (views_behind words home views id v store_ring_word)
  store_word_works =
      let i : ℕ = word_of_step v store_ring_word in
      let n : ℕ = value_behind v store_ring_word (slice_index words i) in
      let others : (j : ℕ) → j < 8 → lock_word (set words i n) j ≡ lock_word words j
      = locks_else words i n (inr (far ((v.opening).setup).ring_pages _)) in
      let after : List Working = set parts id (working_of (after_store_word v)) in
      let held : AreHeld (lock_word words) after
      = held_copied_on (lock_word words) parts k.held id v.working mine in
      works order (set words i n) (after_store_word v) refl
      (held_same (lock_word words) after held (lock_word (set words i n)) others)
      (told_same size end (lock_word words) after
      (told_copied_on size end (lock_word words) parts k.told id v.working mine)
      held (lock_word (set words i n)) others)
      (watched_copied_on size end parts watches k.watched id v.working mine)

  -- the entry that is reserved, where the view's place is told
  abbrev ReservedAt : List ℕ → Record → Place → Type 0
  ReservedAt locks value p = WorksHold opening
      (order ++ entry_reserved (v.reserving).number (place_at v p) value ∷ [])
      (set words 0 (value_behind (with_place p v) (store_position locks value) 0))
      (set views id (after_store_position locks value (with_place p v)))

  store_position_works : (locks : List ℕ) (value : Record) → MayStep v (store_position locks value)
      → WorksHold opening (order_behind v (store_position locks value) order)
      (words_behind words v (store_position locks value))
      (views_behind words home views id v (store_position locks value))
  store_position_works locks value may =
      let at : ℕ = may.0 in
      let prev : ℕ = may.1 in
      let c : Copy = record {
        entry = entry_reserved (v.reserving).number at value;
        prev = prev;
        locks = locks;
        copied = 0;
      } in
      let n : ℕ = value_behind (with_place (Stored at prev) v) (store_position locks value) 0 in
      let others : (j : ℕ) → j < 8 → lock_word (set words 0 n) j ≡ lock_word words j
      = locks_else words 0 n (inl (omega arith)) in
      let after : List Working
      = set parts id (record { locks = (v.working).locks; flight = Copying c }) in
      let held : AreHeld (lock_word words) after
      = held_begun (lock_word words) parts k.held id v.working mine c may.5 in
      let starts : at ≡ order_end opening order = s.starts at prev may.2 in
      let first : end_form opening.setup at ≡ end
      = ap (λ (n : ℕ). end_form opening.setup n) starts in
      let rooms = rooms_of_push size order c.entry in
      let later_end : ℕ = end_form opening.setup
      (order_end opening (order ++ c.entry ∷ [])) in
      let up : end ≤ later_end = end_address_of-mono size s.size
      (order_end opening order)
      (order_end opening (order ++ c.entry ∷ [])) (omega (arith, rooms)) in
      subst (ReservedAt locks value) (sym may.2)
      (works (order ++ c.entry ∷ []) (set words 0 n)
      (after_store_position locks value (with_place (Stored at prev) v)) refl
      (held_same (lock_word words) after held (lock_word (set words 0 n)) others)
      (told_same size later_end (lock_word words) after
      (told_later size end later_end (lock_word words) after up
      (told_begun size end (lock_word words) parts k.told id v.working mine c may.6
      (omega (arith, first))))
      held (lock_word (set words 0 n)) others)
      (watched_reserved opening order parts watches id c (v.working).locks s.size k.watched
      starts))

  load_lock_works : (lock limit : ℕ) → WorksHold opening order
      (words_behind words v (load_lock lock limit))
      (views_behind words home views id v (load_lock lock limit))
  load_lock_works lock limit =
      let w : View = after_load_lock lock limit (lock_word words lock) v in
      let same = part_same working_of views id v w s.here refl in
      let seen = part_set watching_of views id w in
      subst (λ (ws : List ℕ). WorksHold opening order ws (set views id w))
      (sym (word_again words (lock_number lock)))
      (record {
        held = subst (λ (ps : List Working). AreHeld (lock_word words) ps) (sym same) k.held;
        told = subst (λ (ps : List Working). ProgressHolds size end (lock_word words) ps)
            (sym same) k.told;
        watched = subst (λ (x : List Working × List Watching).
            WatchHolds size end x.0 x.1)
            (λ j. (sym same j, sym seen j))
            (watch_visits size (lock_word words) parts k.held end k.told
            opening s.size order watches id lock limit v s.setup_is s.seen k.watched mine
            (part_at watching_of views id v s.here));
      })

  -- ---- every step

  pub works_behind : (e : StepKind) → MayStep v e
      → WorksHold opening (order_behind v e order) (words_behind words v e)
      (views_behind words home views id v e)
  works_behind load_position may = stays 0 _ _ (inl (omega arith)) (refl, refl)
  works_behind take_write_turn may = stays write_turn_number _ _ (inr (omega arith))
      (works_met v (with_hold Turned v) (refl, refl) (slice_index words write_turn_number) 0)
  works_behind slot_out may = stays write_turn_number _ _ (inr (omega arith)) (works_on_slot v home)
  works_behind slot_in may = stays write_turn_number _ _ (inr (omega arith)) (refl, refl)
  works_behind release_write_turn may = stays write_turn_number _ _ (inr (omega arith)) (refl, refl)
  works_behind (lock_position expected) may = stays 0 _ _ (inl (omega arith))
      (works_met v (with_place (Locked expected) v) (refl, refl) (slice_index words 0) expected)
  works_behind load_prev may = stays 1 _ _ (inl (omega arith))
      (works_by_place (after_load_prev (slice_index words 1)) v
      (works_on_load_prev (slice_index words 1) v))
  works_behind store_prev may = stays 1 _ _ (inl (omega arith))
      (works_by_place after_store_prev v (works_on_store_prev v))
  works_behind (store_position locks value) may = store_position_works locks value may
  works_behind (give_position_back value) may = stays 0 _ _ (inl (omega arith))
      (works_by_place (after_stop LogFull) v (works_on_stop LogFull v))
  works_behind stay may = stays 0 _ _ (inl (omega arith))
      (works_by_place (after_stop AtSegmentStart) v (works_on_stop AtSegmentStart v))
  works_behind (load_lock lock limit) may = load_lock_works lock limit
  works_behind (take_lock lock) may = take_lock_works lock may
  works_behind (advance lock upto) may = advance_works lock upto may
  works_behind (release lock) may = release_works lock may
  works_behind (load_buffer_end buffer) may = stays _ _ _ (inr (omega arith)) (refl, refl)
  works_behind store_ring_word may = store_word_works
  works_behind (load_ring_word n) may =
      stays _ _ _ (inr (far ((v.opening).setup).ring_pages _)) (refl, refl)
  works_behind load_written may = stays written_number _ _ (inr (omega arith)) (refl, refl)
  works_behind load_flushed may = stays flushed_number _ _ (inr (omega arith)) (refl, refl)
  works_behind load_moment may = stays moment_number _ _ (inr (omega arith)) (refl, refl)
  works_behind load_down may = stays down_number _ _ (inr (omega arith)) (refl, refl)
  works_behind store_written may = stays written_number _ _ (inr (omega arith)) (refl, refl)
  works_behind store_moment may = stays moment_number _ _ (inr (omega arith)) (refl, refl)
  works_behind store_flushed may = stays flushed_number _ _ (inr (omega arith)) (refl, refl)
  works_behind set_down may = stays down_number _ _ (inr (omega arith)) (refl, refl)
  works_behind load_async may = stays _ _ _ (inr (omega arith)) (refl, refl)
  works_behind (raise_async expected upto) may = stays _ _ _ (inr (omega arith)) (refl, refl)
  works_behind take_mapping_turn may = stays mapping_turn_number _ _ (inr (omega arith))
      (works_met v (with_stage Taken v) (refl, refl) (slice_index words mapping_turn_number) 0)
  works_behind load_initialised_end may = stays initialised_number _ _ (inr (omega arith)) (refl, refl)
  works_behind clear_end may = stays _ _ _ (inr (omega arith)) (refl, refl)
  works_behind zero_ring_word may =
      stays _ _ _ (inr (far ((v.opening).setup).ring_pages _)) (refl, refl)
  works_behind publish_end may = stays _ _ _ (inr (omega arith)) (refl, refl)
  works_behind publish_initialised_end may = stays initialised_number _ _ (inr (omega arith)) (refl, refl)
  works_behind release_mapping_turn may = stays mapping_turn_number _ _ (inr (omega arith)) (refl, refl)
  works_behind (create segment outcome) may = stays write_turn_number _ _ (inr (omega arith))
      (works_on_call v _ (v.writing).hold)
  works_behind (write segment page upto bytes outcome) may = stays write_turn_number _ _ (inr (omega arith))
      (works_on_call v _ (v.writing).hold)
  works_behind (sync segment outcome) may = stays write_turn_number _ _ (inr (omega arith))
      (works_on_call v _ (v.writing).hold)
