-- What one try to reserve a place leaves of its pass, and what holds of it since an earlier view.
use Rattle.std.specs.Prelude.{Result, Ok, Err}
use Rattle.std.proofs.Common.{◌≡◌, ℕ, ◌<◌, ◌≤◌, List, [], ◌∷◌, ◌++◌, refl, sym, ap, ◌∙◌, subst, arith}
use Rattle.std.proofs.Math.Nat.{le-max_left, le-max_right}
use mathlib.Core.Option.{none}
use Rattle.wal_spelling.specs.Spelling.{Assembled, assembled}
use Rattle.wal_page.specs.Order.{Entry, position_behind}
use Rattle.wal_types.specs.declared.lsn.Lsn.{Lsn}
use Rattle.wal_page.specs.Placed.{PlacedState, placed_end}
use Rattle.machine_state.specs.declared.setup.Setup.{Setup}
use Rattle.machine_state.specs.Moves.{entry_reserved, unlocked}
use Rattle.machine_state.specs.Steps.{load_down, IsResting, view_behind}
use Rattle.wal_rule.specs.Downs.{KnowsDown}
use Rattle.machine_state.specs.Views.{Copy, Copying, Flight, LogFull, StopCause, View, Working}
use Rattle.wal_rule.specs.declared.seated.SeatedPass.{SeatedPass}
use Rattle.wal_rule.specs.SeatedPasses.{HasView, StandsAtRest, Steps, view_of}
use Rattle.insert_locks.proofs.Runs.{one_lock}
use Rattle.insert_locks.specs.declared.numbers.LockNo.{LockNo}
use Rattle.reserve_lock.specs.declared.reserving.ReserveErr.{ReserveErr}
use Rattle.reserve_lock.specs.declared.reserving.ReserveErr.TheVariants.{Busy, Full}
use Rattle.insert_locks.specs.Taking.{with_lock}
use Rattle.insert_locks.specs.Watching.{with_sight}
use Rattle.reserve_lock.specs.Reserved.{IsInsertReserved, IsLogFull, IsPlaceReserved, IsPositionBusy, TellsWhy, placed_first, reserved_view, seen_view, stopped_view}
use Rattle.word_ring.specs.Copied.{rest_of}
use Rattle.wal_log.specs.declared.beginning.Begun.{Begun}
use Rattle.wal_log.specs.declared.beginning.TryErr.{TryErr}
use Rattle.wal_log.specs.declared.beginning.TryErr.TheVariants as tries
use Rattle.wal_log.specs.Beginning.{AnswersBeginTry, IsBegunUnder, IsFoundBusy, IsPlaceBegun, TellsBeginTry, TriesInVain, try_err_of_reserve}
use Rattle.wal_log.specs.Downs.{KnowsNoFault}
use Rattle.wal_log.specs.Inserting.{FindsLogFull, HasReserved}
use Rattle.wal_log.specs.PassLogs.{log_of_pass, log_with_entry, log_with_full}
use Rattle.wal_log.specs.Standing.{CopiesUnder, HasLocks, HoldsLocks, KeepsPass, entry_in_flight}
use Rattle.wal_log.proofs.Keeping.{down_met_keeps, meets_since, none_loaded}
use Rattle.wal_log.proofs.Plain.{down_loaded}
use Rattle.wal_log.proofs.Seated.{hand_is, view_is}
use Rattle.wal_log.proofs.Unlocking.{rested, rested_keeps, unlocked_rests}

-- ---- the place was reserved

module _ (setup : Setup) (body : Assembled) (old new : View) (locks : List ℕ) (start : ℕ)
    (placed : PlacedState) (r : IsPlaceReserved setup body locks old new start placed) where
  abbrev entry : Entry
  entry = entry_reserved (old.reserving).number r.at (r.reserved).value

  new_is : new ≡ reserved_view setup.seg_size entry r.prev locks old
  new_is = (r.reserved).new_is

  seen_is : (new.reserving).seen ≡ position_behind setup.seg_size entry
  seen_is = ap (λ (v : View). (v.reserving).seen) new_is

  pub place_keeps : KeepsPass old new
  place_keeps = record {
    opening = ap (λ (v : View). v.opening) new_is;
    live = ap (λ (v : View). (v.reserving).live) new_is;
    number = ap (λ (v : View). (v.reserving).number) new_is;
    spare = ap (λ (v : View). (v.reserving).spare) new_is;
    spare_end = ap (λ (v : View). (v.reserving).spare_end) new_is;
    joined = ap (λ (v : View). (v.reserving).joined) new_is;
    counts = (let same = ap (λ (v : View). v.async_met) new_is in omega (arith, same));
    rises = omega (arith, seen_is, r.behind_seen);
    down = λ faults knows. subst (KnowsDown faults) (sym new_is) knows;
  }

-- and begins to be copied, under just these locks; its entry is this one
pub begun_under : (setup : Setup) (body : Assembled) (locks : List ℕ) (old new : View)
    (start end : ℕ) (placed : PlacedState)
    → (r : IsPlaceReserved setup body locks old new start placed) → end ≡ placed_end placed
    → HasLocks locks old → KnowsNoFault old
    → (b : IsBegunUnder setup body locks old new start end placed)
    × (b.entry ≡ entry_reserved (old.reserving).number r.at (r.reserved).value)
begun_under setup body locks old new start end placed r end_is holds up = (
  record {
    entry = e;
    reserved = record {
      own = record {
        value = (r.reserved).value;
        logged = (r.reserved).logged;
        of_body = (r.reserved).of_body;
        at = r.at;
        entry_is = refl;
        behind_seen = r.behind_seen;
        within = r.within;
      };
      log_is = ap (λ (v : View). log_of_pass v) is;
      seen = (let same = ap (λ (v : View). (v.reserving).seen) is in omega (arith, same));
    };
    up = subst KnowsNoFault (sym is) (record { met = up.met; set = up.set });
    copies = subst (λ (v : View). CopiesUnder setup locks placed v) (sym is) (record {
      copy = c;
      working = ap (λ (w : Working). record w { flight = Copying c }) holds.working;
      under = refl;
      rest = placed_so;
      place = refl;
      stage = holds.stage;
      hold = holds.hold;
    });
    in_flight = ap (λ (v : View). entry_in_flight v) is;
    prev = r.prev;
    placed_is = r.placed_is;
    start_is = r.start_is;
    end_is = end_is;
  },
  refl,
)
  where
    e : Entry
    e = entry_reserved (old.reserving).number r.at (r.reserved).value

    c : Copy
    c = record { entry = e; prev = r.prev; locks = locks; copied = 0 }

    is : new ≡ reserved_view setup.seg_size e r.prev locks old
    is = (r.reserved).new_is

    own : PlacedState
    own = placed_first setup (assembled (r.reserved).value) r.at r.prev

    first_word : own.next ≡ (rest_of setup c).next
    first_word = omega arith

    placed_so : placed ≡ rest_of setup c
    placed_so = r.placed_is
        ∙ ap (λ (a : Assembled). placed_first setup a r.at r.prev) (sym (r.reserved).of_body)
        ∙ ap (λ (n : ℕ). record own { next = n }) first_word

-- so an insert does, under one lock
pub begun_is : (setup : Setup) (body : Assembled) (old new : View) (lock : LockNo)
    (start end : Lsn) (placed : PlacedState)
    → IsInsertReserved setup body lock.0 old new start.0 placed → end.0 ≡ placed_end placed
    → lock.0 < 8 → HasLocks (lock.0 ∷ []) old → KnowsNoFault old
    → IsPlaceBegun setup body old new
    (record { lock = lock; start = start; end = end; placed = placed })
begun_is setup body old new lock start end placed insert end_is low one up = record {
  lock_low = low;
  place = (begun_under setup body (lock.0 ∷ []) old new start.0 end.0 placed insert.place end_is
      one up).0;
}

-- ---- it was not: the lock is given back

-- that the log was found full is so still then
pub full_rests : (setup : Setup) (body : Assembled) (free : ℕ) (old v : View)
    → FindsLogFull setup body free old v → FindsLogFull setup body free old (rested v)
full_rests setup body free old v f = record {
  at = f.at;
  behind_seen = f.behind_seen;
  within = f.within;
  free_is = f.free_is;
  short = f.short;
  seen = f.seen;
  log_is = f.log_is;
}

module _ (v : View) where
  seen_keeps : (n : ℕ) → KeepsPass v (seen_view n v)
  seen_keeps n = record {
    opening = refl;
    live = refl;
    number = refl;
    spare = refl;
    spare_end = refl;
    joined = refl;
    counts = omega arith;
    rises = le-max_left (v.reserving).seen n;
    down = λ faults knows. knows;
  }

  pub stopped_keeps : (cause : StopCause) (at : ℕ)
      → KeepsPass v (stopped_view cause at (seen_view at v))
  stopped_keeps cause at = record {
    opening = refl;
    live = refl;
    number = refl;
    spare = refl;
    spare_end = refl;
    joined = refl;
    counts = omega arith;
    rises = le-max_left (v.reserving).seen at;
    down = λ faults knows. knows;
  }

  pub stopped_holds : (cause : StopCause) (at : ℕ) (locks : List ℕ) → HasLocks locks v
      → HasLocks locks (stopped_view cause at (seen_view at v))
  stopped_holds cause at locks holds = record {
    working = holds.working;
    place = refl;
    stage = holds.stage;
    hold = holds.hold;
  }

  pub stopped_up : (cause : StopCause) (at : ℕ) → KnowsNoFault v
      → KnowsNoFault (stopped_view cause at (seen_view at v))
  stopped_up cause at up = record { met = up.met; set = up.set }

module _ (setup : Setup) (body : Assembled) (old between : View) where
  pub keeps_in_vain : (e : ReserveErr) → TellsWhy setup body old between e → KeepsPass old between
  keeps_in_vain (Busy seen) why =
      subst (KeepsPass old) (sym why.new_is) (seen_keeps old (unlocked why.loaded))
  keeps_in_vain (Full free) why = subst (KeepsPass old) (sym why.new_is)
      (stopped_keeps old LogFull why.at)

  pub vain_async : (e : ReserveErr) → TellsWhy setup body old between e
      → between.async_met ≡ old.async_met
  vain_async (Busy seen) why = ap (λ (v : View). v.async_met) why.new_is
  vain_async (Full free) why = ap (λ (v : View). v.async_met) why.new_is

  pub holds_in_vain : (locks : List ℕ) → HasLocks locks old → (e : ReserveErr)
      → TellsWhy setup body old between e → HasLocks locks between
  holds_in_vain locks holds (Busy seen) why = subst (HasLocks locks) (sym why.new_is) (record {
    working = holds.working;
    place = holds.place;
    stage = holds.stage;
    hold = holds.hold;
  })
  holds_in_vain locks holds (Full free) why = subst (HasLocks locks) (sym why.new_is)
      (stopped_holds old LogFull why.at locks holds)

  pub up_in_vain : KnowsNoFault old → (e : ReserveErr) → TellsWhy setup body old between e
      → KnowsNoFault between
  up_in_vain up (Busy seen) why = subst KnowsNoFault (sym why.new_is) (record {
    met = up.met;
    set = up.set;
  })
  up_in_vain up (Full free) why = subst KnowsNoFault (sym why.new_is)
      (stopped_up old LogFull why.at up)

  pub seen_in_vain : (cause : StopCause) (at : ℕ) → between ≡ stopped_view cause at (seen_view at old)
      → at ≤ (between.reserving).seen
  seen_in_vain cause at is = subst (λ (v : View). at ≤ (v.reserving).seen) (sym is)
      (le-max_right (old.reserving).seen at)

  -- the log was found full
  pub full_in_vain : (free : ℕ) → IsLogFull setup body free old between
      → FindsLogFull setup body free old between
  full_in_vain free why = record {
    at = why.at;
    behind_seen = why.behind_seen;
    within = why.within;
    free_is = why.free_is;
    short = why.short;
    seen = seen_in_vain LogFull why.at why.new_is;
    log_is = ap (λ (v : View). log_of_pass v) why.new_is;
  }

  -- the position was met by the pass as it is behind the lock's release, but for the lock, and that
  -- it had seen what it had before
  found_busy : (lock seen : ℕ) → HasLocks (lock ∷ []) old → IsPositionBusy seen old between
      → IsFoundBusy seen old (rested between)
  found_busy lock seen holds busy =
      let holding = ap (λ (w : Working). record between { working = w })
      (holds_in_vain (lock ∷ []) holds (Busy seen) busy).working in
      let before = ap (λ (v : View). with_sight (old.reserving).seen v) busy.new_is in
      record {
        lock = lock;
        busy = subst (λ (v : View). IsPositionBusy seen (with_sight (old.reserving).seen v) v)
            holding (subst (λ (v : View). IsPositionBusy seen v between) (sym before) busy);
      }

  tells_in_vain : (lock : ℕ) → HasLocks (lock ∷ []) old → KnowsNoFault old → (e : ReserveErr)
      → TellsWhy setup body old between e
      → TellsBeginTry setup body old (rested between) (try_err_of_reserve e)
  tells_in_vain lock holds up (Busy seen) why =
      let still = up_in_vain up (Busy seen) why in (
        found_busy lock seen holds why,
        record {
          up = record { met = still.met; set = still.set };
          log_is = ap (λ (v : View). log_of_pass v) why.new_is;
        },
      )
  tells_in_vain lock holds up (Full free) why =
      let still = up_in_vain up (Full free) why in (
        full_rests setup body free old between (full_in_vain free why),
        record {
          met = still.met;
          set = still.set;
        },
      )

  module _ (lock : ℕ) (holds : HasLocks (lock ∷ []) old) (e : ReserveErr)
      (why : TellsWhy setup body old between e) where
    pub between_holds : HasLocks (lock ∷ []) between
    between_holds = holds_in_vain (lock ∷ []) holds e why

    module _ (new : View) (is : new ≡ rested between) where
      pub tried_in_vain : KnowsNoFault old
          → TellsBeginTry setup body old new (try_err_of_reserve e) × IsResting new
      tried_in_vain up = subst
          (λ (v : View). TellsBeginTry setup body old v (try_err_of_reserve e) × IsResting v)
          (sym is)
          (tells_in_vain lock holds up e why, unlocked_rests (lock ∷ []) between between_holds)

      pub vain_keeps : KeepsPass old new
      vain_keeps = subst (KeepsPass old) (sym is)
          (rested_keeps old between (keeps_in_vain e why))

-- ---- since an earlier view, from which the pass's log is the same

-- a try that reserved nothing
abbrev pub refused_try : TryErr → Result Begun TryErr
refused_try e = Err e

module _ (setup : Setup) (body : Assembled) (old between new : View)
    (keeps : KeepsPass old between) (same : log_of_pass between ≡ log_of_pass old) where
  pub reserved_since : (e : Entry) → HasReserved setup body between new e
      → HasReserved setup body old new e
  reserved_since e r = record {
    own = record {
      value = (r.own).value;
      logged = (r.own).logged;
      of_body = (r.own).of_body;
      at = (r.own).at;
      entry_is = (r.own).entry_is
          ∙ ap (λ (n : ℕ). entry_reserved n (r.own).at (r.own).value) keeps.number;
      behind_seen = omega (arith, keeps.rises, (r.own).behind_seen);
      within = (r.own).within;
    };
    log_is = r.log_is ∙ ap (log_with_entry e) same;
    seen = r.seen;
  }

  pub begun_since : (locks : List ℕ) (start end : ℕ) (placed : PlacedState)
      → (b : IsBegunUnder setup body locks between new start end placed)
      → (since : IsBegunUnder setup body locks old new start end placed)
      × (since.entry ≡ b.entry)
  begun_since locks start end placed b = (
    record {
      entry = b.entry;
      reserved = reserved_since b.entry b.reserved;
      up = b.up;
      copies = b.copies;
      in_flight = b.in_flight;
      prev = b.prev;
      placed_is = b.placed_is;
      start_is = b.start_is;
      end_is = b.end_is;
    },
    refl,
  )

  place_since : (begun : Begun) → IsPlaceBegun setup body between new begun
      → IsPlaceBegun setup body old new begun
  place_since begun b = record {
    lock_low = b.lock_low;
    place = (begun_since (begun.lock.0 ∷ []) begun.start.0 begun.end.0 begun.placed b.place).0;
  }

  pub full_since : (free : ℕ) → FindsLogFull setup body free between new
      → FindsLogFull setup body free old new
  full_since free f = record {
    at = f.at;
    behind_seen = omega (arith, keeps.rises, f.behind_seen);
    within = f.within;
    free_is = f.free_is;
    short = f.short;
    seen = f.seen;
    log_is = f.log_is ∙ ap (log_with_full f.at) same;
  }

  busy_since : (seen : ℕ) → (between.reserving).seen ≡ (old.reserving).seen
      → IsFoundBusy seen between new → IsFoundBusy seen old new
  busy_since seen same_sight b = record {
    lock = b.lock;
    busy = subst (λ (sight : ℕ). IsPositionBusy seen (with_lock b.lock (with_sight sight new))
        (with_lock b.lock new)) same_sight b.busy;
  }

  vain_since : TriesInVain between new → TriesInVain old new
  vain_since vain = record { up = vain.up; log_is = vain.log_is ∙ same }

  -- that the position was busy is told since a view that had seen just as much
  try_since : between.writing.down_set ≡ old.writing.down_set → (e : TryErr)
      → ((seen : ℕ) → e ≡ tries.Busy seen → (between.reserving).seen ≡ (old.reserving).seen)
      → TellsBeginTry setup body between new e → TellsBeginTry setup body old new e
  try_since set_none (tries.Busy seen) same_sight told =
      (busy_since seen (same_sight seen refl) told.0, vain_since told.1)
  try_since set_none (tries.AllHeld held) same_sight told = (told.0, vain_since told.1)
  try_since set_none (tries.Full free) same_sight told = (full_since free told.0, told.1)
  try_since set_none (tries.Down faults) same_sight told =
      (meets_since old between new faults set_none told.0, told.1 ∙ same)

  pub answers_since : between.writing.down_set ≡ old.writing.down_set → (same_one : Setup)
      → same_one ≡ setup → (r : Result Begun TryErr)
      → ((seen : ℕ) → r ≡ refused_try (tries.Busy seen)
      → (between.reserving).seen ≡ (old.reserving).seen)
      → AnswersBeginTry same_one body between r new → AnswersBeginTry setup body old r new
  answers_since set_none same_one is r same_sight told = answered r same_sight
      (subst (λ (s : Setup). AnswersBeginTry s body between r new) is told)
    where
      answered : (r : Result Begun TryErr)
          → ((seen : ℕ) → r ≡ refused_try (tries.Busy seen)
          → (between.reserving).seen ≡ (old.reserving).seen)
          → AnswersBeginTry setup body between r new → AnswersBeginTry setup body old r new
      answered (Ok begun) same_sight is_begun = place_since begun is_begun
      answered (Err e) same_sight vain = (
        try_since set_none e (λ seen busy. same_sight seen (ap refused_try busy)) vain.0,
        vain.1,
      )

-- ---- behind the down value loaded, with the lock taken or not

module _ (old loaded : View) (met : ℕ) (load : loaded ≡ view_behind old load_down met none)
    (known : (faults : ℕ) → KnowsDown faults old → met ≡ faults) where
  pub none_known : met ≡ 0 → (faults : ℕ) → KnowsDown faults old → ⊥
  none_known none_met faults knows = knows.0 (sym (known faults knows) ∙ none_met)

  pub loaded_keeps : KeepsPass old loaded
  loaded_keeps = (down_met_keeps old met loaded load known).pass

  pub load_sets_none : loaded.writing.down_set ≡ old.writing.down_set
  load_sets_none = ap (λ (v : View). v.writing.down_set) (load ∙ down_loaded met old)

  pub loaded_log : log_of_pass loaded ≡ log_of_pass old
  loaded_log = ap (λ (v : View). log_of_pass v) (load ∙ down_loaded met old)

  pub loaded_rests : IsResting old → IsResting loaded
  loaded_rests rests = subst IsResting (sym (load ∙ down_loaded met old))
      (record {
        place = rests.place;
        locks = rests.locks;
        flight = rests.flight;
        stage = rests.stage;
        hold = rests.hold;
      })

  -- no lock was taken
  pub vain_loaded : met ≡ 0 → (new : View) → new ≡ loaded → TriesInVain old new
  vain_loaded none_met new is = record {
    up = subst KnowsNoFault (sym is) (none_loaded old met loaded load known none_met);
    log_is = ap (λ (v : View). log_of_pass v) is ∙ loaded_log;
  }

  module _ (lock : ℕ) (taken : View) (take : taken ≡ with_lock lock loaded) where
    pub taken_sets_none : taken.writing.down_set ≡ old.writing.down_set
    taken_sets_none = ap (λ (v : View). v.writing.down_set) take ∙ load_sets_none

    pub taken_up : met ≡ 0 → KnowsNoFault taken
    taken_up none_met =
        let up = none_loaded old met loaded load known none_met in
        subst KnowsNoFault (sym take) (record { met = up.met; set = up.set })

    pub taken_log : log_of_pass taken ≡ log_of_pass old
    taken_log = ap (λ (v : View). log_of_pass v)
        (take ∙ ap (with_lock lock) (load ∙ down_loaded met old))

    pub taken_sight : (taken.reserving).seen ≡ (old.reserving).seen
    taken_sight = ap (λ (v : View). (v.reserving).seen) take
        ∙ ap (λ (v : View). (v.reserving).seen) (load ∙ down_loaded met old)

    pub taken_keeps : KeepsPass old taken
    taken_keeps =
        let keeps = loaded_keeps in
        subst (KeepsPass old) (sym take) (record {
          opening = keeps.opening;
          live = keeps.live;
          number = keeps.number;
          spare = keeps.spare;
          spare_end = keeps.spare_end;
          joined = keeps.joined;
          counts = keeps.counts;
          rises = keeps.rises;
          down = keeps.down;
        })

-- behind both a pass that was at rest holds just the lock
pub held_one : {D : Type 0} → (old loaded taken : SeatedPass D) (met : ℕ)
    → Steps load_down met old loaded
    → ((faults : ℕ) → KnowsDown faults (view_of old) → met ≡ faults) → (lock : ℕ) → lock < 8
    → HasView (with_lock lock (view_of loaded)) loaded taken → StandsAtRest old
    → HoldsLocks (lock ∷ []) taken
held_one old loaded taken met load known lock low take rest = record {
  some = omega arith;
  are = one_lock lock low;
  has = subst (λ (v : View). HasLocks (lock ∷ []) v) (sym (view_is take))
      (only_lock (loaded_rests (view_of old) (view_of loaded) met (view_is load) known rest.rests));
  empty = hand_is take ∙ hand_is load ∙ rest.empty;
}
  where
    only_lock : IsResting (view_of loaded) → HasLocks (lock ∷ []) (with_lock lock (view_of loaded))
    only_lock rests = record {
      working = ap (λ (locks : List ℕ). record (view_of loaded).working {
        locks = locks ++ lock ∷ [];
      }) rests.locks
          ∙ ap (λ (f : Flight). record (view_of loaded).working { locks = lock ∷ []; flight = f })
          rests.flight;
      place = rests.place;
      stage = rests.stage;
      hold = rests.hold;
    }
