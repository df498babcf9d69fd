-- A pass that gives its locks back, or gives its copy up, is about nothing.
use Rattle.std.proofs.Common.{◌≡◌, ◌≢◌, ◌⊎◌, ◌≤◌, ℕ, List, [], length, refl, sym, ap, ◌∙◌, subst}
use Rattle.wal_page.specs.EntryWords.{words_owned}
use Rattle.wal_page.specs.Placed.{PlacedState}
use Rattle.machine_state.specs.declared.setup.Setup.{Setup}
use Rattle.machine_state.specs.Views.{Copying, Landed, Working, View}
use Rattle.machine_state.specs.Steps.{IsResting, IsStranded}
use Rattle.machine_state.proofs.Landing.{none_lands}
use Rattle.insert_locks.specs.Holding.{NothingLeft}
use Rattle.wal_log.specs.Standing.{CopiesUnder, HasLocks, KeepsPass}

-- without locks, and with nothing in flight
abbrev pub rested : View → View
rested v = record v { working = record { locks = []; flight = Landed } }

pub rested_keeps : (old v : View) → KeepsPass old v → KeepsPass old (rested v)
rested_keeps old v k = record {
  opening = k.opening;
  live = k.live;
  number = k.number;
  spare = k.spare;
  spare_end = k.spare_end;
  joined = k.joined;
  counts = k.counts;
  rises = k.rises;
  down = k.down;
}

-- ---- nothing is in flight under the locks

module _ (locks : List ℕ) (v : View) (holds : HasLocks locks v) where
  pub locks_held : (v.working).locks ≡ locks
  locks_held = ap (λ (w : Working). w.locks) holds.working

  pub none_flies : NothingLeft (v.opening).setup locks (v.working).flight
  none_flies = subst (NothingLeft (v.opening).setup locks)
      (sym (ap (λ (w : Working). w.flight) holds.working)) tt

  pub unlocked_rests : IsResting (rested v)
  unlocked_rests = record {
    place = holds.place;
    locks = refl;
    flight = refl;
    stage = holds.stage;
    hold = holds.hold;
  }

-- ---- an entry is

module _ (setup : Setup) (locks : List ℕ) (placed : PlacedState) (v : View)
    (c : CopiesUnder setup locks placed v) where
  pub locks_under : (v.working).locks ≡ locks
  locks_under = ap (λ (w : Working). w.locks) c.working

  flight_is : (v.working).flight ≡ Copying c.copy
  flight_is = ap (λ (w : Working). w.flight) c.working

  -- all its words are copied
  pub none_left : 1 ≤ length locks
      → (c.copy).copied ≡ words_owned ((v.opening).setup).seg_size (c.copy).entry
      → NothingLeft (v.opening).setup locks (v.working).flight
  none_left some whole = subst (NothingLeft (v.opening).setup locks) (sym flight_is)
      (c.under, some, whole)

  pub landed_rests : IsResting (rested v)
  landed_rests = record {
    place = c.place;
    locks = refl;
    flight = refl;
    stage = c.stage;
    hold = c.hold;
  }

  -- behind a fault the copy may be given up
  pub strands : (v.writing.down_met ≢ 0) ⊎ (v.writing.down_set ≢ 0) → IsStranded v
  strands down = record {
    down = down;
    flight = λ is. none_lands c.copy (sym is ∙ flight_is);
    place = c.place;
    stage = c.stage;
    hold = c.hold;
  }
