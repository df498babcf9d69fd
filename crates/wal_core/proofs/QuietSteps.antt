-- At the places of an insert a step leaves the writer where it is, and what its view has of it.
use Rattle.std.proofs.Common.{◌≡◌, ℕ, Bool, true, false, cond, eqb, List, refl}
use Rattle.std.proofs.Math.Dec.{ltb}
use mathlib.Core.Option.{Option}
use Rattle.machine_state.specs.Views.{Place, Free, Locked, Loaded, Stored, LogFull, Hold, Plain, Stage, Away, Taken, Looked, Ready, Zeroing, Published, View}
use Rattle.machine_state.specs.Moves.{with_place, with_stage, after_load_prev, after_store_prev, after_store_position, after_stop}
use Rattle.machine_state.specs.Steps.{StepKind, view_behind, home_behind, lock_position, load_prev, store_prev, store_position, give_position_back, take_lock, load_down, take_mapping_turn, zero_ring_word, publish_end}
use Rattle.machine_turns.specs.Doing.{Ask, Inserts, Commits, Flushes}
use Rattle.machine_turns.specs.Turned.{fits, map_event, reserve_event}

abbrev hold_in : View → Hold
hold_in v = (v.writing).hold

either_hold : (b : Bool) (x y : View) → hold_in x ≡ hold_in y → hold_in (cond b x y) ≡ hold_in y
either_hold true x y same = same
either_hold false x y same = refl

-- the writer and the view's hold of it stay
pub record IsQuiet (v : View) (home : Option Plain) (met : ℕ) (e : StepKind) : Type 0 where
  pub hold_stays : hold_in (view_behind v e met home) ≡ hold_in v
  pub home_stays : home_behind v e home ≡ home

module _ (v : View) (home : Option Plain) where
  by_place : (f : View → View) → ((p : Place) → hold_in (f (with_place p v)) ≡ hold_in v)
      → hold_in (f v) ≡ hold_in v
  by_place f each = each (v.reserving).place

  prev_loaded : (met : ℕ) (p : Place) → hold_in (after_load_prev met (with_place p v)) ≡ hold_in v
  prev_loaded met Free = refl
  prev_loaded met (Locked at) = refl
  prev_loaded met (Loaded at prev) = refl
  prev_loaded met (Stored at prev) = refl

  prev_stored : (p : Place) → hold_in (after_store_prev (with_place p v)) ≡ hold_in v
  prev_stored Free = refl
  prev_stored (Locked at) = refl
  prev_stored (Loaded at prev) = refl
  prev_stored (Stored at prev) = refl

  given_back : (p : Place) → hold_in (after_stop LogFull (with_place p v)) ≡ hold_in v
  given_back Free = refl
  given_back (Locked at) = refl
  given_back (Loaded at prev) = refl
  given_back (Stored at prev) = refl

  pub quiet_load_down : (met : ℕ) → IsQuiet v home met load_down
  quiet_load_down met = record { hold_stays = refl; home_stays = refl }

  pub quiet_lock_position : (met expected : ℕ) → IsQuiet v home met (lock_position expected)
  quiet_lock_position met expected = record {
    hold_stays = either_hold (eqb met expected) (with_place (Locked expected) v) v refl;
    home_stays = refl;
  }

  pub quiet_load_prev : (met : ℕ) → IsQuiet v home met load_prev
  quiet_load_prev met = record {
    hold_stays = by_place (after_load_prev met) (prev_loaded met);
    home_stays = refl;
  }

  pub quiet_store_prev : (met : ℕ) → IsQuiet v home met store_prev
  quiet_store_prev met = record {
    hold_stays = by_place after_store_prev prev_stored;
    home_stays = refl;
  }

  pub quiet_store_position : (met : ℕ) (locks : List ℕ)
      (value : Rattle.wal_types.specs.declared.record.Record.Record)
      → IsQuiet v home met (store_position locks value)
  quiet_store_position met locks value = record {
    hold_stays = by_place (after_store_position locks value) position_stored;
    home_stays = refl;
  }
    where
      position_stored : (p : Place)
          → hold_in (after_store_position locks value (with_place p v)) ≡ hold_in v
      position_stored Free = refl
      position_stored (Locked at) = refl
      position_stored (Loaded at prev) = refl
      position_stored (Stored at prev) = refl

  pub quiet_give_back : (met : ℕ) (value : Rattle.wal_types.specs.declared.record.Record.Record)
      → IsQuiet v home met (give_position_back value)
  quiet_give_back met value = record {
    hold_stays = by_place (after_stop LogFull) given_back;
    home_stays = refl;
  }

  pub quiet_take_lock : (met lock : ℕ) → IsQuiet v home met (take_lock lock)
  quiet_take_lock met lock = record {
    hold_stays = either_hold (eqb met 0) _ v refl;
    home_stays = refl;
  }

  pub quiet_take_turn : (met : ℕ) → IsQuiet v home met take_mapping_turn
  quiet_take_turn met = record {
    hold_stays = either_hold (eqb met 0) (with_stage Taken v) v refl;
    home_stays = refl;
  }

  -- one of two steps
  pub quiet_either : (met_of : StepKind → ℕ) (b : Bool) (e f : StepKind)
      → IsQuiet v home (met_of e) e → IsQuiet v home (met_of f) f
      → IsQuiet v home (met_of (cond b e f)) (cond b e f)
  quiet_either met_of true e f p q = p
  quiet_either met_of false e f p q = q

  module _ (met_of : StepKind → ℕ) (words : List ℕ) (lock : ℕ) where
    pub quiet_reserving : (ask : Ask) (p : Place) → IsQuiet v home
        (met_of (reserve_event v words ask lock p)) (reserve_event v words ask lock p)
    quiet_reserving ask Free = quiet_lock_position _ _
    quiet_reserving Flushes (Locked at) = quiet_load_prev _
    quiet_reserving (Inserts value) (Locked at) = quiet_either met_of (fits v (Inserts value) at)
        load_prev (give_position_back value) (quiet_load_prev _) (quiet_give_back _ value)
    quiet_reserving (Commits value) (Locked at) = quiet_either met_of (fits v (Commits value) at)
        load_prev (give_position_back value) (quiet_load_prev _) (quiet_give_back _ value)
    quiet_reserving ask (Loaded at prev) = quiet_store_prev _
    quiet_reserving Flushes (Stored at prev) = quiet_load_down _
    quiet_reserving (Inserts value) (Stored at prev) = quiet_store_position _ _ value
    quiet_reserving (Commits value) (Stored at prev) = quiet_store_position _ _ value

    pub quiet_mapping : (s : Stage) → IsQuiet v home (met_of (map_event v s)) (map_event v s)
    quiet_mapping Away = quiet_take_turn _
    quiet_mapping Taken = record { hold_stays = refl; home_stays = refl }
    quiet_mapping (Looked at) = record { hold_stays = refl; home_stays = refl }
    quiet_mapping (Ready at written) = record { hold_stays = refl; home_stays = refl }
    quiet_mapping (Zeroing at count) = quiet_either met_of (ltb count 1024) zero_ring_word
        publish_end (record { hold_stays = refl; home_stays = refl })
        (record { hold_stays = refl; home_stays = refl })
    quiet_mapping (Published at) = record { hold_stays = refl; home_stays = refl }
