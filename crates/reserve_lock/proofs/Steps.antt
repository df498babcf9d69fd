-- The views behind the steps of a reservation, as plain updates of the view before.
use Rattle.std.specs.Prelude.{if◌then◌else◌, ◌==◌}
use Rattle.std.specs.Borrow.{Bor}
use Rattle.std.proofs.Common.{◌≡◌, ℕ, Bool, false, List, sym, ap, subst, refl}
use Rattle.std.proofs.lemmas.Bool.{eq-eqb}
use mathlib.Core.Option.{none}
use Rattle.wal_types.specs.declared.record.Record.{Record}
use Rattle.machine_state.specs.Views.{Loaded, Locked, Place, Stored, Hold, View}
use Rattle.machine_state.specs.Moves.{entry_reserved, unlocked, with_place, with_hold}
use Rattle.machine_state.specs.Steps.{load_position, load_prev, lock_position, store_position, store_prev, view_behind}
use Rattle.wal_rule.specs.declared.table.LogTable.{LogTable}
use Rattle.wal_rule.specs.declared.seated.SeatedPass.{SeatedPass}
use Rattle.wal_rule.specs.Tables.{setup_of_table}
use Rattle.wal_rule.specs.SeatedPasses.{HasView, setup_of, view_of}
use Rattle.reserve_lock.specs.Reserved.{reserved_view, seen_view}

-- what a pass knows
pub known_in : {D : Type 0} {v : View} {old new : SeatedPass D} → HasView v old new
    → view_of new ≡ v
known_in is = ap (λ me. me.0) is.me_is

-- at the same table the log is set up the same
pub same_setup : {D : Type 0} (old new : SeatedPass D) → new.table ≡ old.table
    → setup_of new ≡ setup_of old
same_setup {D} old new is = ap (λ (t : Bor (LogTable D)). setup_of_table t.now) is

abbrev with_held : View → Hold → View
with_held v h = with_hold h v

abbrev pub place_view : Place → View → View
place_view p v = record v { reserving = record v.reserving { place = p } }

-- ---- the position is loaded and locked

pub behind_load : (met : ℕ) (v : View)
    → view_behind v load_position met none ≡ seen_view (unlocked met) v
behind_load met v = refl

module _ (expected met : ℕ) (v : View) where
  abbrev tried : Bool → View
  tried b = (if b then with_place (Locked expected) v else v)

  pub behind_lock : met ≡ expected
      → view_behind v (lock_position expected) met none ≡ place_view (Locked expected) v
  behind_lock is = ap tried (eq-eqb met expected is)

  pub behind_vain_lock : (met == expected) ≡ false
      → view_behind v (lock_position expected) met none ≡ v
  behind_vain_lock is = ap tried is

-- ---- a place is reserved

module _ (at : ℕ) (v : View) (place : (v.reserving).place ≡ Locked at) where
  pub behind_load_prev : (prev : ℕ)
      → view_behind v load_prev prev none ≡ place_view (Loaded at prev) v
  behind_load_prev prev = subst
      (λ (p : Place). view_behind (place_view p v) load_prev prev none
      ≡ place_view (Loaded at prev) v)
      (sym place) (refl)

module _ (at prev : ℕ) (locks : List ℕ) (v : View) where
  pub behind_store_prev : view_behind (place_view (Loaded at prev) v) store_prev 0 none
      ≡ place_view (Stored at prev) v
  behind_store_prev = refl

  pub behind_store_position : (value : Record)
      → view_behind (place_view (Stored at prev) v) (store_position locks value) 0 none
      ≡ reserved_view ((v.opening).setup).seg_size
      (entry_reserved (v.reserving).number at value) prev locks v
  behind_store_position value = refl
