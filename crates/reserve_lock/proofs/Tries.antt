-- The position, loaded and locked or found busy.
use Rattle.std.specs.Prelude.{max}
use Rattle.std.proofs.Common.{◌≡◌, ◌≢◌, ℕ, ◌%◌, ◌≤◌, true, inl, inr, refl, sym, ap, ◌∙◌, subst, arith}
use Rattle.std.proofs.lemmas.Bool.{ne_eqb}
use Rattle.std.proofs.Math.Nat.{le-max_left, max-eq_right}
use mathlib.Core.Option.{none}
use Rattle.machine_state.specs.declared.setup.Setup.{Setup}
use Rattle.machine_state.specs.Words.{log_limit}
use Rattle.machine_state.specs.Views.{Locked, View}
use Rattle.machine_state.specs.Moves.{unlocked}
use Rattle.machine_state.specs.Steps.{load_position, lock_position, view_behind}
use Rattle.wal_rule.specs.Stepping.{Meets, Stands}
use Rattle.reserve_lock.specs.Reserved.{IsPositionBusy, IsPositionLocked, locked_view, seen_view}
use Rattle.reserve_lock.proofs.Standing.{locked_behind_seen, locked_whole, locked_within}
use Rattle.reserve_lock.proofs.Steps.{behind_load, behind_lock, behind_vain_lock, place_view}

module _ (loaded : ℕ) (v w : View) (load : w ≡ view_behind v load_position loaded none)
    (met_loaded : Meets v load_position loaded) where
  pub found_locked : loaded % 2 ≡ 1 → IsPositionBusy loaded v w
  found_locked odd = record {
    loaded = loaded;
    met = met_loaded;
    found = inl (odd, refl);
    new_is = load ∙ behind_load loaded v;
  }

  module _ (met : ℕ) (x : View) (lock : x ≡ view_behind w (lock_position loaded) met none)
      (even : loaded % 2 ≡ 0) where
    pub found_moved : met ≢ loaded → Meets w (lock_position loaded) met → IsPositionBusy met v x
    found_moved apart found =
        let vain : x ≡ w = lock ∙ behind_vain_lock loaded met w (ne_eqb met loaded apart) in
        record {
          loaded = loaded;
          met = met_loaded;
          found = inr (
            even,
            apart,
            subst (λ (y : View). Meets y (lock_position loaded) met) (sym vain) found,
          );
          new_is = vain ∙ load ∙ behind_load loaded v;
        }

    module _ (setup : Setup) (own : (v.opening).setup ≡ setup) (met_is : met ≡ loaded)
        (live : (x.reserving).live ≡ true) (stands : ∥ Stands x ∥₁) where
      whole_word : unlocked loaded ≡ loaded
      whole_word = omega (arith, even)

      locked : x ≡ place_view (Locked loaded) (seen_view loaded v)
      locked = lock ∙ behind_lock loaded met w met_is
          ∙ ap (place_view (Locked loaded)) (load ∙ behind_load loaded v
          ∙ ap (λ (n : ℕ). seen_view n v) whole_word)

      place : (x.reserving).place ≡ Locked loaded
      place = ap (λ (y : View). (y.reserving).place) locked

      both_seen : max (v.reserving).seen loaded ≤ loaded
      both_seen = subst (λ (n : ℕ). n ≤ loaded) (ap (λ (y : View). (y.reserving).seen) locked)
          (locked_behind_seen x loaded live place stands)

      seen : (v.reserving).seen ≤ loaded
      seen =
          let low = le-max_left (v.reserving).seen loaded in
          let high = both_seen in
          omega (arith, low, high)

      pub is_locked : IsPositionLocked setup loaded v x
      is_locked = record {
        behind_seen = seen;
        within = subst (λ (s : Setup). loaded ≤ log_limit s)
            (ap (λ (y : View). (y.opening).setup) locked ∙ own)
            (locked_within x loaded live place stands);
        whole = locked_whole x loaded live place stands;
        new_is = locked ∙ ap
            (λ (n : ℕ). record (locked_view loaded v)
            { reserving = record (locked_view loaded v).reserving { seen = n } })
            (max-eq_right seen);
      }
