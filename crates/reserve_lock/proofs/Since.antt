-- What a call leaves of the view that had the position locked, told of the view before the call; and what that view has for a reservation.
use Rattle.std.specs.Prelude.{Contains}
use Rattle.std.proofs.Common.{◌≡◌, ◌≢◌, ℕ, ◌%◌, ◌<◌, ◌≤◌, true, false, [], ◌∷◌, List, length, sym, ap, ◌∙◌, subst, arith}
use Rattle.byte_position.specs.Position.{address_of, end_address_of}
use Rattle.wal_spelling.specs.Spelling.{Assembled, is_assembled_switch}
use Rattle.wal_page.specs.Placed.{PlacedState}
use Rattle.machine_state.specs.declared.setup.Setup.{Setup}
use Rattle.machine_state.specs.Moves.{entry_reserved}
use Rattle.machine_state.specs.Words.{end_form, log_limit}
use Rattle.machine_state.specs.Views.{Landed, View, Working}
use Rattle.reserve_lock.specs.Reserved.{HoldsLocksFor, IsInsertReserved, IsLockedAt, IsPlaceReserved, IsPositionLocked, IsSwitchReserved, every_lock, reserved_view}
use Rattle.reserve_lock.proofs.Records.{value_inserted, value_switch}

module _ (setup : Setup) (at : ℕ) (old mid : View) (locked : IsPositionLocked setup at old mid)
  where
    module _ (locks : List ℕ) (holds : old.working ≡ record { locks = locks; flight = Landed })
      where
        module _ (body : Assembled) (new : View) (start : ℕ) (placed : PlacedState)
            (p : IsPlaceReserved setup body (mid.working).locks mid new start placed)
            (same : p.at ≡ at) where
          place_since : IsPlaceReserved setup body locks old new start placed
          place_since = record {
            at = p.at;
            prev = p.prev;
            reserved = record {
              value = (p.reserved).value;
              logged = (p.reserved).logged;
              of_body = (p.reserved).of_body;
              new_is = (p.reserved).new_is ∙ ap (λ (v : View). reserved_view setup.seg_size
                  (entry_reserved (v.reserving).number p.at (p.reserved).value) p.prev
                  (v.working).locks v) locked.new_is
                  ∙ ap (λ (w : Working). reserved_view setup.seg_size
                  (entry_reserved (old.reserving).number p.at (p.reserved).value) p.prev w.locks old)
                  holds;
            };
            behind_seen = omega (arith, locked.behind_seen, same);
            within = p.within;
            placed_is = p.placed_is;
            start_is = p.start_is;
          }

module _ (setup : Setup) (at : ℕ) (old mid : View) (locked : IsPositionLocked setup at old mid)
    (body : Assembled) (new : View) (start : ℕ) (placed : PlacedState)
    (p : IsPlaceReserved setup body (mid.working).locks mid new start placed) (same : p.at ≡ at)
  where
    pub insert_since : (lock : ℕ)
        → old.working ≡ record { locks = lock ∷ []; flight = Landed }
        → is_assembled_switch body ≡ false → IsInsertReserved setup body lock old new start placed
    unfolding place_since
    insert_since lock holds plain = record {
      place = place_since setup at old mid locked (lock ∷ []) holds body new start placed p same;
      writable = value_inserted body (p.reserved).value (p.reserved).logged (p.reserved).of_body
          plain;
    }

    pub switch_since : old.working ≡ record { locks = every_lock; flight = Landed }
        → is_assembled_switch body ≡ true → end_form setup at % setup.seg_size ≢ 0
        → IsSwitchReserved setup body old new start placed
    unfolding place_since
    switch_since holds switches inside = record {
      place = place_since setup at old mid locked every_lock holds body new start placed p same;
      switches = value_switch body (p.reserved).value (p.reserved).logged (p.reserved).of_body
          switches;
      inside = subst (λ (n : ℕ). end_form setup n % setup.seg_size ≢ 0) (sym same) inside;
    }

-- ---- what the view with the position locked has for a reservation

module _ (setup : Setup) (at : ℕ) (old mid : View) (locked : IsPositionLocked setup at old mid)
  where
    pub locked_here : (own : Setup) → own ≡ setup → (size behind start : ℕ)
        → size ≡ own.seg_size → behind ≡ end_address_of size at
        → start ≡ address_of size at → IsLockedAt own size at behind start mid
    locked_here own same size behind start is behind_is start_is =
        let seen : (mid.reserving).seen ≡ at =
        ap (λ (v : View). (v.reserving).seen) locked.new_is in
        record {
          geometry = is;
          place = ap (λ (v : View). (v.reserving).place) locked.new_is;
          behind_is = behind_is;
          start_is = start_is;
          seen = omega (arith, seen);
          within = subst (λ (s : Setup). at ≤ log_limit s) (sym same) locked.within;
          whole = locked.whole;
        }

    pub holds_since : (locks : List ℕ)
        → old.working ≡ record { locks = locks; flight = Landed } → (body : Assembled)
        → 1 ≤ length locks
        → (is_assembled_switch body ≡ true → (lock : ℕ) → lock < 8 → Contains locks lock)
        → HoldsLocksFor body mid
    holds_since locks holds body some all =
        let now : mid.working ≡ record { locks = locks; flight = Landed } =
        ap (λ (v : View). v.working) locked.new_is ∙ holds in
        record {
          some = subst (λ (w : Working). 1 ≤ length w.locks) (sym now) some;
          all = subst (λ (w : Working). is_assembled_switch body ≡ true → (lock : ℕ) → lock < 8
              → Contains w.locks lock) (sym now) all;
          landed = ap (λ (w : Working). w.flight) now;
        }
