-- The reserved order through each kind of step, as the machine tells what it does.
use Rattle.std.proofs.Common.{◌≡◌, ◌≢◌, ℕ, ◌+◌, ◌≤◌, Bool, true, cond, eq-eqb, ne_eqb, List, [], ◌∷◌, ◌++◌, ◌<◌, set, refl, sym, subst, arith}
use mathlib.Core.Logic.{dite}
use mathlib.Core.Option.{Option, none}
use native.Mathlib.Decide.{ℕ_discrete}
use Rattle.atomic_table.proofs.Lists.{set_again}
use Rattle.wal_types.specs.declared.record.Record.{Record}
use Rattle.byte_position.proofs.EndAddresses.{position_of-end_address_of}
use Rattle.byte_position.proofs.Rising.{position_of-mono}
use Rattle.wal_page.specs.Order.{Entry}
use Rattle.machine_state.specs.Words.{end_form, order_end}
use Rattle.machine_state.specs.Views.{HasAt, Place, Free, Locked, LogFull, AtSegmentStart, Plain, Reserving, View}
use Rattle.machine_state.specs.Ordered.{OrderHolds}
use Rattle.machine_state.specs.Moves.{with_place, entry_reserved, after_split, split_off, after_join, spent, without_work, orphan_of}
use Rattle.machine_state.specs.Steps.{MayStep, place_at, load_position, load_flushed, store_position, value_behind, view_behind, lock_position, load_prev, store_prev, give_position_back, stay}
use Rattle.machine_laws.specs.OrderParts.{TakesPart, HoldsWith}
use Rattle.machine_laws.proofs.OrderSteps.{unlocked-is, sees, locks, loads_prev, stores_prev, gives_back, reserves, gives_up}
use Rattle.machine_laws.proofs.OrderPassSteps.{splits, joins}

module _ (order : List Entry) (position prev : ℕ) (parts : List Reserving) (id : ℕ) (v : View) where
  -- where the view stays as it is
  still : TakesPart order position prev parts id v → HoldsWith order position prev parts id v v
  still t = subst (λ (rs : List Reserving). OrderHolds v.opening order position prev rs)
      (sym (set_again parts id v.reserving t.here)) t.holds

  -- the view, and what it does, where its place is told
  abbrev AtPlaceOf : (View → ℕ) → (View → ℕ) → (View → View) → Place → Type 0
  AtPlaceOf position' prev' behind p = HoldsWith order (position' (with_place p v))
      (prev' (with_place p v)) parts id v (behind (with_place p v))

  pub lock_position_keeps : (home : Option Plain) (expected : ℕ)
      → TakesPart order position prev parts id v → MayStep v (lock_position expected)
      → HoldsWith order (value_behind v (lock_position expected) position) prev parts id v
      (view_behind v (lock_position expected) position home)
  lock_position_keeps home expected t may = dite (ℕ_discrete position expected)
      (λ hit. subst Behind (sym (eq-eqb position expected hit))
      (locks v.opening order position prev parts t.holds id v.reserving t.here t.live t.size
      expected hit may.1))
      (λ miss. subst Behind (sym (ne_eqb position expected miss)) (still t))
    where
      Behind : Bool → Type 0
      Behind b = HoldsWith order (cond b (expected + 1) position) prev parts id v
          (cond b (with_place (Locked expected) v) v)

  pub load_prev_keeps : (home : Option Plain) → TakesPart order position prev parts id v
      → MayStep v load_prev
      → HoldsWith order position prev parts id v (view_behind v load_prev prev home)
  load_prev_keeps home t may = subst
      (AtPlaceOf (λ _. position) (λ _. prev) (λ (w : View). view_behind w load_prev prev home))
      (sym may.1)
      (loads_prev v.opening order position prev parts t.holds id v.reserving t.here t.live
      may.0 may.1)

  pub store_prev_keeps : (home : Option Plain) → TakesPart order position prev parts id v
      → MayStep v store_prev
      → HoldsWith order position (value_behind v store_prev prev) parts id v
      (view_behind v store_prev prev home)
  store_prev_keeps home t may = subst
      (AtPlaceOf (λ _. position) (λ (w : View). value_behind w store_prev prev)
      (λ (w : View). view_behind w store_prev prev home))
      (sym may.2)
      (stores_prev v.opening order position prev parts t.holds id v.reserving t.here t.live
      may.0 may.1 may.2)

  pub give_position_back_keeps : (home : Option Plain) (value : Record)
      → TakesPart order position prev parts id v → MayStep v (give_position_back value)
      → HoldsWith order (value_behind v (give_position_back value) position) prev parts id v
      (view_behind v (give_position_back value) position home)
  give_position_back_keeps home value t may = subst
      (AtPlaceOf (λ (w : View). value_behind w (give_position_back value) position) (λ _. prev)
      (λ (w : View). view_behind w (give_position_back value) position home))
      (sym may.1)
      (gives_back v.opening order position prev parts t.holds id v.reserving t.here t.live
      LogFull may.0 may.1 (λ is. absurd (cc)))

  pub stay_keeps : (home : Option Plain) → TakesPart order position prev parts id v
      → MayStep v stay
      → HoldsWith order (value_behind v stay position) prev parts id v
      (view_behind v stay position home)
  stay_keeps home t may = subst
      (AtPlaceOf (λ (w : View). value_behind w stay position) (λ _. prev)
      (λ (w : View). view_behind w stay position home))
      (sym may.1)
      (gives_back v.opening order position prev parts t.holds id v.reserving t.here t.live
      AtSegmentStart may.0 may.1 (λ is. may.2))

  -- ---- what is seen

  pub load_position_keeps : (home : Option Plain)
      → TakesPart order position prev parts id v
      → HoldsWith order position prev parts id v
      (view_behind v load_position position home)
  load_position_keeps home t = sees v.opening order position prev parts t.holds id
      v.reserving t.here t.live _
      (omega (arith, unlocked-is v.opening order position prev parts t.holds t.size))

  pub load_flushed_keeps : (home : Option Plain) (met : ℕ)
      → TakesPart order position prev parts id v
      → met ≤ end_form (v.opening).setup (order_end v.opening order)
      → HoldsWith order position prev parts id v (view_behind v load_flushed met home)
  load_flushed_keeps home met t low =
      let size : ℕ = ((v.opening).setup).seg_size in
      sees v.opening order position prev parts t.holds id v.reserving t.here t.live _
      (omega (
        arith,
        position_of-mono size met
            (end_form (v.opening).setup (order_end v.opening order)) low,
        position_of-end_address_of size t.size (order_end v.opening order),
      ))

  -- ---- an entry is reserved

  abbrev AddedAt : List ℕ → Record → Place → Type 0
  AddedAt locks value p = HoldsWith
      (order ++ entry_reserved (v.reserving).number (place_at v p) value ∷ [])
      (value_behind (with_place p v) (store_position locks value) position) prev parts id v
      (view_behind (with_place p v) (store_position locks value) position none)

  pub store_position_keeps : (home : Option Plain) (locks : List ℕ) (value : Record)
      → TakesPart order position prev parts id v → MayStep v (store_position locks value)
      → HoldsWith
      (order ++ entry_reserved (v.reserving).number (place_at v (v.reserving).place) value ∷ [])
      (value_behind v (store_position locks value) position) prev parts id v
      (view_behind v (store_position locks value) position home)
  store_position_keeps home locks value t may = subst (AddedAt locks value) (sym may.2)
      (reserves v.opening order position prev parts t.holds id v.reserving t.here t.live
      value may.0 may.1 may.2 (may.3).logged may.4)

  -- ---- passes

  pub split_keeps : TakesPart order position prev parts id v
      → (v.reserving).spare < (v.reserving).spare_end
      → OrderHolds v.opening order position prev
      (set parts id (after_split v).reserving ++ (split_off v).reserving ∷ [])
  split_keeps t some_left = splits v.opening order position prev parts t.holds id
      v.reserving t.here t.live some_left

  pub join_keeps : (other : ℕ) (w : View) → TakesPart order position prev parts id v
      → HasAt parts other w.reserving → (w.reserving).live ≡ true → id ≢ other
      → (w.reserving).place ≡ Free
      → OrderHolds v.opening order position prev
      (set (set parts other (spent w).reserving) id (after_join v w).reserving)
  join_keeps other w t there alive apart rests = joins v.opening order position prev parts
      t.holds id v.reserving t.here t.live other w.reserving there alive apart rests
      (w.writing).promises (w.writing).down_set (spent w).reserving refl

  pub give_up_keeps : TakesPart order position prev parts id v
      → OrderHolds v.opening order position prev
      (set parts id (without_work v).reserving ++ (orphan_of v).reserving ∷ [])
  give_up_keeps t = gives_up v.opening order position prev parts t.holds id v.reserving
      t.here t.live (orphan_of v).reserving refl
