-- No step takes a number from its pass, a split shares them out, and a join puts them together.
use Rattle.std.specs.Prelude.{if◌then◌else◌}
use Rattle.std.proofs.Common.{◌≡◌, ◌⊎◌, inl, inr, ⊎_elim, ℕ, zero, suc, ◌<◌, ◌≤◌, Bool, true, false, ◌==◌, nat_lt, Contains, List, [], ◌∷◌, refl, sym, ◌∙◌, subst, arith}
use Rattle.std.proofs.lemmas.List.Elements.{Contains-append_left, Contains-append_right}
use Rattle.std.proofs.lemmas.Bool.{lt-ltb, ltb-true}
use mathlib.Core.Logic.{dite}
use mathlib.Core.Option.{Option, none, some}
use native.Mathlib.Decide.{ℕ_discrete}
use Rattle.wal_types.specs.declared.record.Record.{Record}
use Rattle.machine_state.specs.Words.{Opening}
use Rattle.machine_state.specs.Views.{Place, Free, Locked, Loaded, Stored, Joined, Hold, Idle, Turned, Out, Plain, Reserving, View}
use Rattle.machine_state.specs.Ordered.{TookIn}
use Rattle.machine_state.specs.Moves.{after_join, after_split, joined_of, split_off}
use Rattle.machine_state.specs.Opened.{first_view}
use Rattle.machine_state.specs.Steps.{StepKind, view_behind, with_call_on, with_slot, load_position, take_write_turn, slot_out, slot_in, release_write_turn, lock_position, load_prev, store_prev, store_position, give_position_back, stay, load_lock, take_lock, advance, release, load_buffer_end, store_ring_word, load_ring_word, load_written, load_flushed, load_moment, load_down, store_written, store_moment, store_flushed, set_down, load_async, raise_async, take_mapping_turn, load_initialised_end, clear_end, zero_ring_word, publish_end, publish_initialised_end, release_mapping_turn, create, write, sync}
use Rattle.machine_laws.specs.SharedOrders.{HasNumber, IsSpare}
use Rattle.machine_laws.specs.ClosedLogs.{HasAllNumbers}

-- ---- steps

-- a pass's number, its spare ones, and the passes that it took in
abbrev numbers_of : View → ℕ × ℕ × ℕ × List Joined
numbers_of v =
    ((v.reserving).number, (v.reserving).spare, (v.reserving).spare_end, (v.reserving).joined)

abbrev HasAmong : ℕ → ℕ × ℕ × ℕ × List Joined → Type 0
HasAmong n t = (n ≡ t.0) ⊎ ((t.1 ≤ n) × (n < t.2))
    ⊎ ((j : Joined) × Contains t.3 j × (j.number ≡ n))

abbrev Stays : View → View → Type 0
Stays v w = numbers_of v ≡ numbers_of w

either_stays : (v w : View) (b : Bool) → Stays v w → Stays v (if b then w else v)
either_stays v w true is = is
either_stays v w false is = refl

abbrev at_place : Place → View → View
at_place place v = record v { reserving = record v.reserving { place = place } }

placed_load_prev : (v : View) (p : Place) (met : ℕ) (home : Option Plain)
    → Stays (at_place p v) (view_behind (at_place p v) load_prev met home)
placed_load_prev v Free met home = refl
placed_load_prev v (Locked at) met home = refl
placed_load_prev v (Loaded at prev) met home = refl
placed_load_prev v (Stored at prev) met home = refl

placed_store_prev : (v : View) (p : Place) (met : ℕ) (home : Option Plain)
    → Stays (at_place p v) (view_behind (at_place p v) store_prev met home)
placed_store_prev v Free met home = refl
placed_store_prev v (Locked at) met home = refl
placed_store_prev v (Loaded at prev) met home = refl
placed_store_prev v (Stored at prev) met home = refl

placed_store_position : (v : View) (locks : List ℕ) (value : Record) (p : Place) (met : ℕ)
    (home : Option Plain) → Stays (at_place p v) (view_behind (at_place p v) (store_position locks value) met home)
placed_store_position v locks value Free met home = refl
placed_store_position v locks value (Locked at) met home = refl
placed_store_position v locks value (Loaded at prev) met home = refl
placed_store_position v locks value (Stored at prev) met home = refl

placed_give_position_back : (v : View) (value : Record) (p : Place) (met : ℕ) (home : Option Plain)
    → Stays (at_place p v) (view_behind (at_place p v) (give_position_back value) met home)
placed_give_position_back v value Free met home = refl
placed_give_position_back v value (Locked at) met home = refl
placed_give_position_back v value (Loaded at prev) met home = refl
placed_give_position_back v value (Stored at prev) met home = refl

placed_stay : (v : View) (p : Place) (met : ℕ) (home : Option Plain)
    → Stays (at_place p v) (view_behind (at_place p v) stay met home)
placed_stay v Free met home = refl
placed_stay v (Locked at) met home = refl
placed_stay v (Loaded at prev) met home = refl
placed_stay v (Stored at prev) met home = refl

taken_out : (v : View) (home : Option Plain) → Stays v (with_slot v home)
taken_out v none = refl
taken_out v (some writer) = refl

called : (v : View) (f : Plain → Plain) (h : Hold) → Stays v (with_call_on v f h)
called v f Idle = refl
called v f Turned = refl
called v f (Out l) = refl

stays : (v : View) (e : StepKind) (met : ℕ) (home : Option Plain)
    → Stays v (view_behind v e met home)
stays v load_position met home = refl
stays v take_write_turn met home = either_stays v _ (met == 0) refl
stays v slot_out met home = taken_out v home
stays v slot_in met home = refl
stays v release_write_turn met home = refl
stays v (lock_position expected) met home = either_stays v _ (met == expected) refl
stays v load_prev met home = placed_load_prev v (v.reserving).place met home
stays v store_prev met home = placed_store_prev v (v.reserving).place met home
stays v (store_position locks value) met home =
    placed_store_position v locks value (v.reserving).place met home
stays v (give_position_back value) met home =
    placed_give_position_back v value (v.reserving).place met home
stays v stay met home = placed_stay v (v.reserving).place met home
stays v (load_lock lock limit) met home = refl
stays v (take_lock lock) met home = either_stays v _ (met == 0) refl
stays v (advance lock upto) met home = refl
stays v (release lock) met home = refl
stays v (load_buffer_end buffer) met home = refl
stays v store_ring_word met home = refl
stays v (load_ring_word k) met home = refl
stays v load_written met home = refl
stays v load_flushed met home = refl
stays v load_moment met home = refl
stays v load_down met home = refl
stays v store_written met home = refl
stays v store_moment met home = refl
stays v store_flushed met home = refl
stays v set_down met home = refl
stays v load_async met home = refl
stays v (raise_async expected upto) met home = refl
stays v take_mapping_turn met home = either_stays v _ (met == 0) refl
stays v load_initialised_end met home = refl
stays v clear_end met home = refl
stays v zero_ring_word met home = refl
stays v publish_end met home = refl
stays v publish_initialised_end met home = refl
stays v release_mapping_turn met home = refl
stays v (create segment outcome) met home = called v _ (v.writing).hold
stays v (write segment page upto bytes outcome) met home =
    called v _ (v.writing).hold
stays v (sync segment outcome) met home = called v _ (v.writing).hold

pub steps_keep_numbers : (n : ℕ) (v : View) (e : StepKind) (met : ℕ) (home : Option Plain)
    → HasNumber n v.reserving → HasNumber n (view_behind v e met home).reserving
steps_keep_numbers n v e met home has = subst (HasAmong n) (stays v e met home) has

-- ---- a split

pub splits_share_numbers : (n : ℕ) (v : View) → HasNumber n v.reserving
    → HasNumber n (after_split v).reserving ⊎ HasNumber n (split_off v).reserving
splits_share_numbers n v has = ⊎_elim (λ own. inl (inl own))
    (λ other. ⊎_elim
    (λ (t : IsSpare n v.reserving). dite (ℕ_discrete n (v.reserving).spare)
    (λ first. inr (inl first))
    (λ later. inl (inr (inl (omega (arith, t.0, later), t.1)))))
    (λ (t : TookIn n v.reserving). inl (inr (inr t)))
    other)
    has

-- ---- a join

apart_bools : true ≡ false → ⊥
apart_bools e = absurd (cc)

-- the spare numbers of both are those of the one that has some
spare_of : (n : ℕ) (r s : Reserving) (b : Bool) → nat_lt r.spare r.spare_end ≡ b
    → ((i j : ℕ) → IsSpare i r → IsSpare j s → ⊥) → IsSpare n r ⊎ IsSpare n s
    → ((if b then r.spare else s.spare) ≤ n) × (n < (if b then r.spare_end else s.spare_end))
spare_of n r s true is apart has = ⊎_elim (λ t. t)
    (λ t. absurd (apart r.spare n (omega arith, ltb-true r.spare r.spare_end is) t)) has
spare_of n r s false is apart has = ⊎_elim
    (λ t. absurd (let low = t.0 in let high = t.1 in
    apart_bools (sym (lt-ltb r.spare r.spare_end (omega arith)) ∙ is)))
    (λ t. t) has

pub joins_unite_numbers : (n : ℕ) (v w : View)
    → ((i j : ℕ) → IsSpare i v.reserving → IsSpare j w.reserving → ⊥)
    → HasNumber n v.reserving ⊎ HasNumber n w.reserving
    → HasNumber n (after_join v w).reserving
joins_unite_numbers n v w apart has = ⊎_elim of_first of_second has
  where
    r : Reserving
    r = v.reserving

    s : Reserving
    s = w.reserving

    to_give : IsSpare n r ⊎ IsSpare n s → HasNumber n (after_join v w).reserving
    to_give t = inr (inl (spare_of n r s (nat_lt r.spare r.spare_end) refl apart t))

    of_first : HasNumber n r → HasNumber n (after_join v w).reserving
    of_first h = ⊎_elim (λ own. inl own)
        (λ other. ⊎_elim (λ (t : IsSpare n r). to_give (inl t))
        (λ (t : TookIn n r). inr (inr (
          t.0,
          Contains-append_left r.joined (joined_of w ∷ s.joined) t.0 t.1,
          t.2,
        )))
        other)
        h

    of_second : HasNumber n s → HasNumber n (after_join v w).reserving
    of_second h = ⊎_elim
        (λ own. inr (inr (
          joined_of w,
          Contains-append_right r.joined (joined_of w ∷ s.joined) (joined_of w)
              (0, omega arith, refl),
          sym own,
        )))
        (λ other. ⊎_elim (λ (t : IsSpare n s). to_give (inr t))
        (λ (t : TookIn n s). inr (inr (
          t.0,
          Contains-append_right r.joined (joined_of w ∷ s.joined) t.0
              (Contains-append_right (joined_of w ∷ []) s.joined t.0 t.1),
          t.2,
        )))
        other)
        h

-- ---- the first pass

pub first_has_all : (opening : Opening)
    → HasAllNumbers (opening.setup).passes (first_view opening).reserving
first_has_all opening zero low = inl refl
first_has_all opening (suc n) low = inr (inl (omega arith, low))
