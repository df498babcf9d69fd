-- Every sound state shows the reserved order as the users of it know it.
use Rattle.std.proofs.Common.{◌≡◌, ◌≢◌, ◌⊎◌, inl, inr, ⊎_elim, ℕ, ◌%◌, cond, Bool, true, false, All, Contains, List, [], ◌∷◌, map, Some, IsSome, refl, sym, ap, ◌∙◌, subst, arith}
use Rattle.std.proofs.lemmas.Bool.{cases_lt}
use Rattle.std.proofs.lemmas.List.Elements.{All-contains, All-weaker, Contains-append_cases, Contains-append_right, Contains-push_cases}
use mathlib.Core.Option.{Option}
use Rattle.wal_page.specs.Order.{Entry}
use Rattle.machine_state.specs.Words.{Opening, position_word, prev_word, order_end, last_start}
use Rattle.machine_state.specs.Views.{HasAt, Place, Free, Locked, Loaded, Stored, Joined, Plain, Reserving, View, reserving_of}
use Rattle.machine_state.specs.Ordered.{is_pass, entries_under, Role, active, spare, ended, unborn, IsUnused, IsEnded, IsPartOf, HasLive, TookIn, FrontEndsAt, AtPlace, OrderHolds}
use Rattle.machine_state.specs.Sound.{IsSound}
use Rattle.machine_state.proofs.Lists.{part_at, view_from}
use Rattle.machine_laws.specs.SharedOrders.{IsSpare, HasNumber, TellsLastStart, HasItsPart, OrderIsShared, SomeLive}
use Rattle.machine_laws.proofs.OrderedEntries.{is_pass_own}
use Rattle.machine_laws.proofs.OrderSteps.{end_even, unlocked-is}
use Rattle.machine_laws.proofs.OrderUnique.{named}
use Rattle.segment_disk.specs.Tape.{DiskState}

-- the view that a role names
abbrev Names : ℕ → Role → Type 0
Names id (active j) = j ≡ id
Names id (spare j) = j ≡ id
Names id (ended j) = j ≡ id
Names id unborn = ⊥

names_one : (id j : ℕ) (q : Role) → Names id q → Names j q → id ≡ j
names_one id j (active i) h g = sym h ∙ g
names_one id j (spare i) h g = sym h ∙ g
names_one id j (ended i) h g = sym h ∙ g
names_one id j unborn h g = absurd h

-- an entry of a pass is among the pass's entries of the order
among : (n : ℕ) (e : Entry) → e.pass ≡ Some n → (es : List Entry) → Contains es e
    → Contains (entries_under n es) e
among n e is [] has = absurd (let none = has.1 in omega (arith, none))
among n e is (x ∷ xs) has = ⊎_elim
    (λ (one : Contains (x ∷ []) e). ⊎_elim
    (λ (none : Contains [] e). absurd (let low = none.1 in omega (arith, low)))
    (λ (same : x ≡ e). kept (ap (λ (y : Entry). is_pass n y.pass) same ∙ ap (is_pass n) is
    ∙ is_pass_own n) same)
    (Contains-push_cases [] x e one))
    (λ (rest : Contains xs e). further (is_pass n x.pass) (among n e is xs rest))
    (Contains-append_cases (x ∷ []) xs e has)
  where
    further : (b : Bool) → Contains (entries_under n xs) e
        → Contains (cond b (x ∷ entries_under n xs) (entries_under n xs)) e
    further true t = Contains-append_right (x ∷ []) (entries_under n xs) e t
    further false t = t

    kept : is_pass n x.pass ≡ true → x ≡ e
        → Contains (cond (is_pass n x.pass) (x ∷ entries_under n xs) (entries_under n xs)) e
    kept own same = subst
        (λ (b : Bool). Contains (cond b (x ∷ entries_under n xs) (entries_under n xs)) e) (sym own)
        (0, omega arith, same)

-- a view that has the position locked: its bit is set, the holder is this view, and it tells how
-- the word of the last start stands
module _ (opening : Opening) (order : List Entry) (prev locked holder id : ℕ) where
  abbrev IsAt : Place → Type 0
  IsAt p = AtPlace opening.setup.seg_size (order_end opening order) (last_start opening order)
      prev locked holder id p

  bit_set : (p : Place) → p ≢ Free → IsAt p → locked ≡ 1
  bit_set Free some t = absurd (some refl)
  bit_set (Locked at) some t = t.0
  bit_set (Loaded at met) some t = t.0
  bit_set (Stored at met) some t = t.0

  is_holder : (p : Place) → p ≢ Free → IsAt p → holder ≡ id
  is_holder Free some t = absurd (some refl)
  is_holder (Locked at) some t = t.1
  is_holder (Loaded at met) some t = t.1
  is_holder (Stored at met) some t = t.1

  tells_start : (p : Place) → p ≢ Free → IsAt p → TellsLastStart opening order prev p
  tells_start Free some t = some refl
  tells_start (Locked at) some t = (t.2, t.3)
  tells_start (Loaded at met) some t = (t.2, t.3, t.4)
  tells_start (Stored at met) some t = (t.2, t.3, t.4)

module _ {first : DiskState} (opening : Opening) (words : List ℕ) (home : Option Plain) (views : List View)
    (s : IsSound first opening words home views) where
  k : OrderHolds opening s.order (position_word words) (prev_word words)
      (map reserving_of views)
  k = s.reserved

  -- ---- one live view

  module _ (id : ℕ) (v : View) (here : HasAt views id v) (live : (v.reserving).live ≡ true) where
    part : IsPartOf opening s.order k.role id v.reserving
    part = k.views id v.reserving (part_at reserving_of views id v here) live

    taken_role : (n : ℕ) → TookIn n v.reserving → k.role n ≡ ended id
    taken_role n t =
        let e = All-contains (IsEnded opening s.order k.role id)
        (v.reserving).joined t.0 part.joined t.1 in
        ap k.role (sym t.2) ∙ e.role_is

    spare_role : (n : ℕ) → IsSpare n v.reserving → k.role n ≡ spare id
    spare_role n t = part.spares n t.0 t.1

    names : (n : ℕ) → HasNumber n v.reserving → Names id (k.role n)
    names n h = ⊎_elim
        (λ (own : n ≡ (v.reserving).number).
        subst (Names id) (sym (ap k.role own ∙ part.own)) refl)
        (λ (other : IsSpare n v.reserving ⊎ TookIn n v.reserving). ⊎_elim
        (λ (t : IsSpare n v.reserving). subst (Names id) (sym (spare_role n t)) refl)
        (λ (t : TookIn n v.reserving). subst (Names id) (sym (taken_role n t)) refl) other) h

    has_its_part : HasItsPart opening s.order words views v.reserving
    has_its_part = record {
      below = λ n h. elim (cases_lt n (opening.setup).passes) [
        | inl low ↦ low
        | inr high ↦ absurd (subst (Names id) (k.beyond n high) (names n h))
      ];
      numbers = record {
        own_to_give = λ t. cc (part.own, spare_role (v.reserving).number t);
        own_taken_in = λ t. cc (part.own, taken_role (v.reserving).number t);
        taken_in_to_give = λ n t u. cc (spare_role n t, taken_role n u);
        taken_in = part.apart;
      };
      seen = part.seen;
      entries = part.entries_are;
      joined = All-weaker (IsEnded opening s.order k.role id)
          (λ j. j.entries ≡ entries_under j.number s.order) (λ j h. h.entries_are)
          (v.reserving).joined part.joined;
      stops = part.stops;
      joined_stops = All-weaker (IsEnded opening s.order k.role id)
          (λ j. All (FrontEndsAt opening j.number s.order j.entries) j.stops)
          (λ j h. h.stops) (v.reserving).joined part.joined;
    }

  -- ---- whose an entry is

  -- what a live part is, a live view is
  some_live : (id : ℕ) (P : Reserving → Type 0) → HasLive (map reserving_of views) id P
      → SomeLive opening s.order words views P
  some_live id P h =
      let v = view_from reserving_of views id h.0 h.1 in (
        id,
        v.0,
        v.1,
        subst (λ (r : Reserving). r.live ≡ true) (sym v.2) h.2,
        subst P (sym v.2) h.3,
      )

  module _ (e : Entry) (n : ℕ) (is : e.pass ≡ Some n) (has : Contains s.order e) where
    mine : Contains (entries_under n s.order) e
    mine = among n e is s.order has

    abbrev IsOfSome : Type 0
    IsOfSome = SomeLive opening s.order words views (λ r. Contains r.entries e)
        ⊎ SomeLive opening s.order words views
        (λ r. (j : Joined) × Contains r.joined j × Contains j.entries e)

    of_active : (id : ℕ) → k.role n ≡ active id
        → HasLive (map reserving_of views) id (λ r. Contains r.entries e)
    of_active id was =
        let h = k.goes_by n id was in
        let p = k.views id h.0 h.1 h.2 in
        let are : entries_under n s.order ≡ (h.0).entries =
        ap (λ (m : ℕ). entries_under m s.order) (sym h.3) ∙ sym p.entries_are in
        (h.0, h.1, h.2, subst (λ (es : List Entry). Contains es e) are mine)

    of_ended : (id : ℕ) → k.role n ≡ ended id → HasLive (map reserving_of views) id
        (λ r. (j : Joined) × Contains r.joined j × Contains j.entries e)
    of_ended id was =
        let h = k.took_in n id was in
        let p = k.views id h.0 h.1 h.2 in
        let t = h.3 in
        let x = All-contains (IsEnded opening s.order k.role id) (h.0).joined t.0
        p.joined t.1 in
        let are : entries_under n s.order ≡ (t.0).entries =
        ap (λ (m : ℕ). entries_under m s.order) (sym t.2) ∙ sym x.entries_are in
        (h.0, h.1, h.2, (t.0, t.1, subst (λ (es : List Entry). Contains es e) are mine))

    of_nobody : IsUnused (k.role n) → IsOfSome
    of_nobody unused = absurd (let none =
        subst (λ (es : List Entry). Contains es e) (k.unused n unused) mine in
        let low = none.1 in omega (arith, low))

    of_role : (q : Role) → k.role n ≡ q → IsOfSome
    of_role (active id) was =
        inl (some_live id (λ r. Contains r.entries e) (of_active id was))
    of_role (spare id) was =
        of_nobody (subst (λ (q : Role). IsUnused q) (sym was) tt)
    of_role (ended id) was = inr (some_live id
        (λ r. (j : Joined) × Contains r.joined j × Contains j.entries e) (of_ended id was))
    of_role unborn was = of_nobody (subst (λ (q : Role). IsUnused q) (sym was) tt)

  entry_is_of : (e : Entry) → Contains s.order e
      → SomeLive opening s.order words views (λ r. Contains r.entries e)
      ⊎ SomeLive opening s.order words views
      (λ r. (j : Joined) × Contains r.joined j × Contains j.entries e)
  entry_is_of e has =
      let n = named e.pass (All-contains (λ (x : Entry). IsSome x.pass) s.order e k.owned has) in
      of_role e n.0 n.1 has (k.role n.0) refl

  -- ---- where the order ends

  even : order_end opening s.order % 8 ≡ 0
  even = end_even opening s.order (position_word words) (prev_word words)
      (map reserving_of views) k (s.setup_is).size

  at_place : (id : ℕ) (v : View) → HasAt views id v → (v.reserving).live ≡ true
      → IsAt opening s.order (prev_word words) k.locked k.holder id (v.reserving).place
  at_place id v here live = k.places id v.reserving (part_at reserving_of views id v here) live

  tells : (id : ℕ) (v : View) → HasAt views id v → (v.reserving).live ≡ true
      → (v.reserving).place ≢ Free → (position_word words % 2 ≡ 1)
      × TellsLastStart opening s.order (prev_word words) (v.reserving).place
  tells id v here live some =
      let t = at_place id v here live in
      let set_is : k.locked ≡ 1 = bit_set opening s.order (prev_word words) k.locked k.holder id
      (v.reserving).place some t in (
        omega (arith, set_is, even, k.position_is),
        tells_start opening s.order (prev_word words) k.locked k.holder id (v.reserving).place
            some t,
      )

  holds : (id : ℕ) (v : View) → HasAt views id v → (v.reserving).live ≡ true
      → (v.reserving).place ≢ Free → k.holder ≡ id
  holds id v here live some = is_holder opening s.order (prev_word words) k.locked k.holder id
      (v.reserving).place some (at_place id v here live)

  pub shared : OrderIsShared opening s.order words views
  shared = record {
    each = has_its_part;
    one_owner = λ id other v w n here live there alive h g. names_one id other (k.role n)
        (names id v here live n h) (names other w there alive n g);
    chained = k.chained;
    owned = k.owned;
    end = sym (unlocked-is opening s.order (position_word words)
        (prev_word words) (map reserving_of views) k (s.setup_is).size);
    within = k.within;
    last = λ free. k.at_rest (omega (arith, free, even, k.position_is, k.one_bit));
    locked = λ odd. some_live k.holder (λ r. r.place ≢ Free)
        (k.held (omega (arith, odd, even, k.position_is, k.one_bit)));
    tells = tells;
    one_holder = λ id other v w here live there alive some too.
        sym (holds id v here live some) ∙ holds other w there alive too;
    no_other = entry_is_of;
  }
