-- The reserved order where a pass is split off, and where one is taken in.
use Rattle.std.proofs.Common.{◌≡◌, ◌≢◌, ◌⊎◌, inl, inr, ⊎_elim, ℕ, suc, ◌+◌, ◌<◌, ◌≤◌, max, Bool, true, false, cond, eqb, eq-eqb, ne_eqb, ltb-false, ltb-true, All, AllPairs, Contains, List, [], ◌∷◌, ◌++◌, length, set, true≢false, sym, refl, ap, ◌∙◌, subst, arith}
use Rattle.std.proofs.lemmas.List.Elements.{All-nil, All-cons, All-head, All-tail, All-append, All-weaker, Contains-append_left, Contains-append_right}
use Rattle.std.proofs.lemmas.List.Kept.{AllPairs-cons}
use mathlib.Core.Logic.{dite}
use native.Mathlib.Decide.{ℕ_discrete}
use Rattle.wal_page.specs.Order.{Entry}
use Rattle.machine_state.specs.Words.{Opening}
use Rattle.machine_state.specs.Views.{HasAt, Free, Joined, FlushPromise, Reserving}
use Rattle.machine_state.specs.Ordered.{entries_under, Role, active, spare, ended, unborn, IsUnused, FrontEndsAt, IsEnded, AreApart, HasLive, TookIn, OrderHolds}
use Rattle.machine_state.specs.Moves.{has_spares}
use Rattle.machine_state.proofs.Lists.{one_set, one_added, at_same, at_place, at_else, at_end}
use Rattle.machine_laws.proofs.OrderGoing.{GoesOn, StaysPlaced, placed_as, Each, each_set, each_added, each_goes_on, number_still, goes_by_still, took_in_still, held_still}
use Rattle.machine_laws.proofs.OrderSteps.{IsPlaced, placed}

-- a number gets another role
abbrev given : (ℕ → Role) → ℕ → Role → ℕ → Role
given role n r m = cond (eqb m n) r (role m)

given_same : (role : ℕ → Role) (n m : ℕ) (r : Role) → m ≡ n → given role n r m ≡ r
given_same role n m r e = ap (λ (b : Bool). cond b r (role m)) (eq-eqb m n e)

given_else : (role : ℕ → Role) (n m : ℕ) (r : Role) → m ≢ n → given role n r m ≡ role m
given_else role n m r e = ap (λ (b : Bool). cond b r (role m)) (ne_eqb m n e)

-- the numbers that one view may give away, and those of passes that it took in, go to another one
abbrev handed : ℕ → ℕ → Role → Role
handed from to (active j) = active j
handed from to (spare j) = cond (eqb j from) (spare to) (spare j)
handed from to (ended j) = cond (eqb j from) (ended to) (ended j)
handed from to unborn = unborn

handed_unused : (from to : ℕ) (r : Role) → IsUnused (handed from to r) → IsUnused r
handed_unused from to (active j) h = h
handed_unused from to (spare j) h = tt
handed_unused from to (ended j) h = not_either (eqb j from) h
  where
    not_either : (b : Bool) → IsUnused (cond b (ended to) (ended j)) → ⊥
    not_either true t = t
    not_either false t = t
handed_unused from to unborn h = h

handed_active : (from to j : ℕ) (r : Role) → handed from to r ≡ active j → r ≡ active j
handed_active from to j (active i) h = h
handed_active from to j (spare i) h = absurd (not_either (eqb i from) h)
  where
    not_either : (b : Bool) → cond b (spare to) (spare i) ≡ active j → ⊥
    not_either true t = cc
    not_either false t = cc
handed_active from to j (ended i) h = absurd (not_either (eqb i from) h)
  where
    not_either : (b : Bool) → cond b (ended to) (ended i) ≡ active j → ⊥
    not_either true t = cc
    not_either false t = cc
handed_active from to j unborn h = h

-- what is ended with a view then was so before, or with the one whose numbers it got
handed_ended : (from to j : ℕ) (r : Role) → handed from to r ≡ ended j
    → ((r ≡ ended j) × (j ≢ from)) ⊎ ((r ≡ ended from) × (j ≡ to))
handed_ended from to j (active i) h = absurd (cc)
handed_ended from to j (spare i) h = absurd (not_either (eqb i from) h)
  where
    not_either : (b : Bool) → cond b (spare to) (spare i) ≡ ended j → ⊥
    not_either true t = cc
    not_either false t = cc
handed_ended from to j (ended i) h = dite (ℕ_discrete i from)
    (λ e. let t : ended to ≡ ended j =
    sym (ap (λ (b : Bool). cond b (ended to) (ended i)) (eq-eqb i from e)) ∙ h in
    inr (ap ended e, cc))
    (λ apart. let t : ended i ≡ ended j =
    sym (ap (λ (b : Bool). cond b (ended to) (ended i)) (ne_eqb i from apart)) ∙ h in
    inl (t, λ e. apart (cc)))
handed_ended from to j unborn h = absurd (cc)

-- while what is ended with one view stays ended, or is so with another one
IsEnded-still : (opening : Opening) (order : List Entry) (role role' : ℕ → Role) (by by' : ℕ)
    → ((n : ℕ) → role n ≡ ended by → role' n ≡ ended by') → (js : List Joined)
    → All (IsEnded opening order role by) js → All (IsEnded opening order role' by') js
IsEnded-still opening order role role' by by' keep js h =
    All-weaker (IsEnded opening order role by) (IsEnded opening order role' by')
    (λ j t. record {
      role_is = keep j.number t.role_is;
      entries_are = t.entries_are;
      stops = t.stops;
    }) js h

-- numbers of passes that were taken in differ still, where those of other ones come to them
AllPairs-append : (R : Joined → Joined → Type 0) (xs ys : List Joined) → AllPairs R xs
    → AllPairs R ys → All (λ x. All (R x) ys) xs → AllPairs R (xs ++ ys)
AllPairs-append R [] ys p q cross = q
AllPairs-append R (x ∷ xs) ys p q cross = AllPairs-cons R x (xs ++ ys)
    (All-append (R x) xs ys (λ k d lt. p 0 (suc k) d (omega arith) (omega (arith, lt)))
    (All-head (λ y. All (R y) ys) x xs cross))
    (AllPairs-append R xs ys
    (λ i j d low high. p (suc i) (suc j) d (omega (arith, low)) (omega (arith, high)))
    q (All-tail (λ y. All (R y) ys) x xs cross))

module _ (opening : Opening) (order : List Entry) (position prev : ℕ) (parts : List Reserving)
    (k : OrderHolds opening order position prev parts)
    (id : ℕ) (r : Reserving) (here : HasAt parts id r) (live : r.live ≡ true) where
  abbrev PlacedWith : (ℕ → Role) → ℕ → ℕ → Reserving → Type 0
  PlacedWith role keeper j u = u.live ≡ true
      → IsPlaced opening order prev role k.locked k.holder keeper j u

  -- where words and order stay, and roles change
  with_roles : (role : ℕ → Role) (keeper : ℕ) (parts' : List Reserving)
      → ((n : ℕ) → IsUnused (role n) → entries_under n order ≡ [])
      → ((n : ℕ) → opening.setup.passes ≤ n → role n ≡ unborn)
      → ((j : ℕ) (u : Reserving) → HasAt parts' j u → PlacedWith role keeper j u)
      → ((n j : ℕ) → role n ≡ active j → HasLive parts' j (λ u. u.number ≡ n))
      → ((n j : ℕ) → role n ≡ ended j → HasLive parts' j (TookIn n))
      → (k.locked ≡ 1 → HasLive parts' k.holder (λ u. u.place ≢ Free))
      → OrderHolds opening order position prev parts'
  with_roles role keeper parts' unused beyond each goes_by took_in held = record {
    role = role;
    locked = k.locked;
    holder = k.holder;
    keeper = keeper;
    placed = k.placed;
    chained = k.chained;
    owned = k.owned;
    within = k.within;
    position_is = k.position_is;
    one_bit = k.one_bit;
    at_rest = k.at_rest;
    unused = unused;
    beyond = beyond;
    views = λ j u at alive. (each j u at alive).part;
    places = λ j u at alive. (each j u at alive).place;
    spares = λ j u at alive. (each j u at alive).spare;
    goes_by = goes_by;
    took_in = took_in;
    held = held;
  }

  mine : IsPlaced opening order prev k.role k.locked k.holder k.keeper id r
  mine = placed opening order position prev parts k id r here live

  -- ---- the least spare number becomes that of a new view

  module _ (some_left : r.spare < r.spare_end) where
    abbrev left : Reserving
    left = record r { spare = r.spare + 1 }

    abbrev right : Reserving
    right = record {
      live = true;
      number = r.spare;
      spare = 0;
      spare_end = 0;
      entries = [];
      stops = [];
      seen = r.seen;
      joined = [];
      place = Free;
    }

    abbrev new : ℕ
    new = length (set parts id left)

    abbrev split_role : ℕ → Role
    split_role = given k.role r.spare (active new)

    was : k.role r.spare ≡ spare id
    was = (mine.part).spares r.spare (omega arith) some_left

    keep : (m : ℕ) → m ≢ r.spare → split_role m ≡ k.role m
    keep m e = given_else k.role r.spare m (active new) e

    keep_ended : (m j : ℕ) → k.role m ≡ ended j → split_role m ≡ ended j
    keep_ended m j is = keep m (λ e. cc (ap k.role e, is, was)) ∙ is

    other_splits : (j : ℕ) (u : Reserving) → j ≢ id → HasAt parts j u
        → PlacedWith split_role k.keeper j u
    other_splits j u apart there alive =
        let t = placed opening order position prev parts k j u there alive in
        let p = t.part in
        record {
          part = record {
            own = keep u.number (λ e. cc (ap k.role e, p.own, was)) ∙ p.own;
            entries_are = p.entries_are;
            spares = λ m low high.
                keep m (λ e. apart (cc (ap k.role e, p.spares m low high, was)))
                ∙ p.spares m low high;
            seen = p.seen;
            stops = p.stops;
            joined = IsEnded-still opening order k.role split_role j j
                (λ m. keep_ended m j) u.joined
                p.joined;
            apart = p.apart;
          };
          place = t.place;
          spare = t.spare;
        }

    left_splits : PlacedWith split_role k.keeper id left
    left_splits alive = let p = mine.part in record {
      part = record {
        own = keep r.number (λ e. cc (ap k.role e, p.own, was)) ∙ p.own;
        entries_are = p.entries_are;
        spares = λ m low high. keep m (λ e. omega arith) ∙ p.spares m (omega arith) high;
        seen = p.seen;
        stops = p.stops;
        joined = IsEnded-still opening order k.role split_role id id
            (λ m. keep_ended m id) r.joined
            p.joined;
        apart = p.apart;
      };
      place = mine.place;
      spare = λ h. mine.spare (omega arith);
    }

    right_splits : PlacedWith split_role k.keeper new right
    right_splits alive = let p = mine.part in record {
      part = record {
        own = given_same k.role r.spare r.spare (active new) refl;
        entries_are = sym (k.unused r.spare (subst (λ (q : Role). IsUnused q) (sym was) tt));
        spares = λ m low high. absurd (omega arith);
        seen = p.seen;
        stops = All-nil (FrontEndsAt opening r.spare order []);
        joined = All-nil (IsEnded opening order split_role new);
        apart = λ i j d low high. absurd (omega (arith, high));
      };
      place = tt;
      spare = λ h. absurd (omega arith);
    }

    -- each view goes on
    on : Each StaysPlaced parts (set parts id left ++ right ∷ [])
    on = each_added StaysPlaced parts (set parts id left) right
        (each_set StaysPlaced placed_as parts id r left here (record {
          goes_on = record { live = λ alive. alive; number = refl; took = λ j has. has };
          placed = λ some. some;
        }))

    on_as : Each GoesOn parts (set parts id left ++ right ∷ [])
    on_as = each_goes_on parts (set parts id left ++ right ∷ []) on

    goes_by_split : (n j : ℕ) → split_role n ≡ active j
        → HasLive (set parts id left ++ right ∷ []) j (λ u. u.number ≡ n)
    goes_by_split n j is = dite (ℕ_discrete n r.spare)
        (λ e. let one : active new ≡ active j =
        sym (given_same k.role r.spare n (active new) e) ∙ is in
        let at : HasAt (set parts id left ++ right ∷ []) new right =
        at_end (set parts id left) right in
        let same : new ≡ j = cc in (
          right,
          subst (λ (i : ℕ). HasAt (set parts id left ++ right ∷ []) i right) same at,
          refl,
          sym e,
        ))
        (λ e. goes_by_still parts (set parts id left ++ right ∷ []) on_as n j
        (k.goes_by n j (sym (keep n e) ∙ is)))

    took_in_split : (n j : ℕ) → split_role n ≡ ended j
        → HasLive (set parts id left ++ right ∷ []) j (TookIn n)
    took_in_split n j is = dite (ℕ_discrete n r.spare)
        (λ e. absurd (let t : active new ≡ ended j =
        sym (given_same k.role r.spare n (active new) e) ∙ is in cc))
        (λ e. took_in_still parts (set parts id left ++ right ∷ []) on_as n j
        (k.took_in n j (sym (keep n e) ∙ is)))

    pub splits : OrderHolds opening order position prev (set parts id left ++ right ∷ [])
    splits = with_roles split_role k.keeper (set parts id left ++ right ∷ [])
        (λ m unused. dite (ℕ_discrete m r.spare)
        (λ e. k.unused m (subst (λ (q : Role). IsUnused q) (sym (ap k.role e ∙ was)) tt))
        (λ e. k.unused m (subst (λ (q : Role). IsUnused q) (keep m e) unused)))
        (λ m h. keep m (λ e. cc (k.beyond m h, ap k.role e, was)) ∙ k.beyond m h)
        (one_added (PlacedWith split_role k.keeper) (set parts id left) right
        (one_set (PlacedWith split_role k.keeper) parts id left other_splits left_splits)
        right_splits)
        goes_by_split took_in_split
        (λ is. held_still parts (set parts id left ++ right ∷ []) on k.holder (k.held is))

  -- ---- another pass is taken in, which has no place

  module _ (other : ℕ) (s : Reserving) (there_s : HasAt parts other s) (alive_s : s.live ≡ true)
      (apart_s : id ≢ other) (rests : s.place ≡ Free) (promises : List FlushPromise) (down_set : ℕ)
      (gone : Reserving) (dead : gone.live ≡ false) where
    abbrev log : Joined
    log = record {
      number = s.number;
      entries = s.entries;
      stops = s.stops;
      promises = promises;
      down_set = down_set;
    }

    abbrev both : Reserving
    both = record r {
      spare = cond (has_spares r) r.spare s.spare;
      spare_end = cond (has_spares r) r.spare_end s.spare_end;
      seen = max r.seen s.seen;
      joined = r.joined ++ log ∷ s.joined;
    }

    theirs : IsPlaced opening order prev k.role k.locked k.holder k.keeper other s
    theirs = placed opening order position prev parts k other s there_s alive_s

    abbrev join_role : ℕ → Role
    join_role = given (λ (m : ℕ). handed other id (k.role m)) s.number (ended id)

    -- the one of the two that has spare numbers
    abbrev join_keeper : ℕ
    join_keeper = cond (has_spares s) id k.keeper

    hold : (m : ℕ) → m ≢ s.number → join_role m ≡ handed other id (k.role m)
    hold m e = given_else (λ (m : ℕ). handed other id (k.role m)) s.number m (ended id) e

    -- a role that is not the other's number's becomes what it is handed
    hold_role : (m : ℕ) (q : Role) → k.role m ≡ q → q ≢ active other
        → join_role m ≡ handed other id q
    hold_role m q is apart =
        hold m (λ e. apart (sym is ∙ ap k.role e ∙ (theirs.part).own))
        ∙ ap (λ (p : Role). handed other id p) is

    hold_ended : (m j : ℕ) → k.role m ≡ ended j → j ≢ other → join_role m ≡ ended j
    hold_ended m j is apart = hold_role m (ended j) is (λ e. cc e)
        ∙ ap (λ (b : Bool). cond b (ended id) (ended j)) (ne_eqb j other apart)

    hand_ended : (m : ℕ) → k.role m ≡ ended other → join_role m ≡ ended id
    hand_ended m is = hold_role m (ended other) is (λ e. cc e)
        ∙ ap (λ (b : Bool). cond b (ended id) (ended other)) (eq-eqb other other refl)

    hold_spare : (m j : ℕ) → k.role m ≡ spare j → j ≢ other → join_role m ≡ spare j
    hold_spare m j is apart = hold_role m (spare j) is (λ e. cc e)
        ∙ ap (λ (b : Bool). cond b (spare id) (spare j)) (ne_eqb j other apart)

    hand_spare : (m : ℕ) → k.role m ≡ spare other → join_role m ≡ spare id
    hand_spare m is = hold_role m (spare other) is (λ e. cc e)
        ∙ ap (λ (b : Bool). cond b (spare id) (spare other)) (eq-eqb other other refl)

    hold_active : (m j : ℕ) → k.role m ≡ active j → j ≢ other → join_role m ≡ active j
    hold_active m j is apart = hold_role m (active j) is (λ e. apart (cc e))

    keeper_else : (j : ℕ) → j ≢ other → (b : Bool) → has_spares s ≡ b → j ≡ k.keeper
        → j ≡ cond b id k.keeper
    keeper_else j apart true is h = absurd (apart
        (h ∙ sym (theirs.spare (ltb-true s.spare s.spare_end is))))
    keeper_else j apart false is h = h

    other_joins : (j : ℕ) (u : Reserving) → j ≢ other → HasAt parts j u
        → PlacedWith join_role join_keeper j u
    other_joins j u apart there alive =
        let t = placed opening order position prev parts k j u there alive in
        let p = t.part in
        record {
          part = record {
            own = hold_active u.number j p.own apart;
            entries_are = p.entries_are;
            spares = λ m low high. hold_spare m j (p.spares m low high) apart;
            seen = p.seen;
            stops = p.stops;
            joined = IsEnded-still opening order k.role join_role j j
                (λ m is. hold_ended m j is apart) u.joined p.joined;
            apart = p.apart;
          };
          place = t.place;
          spare = λ h. keeper_else j apart (has_spares s) refl (t.spare h);
        }

    both_spares : (b : Bool) → has_spares r ≡ b → (m : ℕ) → cond b r.spare s.spare ≤ m
        → m < cond b r.spare_end s.spare_end → join_role m ≡ spare id
    both_spares true is m low high =
        hold_spare m id ((mine.part).spares m low high) apart_s
    both_spares false is m low high = hand_spare m ((theirs.part).spares m low high)

    both_keep : (b c : Bool) → has_spares r ≡ b → has_spares s ≡ c
        → cond b r.spare s.spare < cond b r.spare_end s.spare_end → id ≡ cond c id k.keeper
    both_keep b true is was h = refl
    both_keep true false is was h = mine.spare h
    both_keep false false is was h =
        absurd (omega (arith, h, ltb-false s.spare s.spare_end was))

    -- what it took in, the other, and what the other took in have numbers that differ
    abbrev Differ : Joined → Joined → Type 0
    Differ i j = i.number ≢ j.number

    own_apart : All (Differ log) s.joined
    own_apart = All-weaker (IsEnded opening order k.role other) (Differ log)
        (λ j h e. cc ((theirs.part).own, h.role_is)) s.joined (theirs.part).joined

    from_theirs : (i : Joined) → IsEnded opening order k.role id i
        → All (Differ i) (log ∷ s.joined)
    from_theirs i own = All-cons (Differ i) log s.joined
        (λ e. cc (ap k.role e, own.role_is, (theirs.part).own))
        (All-weaker (IsEnded opening order k.role other) (Differ i)
        (λ j h e. apart_s (cc (ap k.role e, own.role_is, h.role_is))) s.joined
        (theirs.part).joined)

    all_apart : AreApart (r.joined ++ log ∷ s.joined)
    all_apart = AllPairs-append Differ r.joined (log ∷ s.joined) (mine.part).apart
        (AllPairs-cons Differ log s.joined own_apart (theirs.part).apart)
        (All-weaker (IsEnded opening order k.role id)
        (λ i. All (Differ i) (log ∷ s.joined)) from_theirs r.joined (mine.part).joined)

    both_joins : PlacedWith join_role join_keeper id both
    both_joins alive =
        let p = mine.part in
        let q = theirs.part in
        record {
          part = record {
            own = hold_active r.number id p.own apart_s;
            entries_are = p.entries_are;
            spares = both_spares (has_spares r) refl;
            seen = omega (arith, p.seen, q.seen);
            stops = p.stops;
            joined = All-append (IsEnded opening order join_role id) r.joined
                (log ∷ s.joined)
                (IsEnded-still opening order k.role join_role id id
                (λ m is. hold_ended m id is apart_s) r.joined p.joined)
                (All-cons (IsEnded opening order join_role id) log s.joined
                (record {
                  role_is = given_same (λ (m : ℕ). handed other id (k.role m)) s.number s.number
                      (ended id) refl;
                  entries_are = q.entries_are;
                  stops = q.stops;
                })
                (IsEnded-still opening order k.role join_role other id
                hand_ended s.joined q.joined));
            apart = all_apart;
          };
          place = mine.place;
          spare = both_keep (has_spares r) (has_spares s) refl refl;
        }

    -- each view but the other goes on
    abbrev all : List Reserving
    all = set (set parts other gone) id both

    here_still : HasAt (set parts other gone) id r
    here_still = at_else parts other id gone r apart_s here

    both_at : HasAt all id both
    both_at = at_place (set parts other gone) id r both here_still

    both_goes : StaysPlaced r both
    both_goes = record {
      goes_on = record {
        live = λ alive. alive;
        number = refl;
        took = λ j has. Contains-append_left r.joined (log ∷ s.joined) j has;
      };
      placed = λ some. some;
    }

    goes : (j : ℕ) (u : Reserving) → j ≢ other → HasAt parts j u
        → (x : Reserving) × HasAt all j x × StaysPlaced u x
    goes j u apart at = each_set StaysPlaced placed_as (set parts other gone) id r both here_still
        both_goes j u (at_else parts other j gone u apart at)

    is_other : (j : ℕ) (u : Reserving) → HasAt parts j u → j ≡ other → u ≡ s
    is_other j u at o =
        at_same parts u s other (subst (λ (i : ℕ). HasAt parts i u) o at) there_s

    unlike : (n j : ℕ) (u : Reserving) → HasAt parts j u → u.number ≡ n → n ≢ s.number
        → j ≢ other
    unlike n j u at is apart o =
        apart (sym is ∙ ap (λ (x : Reserving). x.number) (is_other j u at o))

    goes_by_both : (n j : ℕ) → join_role n ≡ active j → HasLive all j (λ u. u.number ≡ n)
    goes_by_both n j is = dite (ℕ_discrete n s.number)
        (λ e. absurd (let t : ended id ≡ active j =
        sym (given_same (λ (m : ℕ). handed other id (k.role m)) s.number n (ended id) e) ∙ is in
        cc))
        (λ e. let h = k.goes_by n j (handed_active other id j (k.role n) (sym (hold n e) ∙ is)) in
        let x = goes j h.0 (unlike n j h.0 h.1 h.3 e) h.1 in
        (x.0, x.1, ((x.2).goes_on).live h.2, number_still n h.0 x.0 (x.2).goes_on h.3))

    took_in_other : (n j : ℕ) → k.role n ≡ ended other → j ≡ id → HasLive all j (TookIn n)
    took_in_other n j was is =
        let h = k.took_in n other was in
        let i = h.3 in
        let has : Contains s.joined i.0 = subst (λ (u : Reserving). Contains u.joined i.0)
        (is_other other h.0 h.1 refl) i.1 in (
          both,
          subst (λ (m : ℕ). HasAt all m both) (sym is) both_at,
          live,
          (
            i.0,
            Contains-append_right r.joined (log ∷ s.joined) i.0
                (Contains-append_right (log ∷ []) s.joined i.0 has),
            i.2,
          ),
        )

    took_in_both : (n j : ℕ) → join_role n ≡ ended j → HasLive all j (TookIn n)
    took_in_both n j is = dite (ℕ_discrete n s.number)
        (λ e. let t : ended id ≡ ended j =
        sym (given_same (λ (m : ℕ). handed other id (k.role m)) s.number n (ended id) e) ∙ is in
        let same : id ≡ j = cc in (
          both,
          subst (λ (m : ℕ). HasAt all m both) same both_at,
          live,
          (
            log,
            Contains-append_right r.joined (log ∷ s.joined) log
                (Contains-append_left (log ∷ []) s.joined log (0, omega arith, refl)),
            sym e,
          ),
        ))
        (λ e. ⊎_elim
        (λ (x : (k.role n ≡ ended j) × (j ≢ other)).
        let h = k.took_in n j x.0 in
        let i = h.3 in
        let y = goes j h.0 x.1 h.1 in
        (y.0, y.1, ((y.2).goes_on).live h.2, (i.0, ((y.2).goes_on).took i.0 i.1, i.2)))
        (λ (x : (k.role n ≡ ended other) × (j ≡ id)). took_in_other n j x.0 x.1)
        (handed_ended other id j (k.role n) (sym (hold n e) ∙ is)))

    held_both : k.locked ≡ 1 → HasLive all k.holder (λ u. u.place ≢ Free)
    held_both is =
        let h = k.held is in
        let x = goes k.holder h.0 (λ o. h.3 (ap (λ (u : Reserving). u.place)
        (is_other k.holder h.0 h.1 o) ∙ rests)) h.1 in
        (x.0, x.1, ((x.2).goes_on).live h.2, (x.2).placed h.3)

    pub joins : OrderHolds opening order position prev (set (set parts other gone) id both)
    joins = with_roles join_role join_keeper (set (set parts other gone) id both)
        (λ m unused. dite (ℕ_discrete m s.number)
        (λ e. absurd (subst (λ (q : Role). IsUnused q)
        (given_same (λ (m : ℕ). handed other id (k.role m)) s.number m (ended id) e) unused))
        (λ e. k.unused m (handed_unused other id (k.role m)
        (subst (λ (q : Role). IsUnused q) (hold m e) unused))))
        (λ m h. hold_role m unborn (k.beyond m h) (λ e. cc e))
        (one_set (PlacedWith join_role join_keeper) (set parts other gone) id both
        (λ j u apart there alive. one_set (PlacedWith join_role join_keeper) parts other gone
        other_joins (λ is. absurd (true≢false (sym is ∙ dead))) j u there alive)
        both_joins)
        goes_by_both took_in_both held_both
