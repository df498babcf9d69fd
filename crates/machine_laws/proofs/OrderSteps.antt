-- The reserved order through each kind of step, split and join.
use Rattle.std.proofs.Common.{◌≡◌, ◌≢◌, ℕ, ◌+◌, ◌-◌, ◌%◌, ◌<◌, ◌≤◌, max, true, false, List, [], ◌∷◌, ◌++◌, length, set, Some, append-nil, IsSome, true≢false, sym, refl, ap, ◌∙◌, subst, arith}
use Rattle.std.proofs.lemmas.List.{take_all}
use Rattle.std.proofs.lemmas.List.Elements.{All-push, All-weaker}
use Rattle.byte_position.specs.Geometry.{IsSegmentSize}
use Rattle.byte_position.specs.Position.{address_of, end_address_of}
use Rattle.wal_types.specs.declared.record.Record.{Record}
use Rattle.wal_spelling.specs.Spelling.{IsLogRecord}
use Rattle.wal_page.specs.Order.{Entry, position_behind, room_at}
use Rattle.wal_page.proofs.OrderLaws.{FollowsFrom_push, prev_of_push}
use Rattle.wal_page.proofs.PlaceLaws.{end-whole_from}
use Rattle.machine_state.specs.Words.{Opening, last_start, log_limit, order_end}
use Rattle.machine_state.specs.Views.{HasAt, Place, Free, Locked, Loaded, Stored, AtSegmentStart, Stop, StopCause, Joined, Reserving}
use Rattle.machine_state.specs.Ordered.{is_pass, Role, active, ended, IsUnused, FrontEndsAt, IsEnded, IsPartOf, HasLive, TookIn, AtPlace, OrderHolds}
use Rattle.machine_state.specs.Moves.{entry_reserved}
use Rattle.machine_state.proofs.Lists.{one_set, one_added, at_place}
use Rattle.machine_laws.proofs.OrderGoing.{GoesOn, StaysPlaced, goes_as, placed_as, Each, each_set, each_added, each_goes_on, goes_by_still, took_in_still, held_still}
use Rattle.machine_laws.proofs.OrderedEntries.{is_pass_own, is_pass_other, entries_of-hit, entries_of-miss, order_end_push, FrontEndsAt-longer, FrontEndsAt-more}

-- ---- where the position is locked

-- a view other than the holder's has no place, whatever the words become
elsewhere : (size e p w l h e' p' w' l' h' id j : ℕ) (pl : Place) → h ≡ id → j ≢ id
    → AtPlace size e p w l h j pl → AtPlace size e' p' w' l' h' j pl
elsewhere size e p w l h e' p' w' l' h' id j Free is apart t = tt
elsewhere size e p w l h e' p' w' l' h' id j (Locked at) is apart t = absurd (apart (sym t.1 ∙ is))
elsewhere size e p w l h e' p' w' l' h' id j (Loaded at q) is apart t =
    absurd (apart (sym t.1 ∙ is))
elsewhere size e p w l h e' p' w' l' h' id j (Stored at q) is apart t =
    absurd (apart (sym t.1 ∙ is))

-- no view has a place while the position is not locked
nowhere : (size e p w l h e' p' w' l' h' j : ℕ) (pl : Place) → l ≡ 0
    → AtPlace size e p w l h j pl → AtPlace size e' p' w' l' h' j pl
nowhere size e p w l h e' p' w' l' h' j Free is t = tt
nowhere size e p w l h e' p' w' l' h' j (Locked at) is t = absurd (omega (arith, t.0))
nowhere size e p w l h e' p' w' l' h' j (Loaded at q) is t = absurd (omega (arith, t.0))
nowhere size e p w l h e' p' w' l' h' j (Stored at q) is t = absurd (omega (arith, t.0))

-- ---- numbers and what has become of them

not_unused : (role : ℕ → Role) (m n id : ℕ) → role m ≡ active id → IsUnused (role n) → m ≢ n
not_unused role m n id is unused e =
    subst (λ (r : Role). IsUnused r) (ap role (sym e) ∙ is) unused

not_other : (role : ℕ → Role) (m n id j : ℕ) → role m ≡ active id → role n ≡ active j → j ≢ id
    → m ≢ n
not_other role m n id j is was apart e = apart (cc (ap role e))

not_ended : (role : ℕ → Role) (m n id j : ℕ) → role m ≡ active id → role n ≡ ended j → m ≢ n
not_ended role m n id j is was e = cc (ap role e)

-- ---- what was taken in stays as it is

-- while an active pass reserves
IsEnded-longer : (opening : Opening) (order : List Entry) (e : Entry) (role : ℕ → Role) (n id : ℕ)
    → e.pass ≡ Some n → role n ≡ active id → (by : ℕ) (j : Joined)
    → IsEnded opening order role by j → IsEnded opening (order ++ e ∷ []) role by j
IsEnded-longer opening order e role n id is active_is by j h = record {
  role_is = h.role_is;
  entries_are = h.entries_are ∙ sym (entries_of-miss j.number order e
      (ap (is_pass j.number) is
      ∙ is_pass_other j.number n (not_ended role n j.number id by active_is h.role_is)));
  stops = All-weaker (FrontEndsAt opening j.number order j.entries)
      (FrontEndsAt opening j.number (order ++ e ∷ []) j.entries)
      (λ full. FrontEndsAt-longer opening j.number order (e ∷ []) j.entries full) j.stops
      h.stops;
}

-- ---- all that is said of one live view

pub record IsPlaced (opening : Opening) (order : List Entry) (prev : ℕ) (role : ℕ → Role)
    (locked holder keeper id : ℕ) (r : Reserving) : Type 0 where
  pub part : IsPartOf opening order role id r
  pub place : AtPlace opening.setup.seg_size (order_end opening order)
      (last_start opening order) prev locked holder id r.place
  pub spare : r.spare < r.spare_end → id ≡ keeper

module _ (opening : Opening) (order : List Entry) (position prev : ℕ) (parts : List Reserving)
    (k : OrderHolds opening order position prev parts) where
  abbrev size : ℕ
  size = opening.setup.seg_size

  abbrev Placed : ℕ → Reserving → Type 0
  Placed id r = r.live ≡ true
      → IsPlaced opening order prev k.role k.locked k.holder k.keeper id r

  pub placed : (id : ℕ) (r : Reserving) → HasAt parts id r → Placed id r
  placed id r here live = record {
    part = k.views id r here live;
    place = k.places id r here live;
    spare = k.spares id r here live;
  }

  -- where the words and the order stay, each view may change as it likes within what is said of it
  same_words : (parts' : List Reserving) → Each StaysPlaced parts parts'
      → ((id : ℕ) (r : Reserving) → HasAt parts' id r → Placed id r)
      → OrderHolds opening order position prev parts'
  same_words parts' on each = record {
    role = k.role;
    locked = k.locked;
    holder = k.holder;
    keeper = k.keeper;
    placed = k.placed;
    chained = k.chained;
    owned = k.owned;
    within = k.within;
    position_is = k.position_is;
    one_bit = k.one_bit;
    at_rest = k.at_rest;
    unused = k.unused;
    beyond = k.beyond;
    views = λ j u at alive. (each j u at alive).part;
    places = λ j u at alive. (each j u at alive).place;
    spares = λ j u at alive. (each j u at alive).spare;
    goes_by = λ n j is. goes_by_still parts parts' (each_goes_on parts parts' on) n j
        (k.goes_by n j is);
    took_in = λ n j is. took_in_still parts parts' (each_goes_on parts parts' on) n j
        (k.took_in n j is);
    held = λ is. held_still parts parts' on k.holder (k.held is);
  }

  pub end_even : IsSegmentSize opening.setup.seg_size → order_end opening order % 8 ≡ 0
  end_even valid = end-whole_from size valid opening.place.position order k.chained k.placed.whole

  -- the position word without its lock bit is the order's end
  pub unlocked-is : IsSegmentSize opening.setup.seg_size
      → position - position % 2 ≡ order_end opening order
  unlocked-is valid = omega (arith, end_even valid, k.position_is, k.one_bit)

  module _ (id : ℕ) (r : Reserving) (here : HasAt parts id r) (live : r.live ≡ true) where
    mine : IsPlaced opening order prev k.role k.locked k.holder k.keeper id r
    mine = placed id r here live

    -- the place of a view, told what it is
    at : (p : Place) → r.place ≡ p
        → AtPlace opening.setup.seg_size (order_end opening order)
        (last_start opening order) prev k.locked k.holder id p
    at p is = subst (λ (q : Place). AtPlace opening.setup.seg_size (order_end opening order)
        (last_start opening order) prev k.locked k.holder id q) is mine.place

    moved_to : (p : Place)
        → IsPartOf opening order k.role id (record r { place = p })
    moved_to p = let m = mine.part in record {
      own = m.own;
      entries_are = m.entries_are;
      spares = m.spares;
      seen = m.seen;
      stops = m.stops;
      joined = m.joined;
      apart = m.apart;
    }

    -- where this view goes on as another one
    on : (w : Reserving) → StaysPlaced r w → Each StaysPlaced parts (set parts id w)
    on w goes = each_set StaysPlaced placed_as parts id r w here goes

    go_by : (w : Reserving) → GoesOn r w → (n j : ℕ) → k.role n ≡ active j
        → HasLive (set parts id w) j (λ u. u.number ≡ n)
    go_by w goes n j is = goes_by_still parts (set parts id w)
        (each_set GoesOn goes_as parts id r w here goes) n j (k.goes_by n j is)

    take_in : (w : Reserving) → GoesOn r w → (n j : ℕ) → k.role n ≡ ended j
        → HasLive (set parts id w) j (TookIn n)
    take_in w goes n j is = took_in_still parts (set parts id w)
        (each_set GoesOn goes_as parts id r w here goes) n j (k.took_in n j is)

    at_work : (p : Place) → GoesOn r (record r { place = p })
    at_work p = record { live = λ alive. alive; number = refl; took = λ j has. has }

    -- a reserved end is seen
    pub sees : (seen : ℕ) → seen ≤ order_end opening order
        → OrderHolds opening order position prev
        (set parts id (record r { seen = max r.seen seen }))
    sees seen low = same_words (set parts id (record r { seen = max r.seen seen }))
        (on (record r { seen = max r.seen seen }) (record {
          goes_on = record { live = λ alive. alive; number = refl; took = λ j has. has };
          placed = λ some. some;
        }))
        (one_set Placed parts id (record r { seen = max r.seen seen })
        (λ j u apart there. placed j u there)
        (λ alive. let m = mine.part in record {
          part = record {
            own = m.own;
            entries_are = m.entries_are;
            spares = m.spares;
            seen = omega (arith, m.seen, low);
            stops = m.stops;
            joined = m.joined;
            apart = m.apart;
          };
          place = mine.place;
          spare = mine.spare;
        }))

    -- the even word becomes one more
    pub locks : IsSegmentSize opening.setup.seg_size → (expected : ℕ) → position ≡ expected
        → expected % 2 ≡ 0
        → OrderHolds opening order (expected + 1) prev
        (set parts id (record r { place = Locked expected }))
    locks valid expected hit even =
        let free : k.locked ≡ 0 = omega (arith, end_even valid, k.position_is, k.one_bit) in
        let is : expected ≡ order_end opening order = omega (arith, k.position_is) in
        let each = one_set (λ (j : ℕ) (u : Reserving). u.live ≡ true
        → IsPlaced opening order prev k.role 1 id k.keeper j u)
        parts id (record r { place = Locked expected })
        (λ j u apart there alive. let t = placed j u there alive in record {
          part = t.part;
          place = nowhere _ _ _ _ _ _ _ _ _ _ _ j u.place free t.place;
          spare = t.spare;
        })
        (λ alive. record {
          part = moved_to (Locked expected);
          place = (refl, refl, is, k.at_rest free);
          spare = mine.spare;
        }) in
        record {
          role = k.role;
          locked = 1;
          holder = id;
          keeper = k.keeper;
          placed = k.placed;
          chained = k.chained;
          owned = k.owned;
          within = k.within;
          position_is = omega (arith, is);
          one_bit = omega arith;
          at_rest = λ h. absurd (omega (arith, h));
          unused = k.unused;
          beyond = k.beyond;
          views = λ j u at alive. (each j u at alive).part;
          places = λ j u at alive. (each j u at alive).place;
          spares = λ j u at alive. (each j u at alive).spare;
          goes_by = go_by (record r { place = Locked expected }) (at_work (Locked expected));
          took_in = take_in (record r { place = Locked expected }) (at_work (Locked expected));
          held = λ _. (
            record r { place = Locked expected },
            at_place parts id r (record r { place = Locked expected }) here,
            live,
            λ e. cc,
          );
        }

    -- the word of the last start is loaded
    pub loads_prev : (expected : ℕ) → r.place ≡ Locked expected
        → OrderHolds opening order position prev
        (set parts id (record r { place = Loaded expected prev }))
    loads_prev expected is =
        let pl = at (Locked expected) is in
        same_words (set parts id (record r { place = Loaded expected prev }))
        (on (record r { place = Loaded expected prev })
        (record { goes_on = at_work (Loaded expected prev); placed = λ some e. cc }))
        (one_set Placed parts id (record r { place = Loaded expected prev })
        (λ j u apart there. placed j u there)
        (λ alive. record {
          part = moved_to (Loaded expected prev);
          place = (pl.0, pl.1, pl.2, pl.3, pl.3);
          spare = mine.spare;
        }))

    -- and the own start is stored there
    pub stores_prev : (expected met : ℕ) → r.place ≡ Loaded expected met
        → OrderHolds opening order position (address_of opening.setup.seg_size expected)
        (set parts id (record r { place = Stored expected met }))
    stores_prev expected met is =
        let pl = at (Loaded expected met) is in
        let each = one_set (λ (j : ℕ) (u : Reserving). u.live ≡ true
        → IsPlaced opening order (address_of opening.setup.seg_size expected) k.role
        k.locked k.holder k.keeper j u)
        parts id (record r { place = Stored expected met })
        (λ j u apart there alive. let t = placed j u there alive in record {
          part = t.part;
          place = elsewhere _ _ _ _ _ _ _ _ _ _ _ id j u.place pl.1 apart t.place;
          spare = t.spare;
        })
        (λ alive. record {
          part = moved_to (Stored expected met);
          place = (pl.0, pl.1, pl.2, refl, pl.4);
          spare = mine.spare;
        }) in
        record {
          role = k.role;
          locked = k.locked;
          holder = k.holder;
          keeper = k.keeper;
          placed = k.placed;
          chained = k.chained;
          owned = k.owned;
          within = k.within;
          position_is = k.position_is;
          one_bit = k.one_bit;
          at_rest = λ h. absurd (omega (arith, h, pl.0));
          unused = k.unused;
          beyond = k.beyond;
          views = λ j u at alive. (each j u at alive).part;
          places = λ j u at alive. (each j u at alive).place;
          spares = λ j u at alive. (each j u at alive).spare;
          goes_by = go_by (record r { place = Stored expected met })
              (at_work (Stored expected met));
          took_in = take_in (record r { place = Stored expected met })
              (at_work (Stored expected met));
          held = λ locked. held_still parts
              (set parts id (record r { place = Stored expected met }))
              (on (record r { place = Stored expected met })
              (record { goes_on = at_work (Stored expected met); placed = λ some e. cc }))
              k.holder (k.held locked);
        }

    -- the log is full, or stands at a segment's start: the position is as it was
    pub gives_back : (cause : StopCause) (expected : ℕ) → r.place ≡ Locked expected
        → (cause ≡ AtSegmentStart
        → end_address_of opening.setup.seg_size expected % opening.setup.seg_size ≡ 0)
        → OrderHolds opening order expected prev (set parts id (record r {
          stops = r.stops ++ (record {
            cause = cause;
            position = expected;
            entries = length r.entries;
          }) ∷ [];
          place = Free;
        }))
    gives_back cause expected is starts =
        let pl = at (Locked expected) is in
        let stop : Stop = record {
          cause = cause;
          position = expected;
          entries = length r.entries;
        } in
        let m = mine.part in
        let w : Reserving = record r { stops = r.stops ++ stop ∷ []; place = Free } in
        let ends : FrontEndsAt opening r.number order r.entries stop = record {
          front = order;
          back = [];
          are = sym (append-nil order);
          end = pl.2;
          own = sym m.entries_are ∙ sym (take_all (length r.entries) r.entries (omega arith));
          within = omega arith;
          at_start = starts;
        } in
        let each = one_set (λ (j : ℕ) (u : Reserving). u.live ≡ true
        → IsPlaced opening order prev k.role 0 k.holder k.keeper j u)
        parts id w
        (λ j u apart there alive. let t = placed j u there alive in record {
          part = t.part;
          place = elsewhere _ _ _ _ _ _ _ _ _ _ _ id j u.place pl.1 apart t.place;
          spare = t.spare;
        })
        (λ alive. record {
          part = record {
            own = m.own;
            entries_are = m.entries_are;
            spares = m.spares;
            seen = m.seen;
            stops = All-push (FrontEndsAt opening r.number order r.entries)
                r.stops stop m.stops ends;
            joined = m.joined;
            apart = m.apart;
          };
          place = tt;
          spare = mine.spare;
        }) in
        record {
          role = k.role;
          locked = 0;
          holder = k.holder;
          keeper = k.keeper;
          placed = k.placed;
          chained = k.chained;
          owned = k.owned;
          within = k.within;
          position_is = omega (arith, pl.2);
          one_bit = omega arith;
          at_rest = λ _. pl.3;
          unused = k.unused;
          beyond = k.beyond;
          views = λ j u at alive. (each j u at alive).part;
          places = λ j u at alive. (each j u at alive).place;
          spares = λ j u at alive. (each j u at alive).spare;
          goes_by = go_by w (record { live = λ alive. alive; number = refl; took = λ j has. has });
          took_in = take_in w
              (record { live = λ alive. alive; number = refl; took = λ j has. has });
          held = λ h. absurd (omega (arith, h));
        }

    -- an entry is added at the end: the position is unlocked behind it
    module _ (value : Record) (expected met : ℕ) (is : r.place ≡ Stored expected met)
        (logged : IsLogRecord value)
        (fits : expected + room_at opening.setup.seg_size expected value
        ≤ log_limit opening.setup) where
      abbrev e : Entry
      e = entry_reserved r.number expected value

      abbrev longer : List Entry
      longer = order ++ e ∷ []

      own_is : k.role r.number ≡ active id
      own_is = mine.part.own

      at_end : expected ≡ order_end opening order
      at_end = let pl = at (Stored expected met) is in pl.2

      others_grow : (j : ℕ) (u : Reserving) → j ≢ id
          → IsPartOf opening order k.role j u
          → IsPartOf opening longer k.role j u
      others_grow j u apart t = record {
        own = t.own;
        entries_are = t.entries_are ∙ sym (entries_of-miss u.number order e
            (is_pass_other u.number r.number
            (not_other k.role r.number u.number id j own_is t.own apart)));
        spares = t.spares;
        seen = omega (arith, t.seen, order_end_push opening order e);
        stops = All-weaker (FrontEndsAt opening u.number order u.entries)
            (FrontEndsAt opening u.number longer u.entries)
            (λ full. FrontEndsAt-longer opening u.number order (e ∷ [])
            u.entries full)
            u.stops t.stops;
        joined = All-weaker (IsEnded opening order k.role j)
            (IsEnded opening longer k.role j)
            (IsEnded-longer opening order e k.role r.number id refl own_is j)
            u.joined t.joined;
        apart = t.apart;
      }

      abbrev grown : Reserving
      grown = record r {
        entries = r.entries ++ e ∷ [];
        seen = position_behind opening.setup.seg_size e;
        place = Free;
      }

      mine_grows : IsPartOf opening longer k.role id grown
      mine_grows = let m = mine.part in record {
        own = m.own;
        entries_are = ap (λ (es : List Entry). es ++ e ∷ []) m.entries_are
            ∙ sym (entries_of-hit r.number order e (is_pass_own r.number));
        spares = m.spares;
        seen = omega (arith, at_end, order_end_push opening order e);
        stops = All-weaker (FrontEndsAt opening r.number order r.entries)
            (FrontEndsAt opening r.number longer grown.entries)
            (λ full h. FrontEndsAt-more opening r.number longer r.entries
            (e ∷ []) full
            (FrontEndsAt-longer opening r.number order (e ∷ []) r.entries full h))
            r.stops m.stops;
        joined = All-weaker (IsEnded opening order k.role id)
            (IsEnded opening longer k.role id)
            (IsEnded-longer opening order e k.role r.number id refl own_is id)
            r.joined m.joined;
        apart = m.apart;
      }

      pub reserves : OrderHolds opening longer
          (expected + room_at opening.setup.seg_size expected value) prev (set parts id grown)
      reserves =
          let pl = at (Stored expected met) is in
          let each = one_set (λ (j : ℕ) (u : Reserving). u.live ≡ true
          → IsPlaced opening longer prev k.role 0 k.holder k.keeper j u)
          parts id grown
          (λ j u apart there alive. let t = placed j u there alive in record {
            part = others_grow j u apart t.part;
            place = elsewhere _ _ _ _ _ _ _ _ _ _ _ id j u.place pl.1 apart t.place;
            spare = t.spare;
          })
          (λ alive. record { part = mine_grows; place = tt; spare = mine.spare }) in
          record {
            role = k.role;
            locked = 0;
            holder = k.holder;
            keeper = k.keeper;
            placed = k.placed;
            chained = FollowsFrom_push size opening.place.position order e k.chained at_end logged;
            owned = All-push (λ (x : Entry). IsSome x.pass) order e k.owned refl;
            within = omega (arith, fits, at_end, order_end_push opening order e);
            position_is = omega (arith, at_end, order_end_push opening order e);
            one_bit = omega arith;
            at_rest = λ _. pl.3 ∙ sym (prev_of_push size opening.place.prev order e);
            unused = λ n unused. entries_of-miss n order e
                (is_pass_other n r.number (not_unused k.role r.number n id own_is unused))
                ∙ k.unused n unused;
            beyond = k.beyond;
            views = λ j u at alive. (each j u at alive).part;
            places = λ j u at alive. (each j u at alive).place;
            spares = λ j u at alive. (each j u at alive).spare;
            goes_by = go_by grown
                (record { live = λ alive. alive; number = refl; took = λ j has. has });
            took_in = take_in grown
                (record { live = λ alive. alive; number = refl; took = λ j has. has });
            held = λ h. absurd (omega (arith, h));
          }

    -- a pass that gives up leaves a view that is not live
    pub gives_up : (gone : Reserving) → gone.live ≡ false
        → OrderHolds opening order position prev (set parts id r ++ gone ∷ [])
    gives_up gone dead = same_words (set parts id r ++ gone ∷ [])
        (each_added StaysPlaced parts (set parts id r) gone (on r (placed_as r)))
        (one_added Placed (set parts id r) gone
        (one_set Placed parts id r (λ j u apart there. placed j u there) (placed id r here))
        (λ alive. absurd (true≢false (sym alive ∙ dead))))
