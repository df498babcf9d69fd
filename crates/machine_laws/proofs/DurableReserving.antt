-- An entry more is reserved.
use Rattle.std.proofs.Common.{◌≡◌, ℕ, zero, suc, ◌≤◌, ◌⊎◌, inl, inr, All, List, [], ◌∷◌, ◌++◌, map, set, slice_get, Some, refl, sym, ap, subst, ◌∙◌, arith}
use Rattle.std.proofs.lemmas.List.Elements.{All-weaker}
use Rattle.std.proofs.lemmas.Option.{IfSome_then, none-some, same_Some}
use Rattle.byte_position.specs.Geometry.{IsSegmentSize}
use Rattle.segment_disk.specs.Tape.{DiskState, Tape, state_now}
use Rattle.segment_disk.specs.Assured.{IsMadeUpto, IsNowhere, TapeAssures}
use Rattle.wal_types.specs.declared.record.Record.{Record}
use Rattle.wal_page.specs.Order.{Entry}
use Rattle.machine_state.specs.Words.{Opening, end_form, found_end, order_end, GoesOnAtPlace}
use Rattle.machine_state.specs.Views.{HasAt, Flight, Out, Joined, Lent, Place, Stored, Plain, FlushPromise, Receipts, View, receipts_of, writing_of}
use Rattle.machine_state.specs.Ordered.{AtPlace}
use Rattle.machine_state.specs.Moves.{after_store_position, entry_reserved}
use Rattle.machine_state.specs.Positioned.{PositionsHold}
use Rattle.machine_state.specs.Durable.{AreKept, DurabilityHolds, IsToldRightly, IsPromiseKept, IsLawfulAt, IsLogBelow, IsOnDisk, IsPromised, IsStaged, IsUnwritten}
use Rattle.machine_state.specs.Steps.{store_position, view_behind}
use Rattle.machine_state.specs.Sound.{IsSetup}
use Rattle.machine_state.proofs.Lists.{part_at, view_from}
use Rattle.machine_laws.proofs.DurableAssured.{told, view_set}
use Rattle.machine_laws.proofs.DurableGrowth.{IsUnwritten-new, below_grows, firm_stays, lawful_stays, staged_stays}
use Rattle.machine_laws.proofs.SegmentStates.{All-both, SegmentAssures-weaker}
use Rattle.machine_state.proofs.Tapes.{told_suited, at_suited}
use Rattle.machine_state.specs.Suited.{tape_from, BeganSuited}

got_cases : (es : List Entry) (e f : Entry) (k : ℕ) → slice_get (es ++ e ∷ []) k ≡ Some f
    → (slice_get es k ≡ Some f) ⊎ (e ≡ f)
got_cases [] e f zero is = inr (same_Some e f is)
got_cases [] e f (suc k) is = absurd (none-some f is)
got_cases (x ∷ es) e f zero is = inl is
got_cases (x ∷ es) e f (suc k) is = got_cases es e f k is

-- a view with the writer in hand knows no more copied than is reserved
pub known_reserved : {first : DiskState} (o : Opening) (order : List Entry) (written flushed down : ℕ) (home : _)
    (writer : Plain) (flights : List Flight) (views : List View)
    → PositionsHold first o order written flushed down home writer flights (map writing_of views)
    → (id : ℕ) (x : Receipts) → HasAt (map receipts_of views) id x
    → (l : Lent) → (x.writing).hold ≡ Out l
    → l.known ≤ end_form o.setup (order_end o order)
known_reserved o order written flushed down home writer flights views p id x at l is =
    let found = view_from receipts_of views id x at in
    ((p.views id (found.0).writing (part_at writing_of views id found.0 found.1)).known l
    (ap (λ (y : Receipts). (y.writing).hold) found.2 ∙ is)).0

-- the position that a view has locked is the order's end
pub at_end : (size end last prev locked holder id : ℕ) (place : Place) (at met : ℕ)
    → place ≡ Stored at met → AtPlace size end last prev locked holder id place → at ≡ end
at_end size end last prev locked holder id place at met is stands =
    let stored : AtPlace size end last prev locked holder id (Stored at met) =
    subst (AtPlace size end last prev locked holder id) is stands in
    stored.2

-- what a pass has behind its reservation
reserved_is : (v : View) (locks : List ℕ) (value : Record) (at prev : ℕ)
    → v.reserving.place ≡ Stored at prev
    → receipts_of (after_store_position locks value v)
    ≡ told (v.reserving.entries ++ entry_reserved v.reserving.number at value ∷ [])
    v.reserving.joined v.writing
reserved_is v locks value at prev is = rw is refl

module _ {first : DiskState} (o : Opening) (order : List Entry) (flushed moment down : ℕ) (home : _)
    (writer : Plain) (parts : List Receipts)
    (h : DurabilityHolds first o order flushed moment down home writer parts)
    (valid : IsSegmentSize (o.setup).seg_size) (e : Entry)
    (chained : GoesOnAtPlace o order)
    (start : e.start ≡ order_end o order) where
  abbrev longer : List Entry
  longer = order ++ e ∷ []

  abbrev end : ℕ
  end = end_form o.setup (order_end o order)

  abbrev opened : ℕ
  opened = o.moment

  module _ (reserved : writer.written ≤ end) (low : flushed ≤ writer.written)
      (known : (id : ℕ) (x : Receipts) → HasAt parts id x → (l : Lent) → (x.writing).hold ≡ Out l
      → l.known ≤ end) where
    kept_longer : (t : Tape) (es : List Entry) (p : FlushPromise) → IsPromiseKept o order t es p
        → IsPromised flushed moment p → IsPromiseKept o longer t es p
    kept_longer t es p kept promised = record {
      since = kept.since;
      firm = firm_stays o valid order e chained start p.upto p.moment t
          (omega (arith, promised.upto_low)) kept.firm;
      later = kept.later;
    }

    kept_more : (t : Tape) (es : List Entry) (p : FlushPromise)
        → TapeAssures (o.setup).seg_size IsNowhere (IsLawfulAt o order) opened t
        → IsPromiseKept o order t es p → IsPromised flushed moment p → IsPromiseKept o longer t
        (es ++ e ∷ []) p
    kept_more t es p lawful kept promised = record {
      since = kept.since;
      firm = (kept_longer t es p kept promised).firm;
      later = λ k f from there. elim (got_cases es e f k there) [
        | inl before ↦ kept.later k f from before
        | inr new ↦ subst (IsUnwritten (o.setup).seg_size opened t p.moment) new
            (IsUnwritten-new o valid order e chained start opened p.moment t lawful)
      ];
    }

    -- of each view, whose entries may be one more
    longer_assured : (x : Receipts) (es : List Entry)
        → ((l : Lent) → (x.writing).hold ≡ Out l → l.known ≤ end)
        → ((t : Tape) → tape_from first writer.calls ≡ Some t → BeganSuited o t → (p : FlushPromise)
        → IsPromiseKept o order t x.entries p
        → IsPromised flushed moment p → IsPromiseKept o longer t es p)
        → IsToldRightly first o order flushed moment down writer x
        → IsToldRightly first o longer flushed moment down writer (told es x.joined x.writing)
    longer_assured x es within keeps a = record {
      own_promised = a.own_promised;
      joined_promised = a.joined_promised;
      own = told_suited first o writer (λ t is suited. All-both (IsPromiseKept o order t x.entries)
          (IsPromised flushed moment) (IsPromiseKept o longer t es) (keeps t is suited)
          (x.writing).promises
          (at_suited first o writer (λ t. AreKept o order t x.entries
          (x.writing).promises) t is suited a.own)
          a.own_promised);
      joined = told_suited first o writer (λ t is suited.
          All-both (λ (j : Joined). AreKept o order t j.entries j.promises)
          (λ (j : Joined). All (IsPromised flushed moment) j.promises)
          (λ (j : Joined). AreKept o longer t j.entries j.promises)
          (λ j kept promised. All-both (IsPromiseKept o order t j.entries)
          (IsPromised flushed moment)
          (IsPromiseKept o longer t j.entries) (kept_longer t j.entries) j.promises kept promised)
          x.joined
          (at_suited first o writer (λ t. All (λ
          (j : Joined). AreKept o order t j.entries j.promises) x.joined)
          t is suited a.joined) a.joined_promised);
      in_hand = λ l is. let i = a.in_hand l is in record {
        staged = All-weaker (IsStaged o order l.known) (IsStaged o longer l.known)
            (λ s staged. staged_stays o valid order e chained start l.known s (within l is)
            staged) l.staged i.staged;
        hard_low = i.hard_low;
        moment_low = i.moment_low;
        since = i.since;
        firm = λ some_hard. IfSome_then (tape_from first writer.calls) (i.firm some_hard) (λ t firm suited.
            firm_stays o valid order e chained start l.hard l.hard_moment t
            (omega (arith, i.hard_low)) (firm suited));
      };
      down_met = a.down_met;
      down_set = a.down_set;
      up_in_hand = a.up_in_hand;
    }

    on_disk_longer : (t : Tape) → IsOnDisk o order writer t → IsOnDisk o longer writer t
    on_disk_longer t is = record {
      firm = λ segment apart. SegmentAssures-weaker (o.setup).seg_size
          (IsMadeUpto (o.setup).seg_size writer.written)
          (IsMadeUpto (o.setup).seg_size writer.written)
          (IsLogBelow o order writer.written) (IsLogBelow o longer writer.written)
          segment (λ made. made)
          (λ page word within small bytes below.
          below_grows o valid order e chained start writer.written reserved _ word bytes
          below) (state_now t segment) (is.firm segment apart);
      there = is.there;
    }

    all_longer : DurabilityHolds first o longer flushed moment down home writer parts
    all_longer = record {
      counted = h.counted;
      moment_low = h.moment_low;
      begun = h.begun;
      reached = h.reached;
      made = h.made;
      lawful = IfSome_then (tape_from first writer.calls) h.lawful (λ t lawful suited.
          lawful_stays o valid order e chained start opened t (lawful suited));
      found_low = h.found_low;
      found = IfSome_then (tape_from first writer.calls) h.found (λ t found suited.
          firm_stays o valid order e chained start (found_end o) o.moment t
          (omega (arith, h.found_low)) (found suited));
      firm = IfSome_then (tape_from first writer.calls) h.firm (λ t firm suited.
          firm_stays o valid order e chained start flushed moment t (omega arith)
          (firm suited));
      on_disk = IfSome_then (tape_from first writer.calls) h.on_disk (λ t is suited. on_disk_longer t (is suited));
      down_is = h.down_is;
      down_at_home = h.down_at_home;
      set_once = h.set_once;
      fault_rose = h.fault_rose;
      views = λ j x at. longer_assured x x.entries (known j x at)
          (λ t _ _. kept_longer t x.entries) (h.views j x at);
    }

    pub reserve_keeps : (id : ℕ) (x : Receipts) → HasAt parts id x
        → DurabilityHolds first o longer flushed moment down home writer
        (set parts id (told (x.entries ++ e ∷ []) x.joined x.writing))
    reserve_keeps id x here = view_set first o longer flushed moment down writer home parts id x
        (told (x.entries ++ e ∷ []) x.joined x.writing) all_longer here refl
        (longer_assured x (x.entries ++ e ∷ []) (known id x here)
        (λ t is suited p. kept_more t x.entries p (at_suited first o writer
        (TapeAssures (o.setup).seg_size IsNowhere (IsLawfulAt o order) opened)
        t is suited h.lawful))
        (h.views id x here))

-- the step, of all views
pub store_position_keeps : {first : DiskState} (o : Opening) (order : List Entry) (flushed moment down : ℕ) (home : _)
    (writer : Plain) (views : List View) (id met : ℕ) (locks : List ℕ) (value : Record) (v : View)
    (at prev : ℕ) (last word locked holder written : ℕ) (flights : List Flight)
    → DurabilityHolds first o order flushed moment down home writer (map receipts_of views)
    → HasAt views id v → IsSetup o.setup → GoesOnAtPlace o order
    → AtPlace (o.setup).seg_size (order_end o order) last word locked
    holder id (v.reserving).place
    → PositionsHold first o order written flushed down home writer flights (map writing_of views)
    → (v.reserving).place ≡ Stored at prev
    → DurabilityHolds first o (order ++ entry_reserved
    (v.reserving).number at value ∷ []) flushed moment down
    home writer
    (set (map receipts_of views) id (receipts_of (view_behind v (store_position locks value) met home)))
store_position_keeps {first} o order flushed moment down home writer views id met locks value v at prev
    last word locked holder written flights h here setup chained stands positions is =
    let e = entry_reserved (v.reserving).number at value in
    let start = at_end (o.setup).seg_size (order_end o order) last word
    locked holder id (v.reserving).place at prev is stands in
    subst (λ (x : Receipts). DurabilityHolds first o (order ++ e ∷ []) flushed moment down home writer
    (set (map receipts_of views) id x)) (sym (reserved_is v locks value at prev is))
    (reserve_keeps o order flushed moment down home writer (map receipts_of views) h setup.size e
    chained start positions.reserved
    (let low : flushed ≤ writer.written =
    omega (arith, positions.flushed_low, positions.written_low) in low)
    (known_reserved o order written flushed down home writer flights views positions) id
    (receipts_of v) (part_at receipts_of views id v here))
