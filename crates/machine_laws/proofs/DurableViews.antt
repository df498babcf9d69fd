-- What is durable, lawful and promised stays so behind a call of the device, however it ended.
use Rattle.std.proofs.Common.{◌≡◌, ℕ, ◌+◌, ◌*◌, ◌≤◌, All, List, length, set, Option, Some, IfSome, refl, sym, subst, ◌∙◌, arith}
use mathlib.Core.Option.{none, some, some-injective, some-ne-none}
use Rattle.segment_disk.specs.declared.disk.Call.{Call}
use Rattle.segment_disk.specs.Cause.{Rose}
use Rattle.segment_disk.specs.Tape.{DiskState, Tape}
use Rattle.segment_disk.specs.Assured.{CallFits, IsMadeUpto, IsNowhere, TapeAssures}
use Rattle.wal_page.specs.Order.{Entry}
use Rattle.machine_state.specs.Words.{Opening, found_end}
use Rattle.machine_state.specs.Views.{HasAt, Hold, Out, Joined, Lent, Plain, FlushPromise, Receipts, View, receipts_of}
use Rattle.machine_state.specs.Moves.{CallOutcome, Done, Failed, with_lent, with_outcome}
use Rattle.machine_state.specs.Durable.{AreKept, DurabilityHolds, IsToldRightly, IsFirm, IsInHand, IsMadeInTurn, IsPromiseKept, IsLawfulAt, IsLogBelow, IsOnDisk, IsPromised}
use Rattle.machine_state.specs.Steps.{IsCallFault, with_call_on}
use Rattle.machine_laws.proofs.DurableAssured.{lent_cases, rebuilt, told, view_set}
use Rattle.machine_laws.proofs.SegmentStates.{All-both}
use Rattle.machine_state.proofs.Tapes.{counted_on, on_tape, tape_behind, began_behind, at_suited}
use Rattle.machine_laws.proofs.DurableTapes.{IsUnwritten-behind, TapeAssures-behind, counted_behind, moment_rises}
use Rattle.machine_state.specs.Suited.{tape_from, BeganSuited, IfSuited}

-- a call leaves of the writer all but its tape, its moment and its fault
pub same_written : (call : Call) (outcome : CallOutcome) (w : Plain)
    → (with_outcome call outcome w).written ≡ w.written
same_written call Done w = refl
same_written call (Failed faults none) w = refl
same_written call (Failed faults (some made)) w = refl

pub same_made : (call : Call) (outcome : CallOutcome) (w : Plain)
    → (with_outcome call outcome w).made ≡ w.made
same_made call Done w = refl
same_made call (Failed faults none) w = refl
same_made call (Failed faults (some made)) w = refl

-- a fault that is told is one of this call
pub fault_rose : (v : View) (call : Call) (outcome : CallOutcome) (w : Plain) → w.fault ≡ none
    → IsCallFault v outcome → (f : ℕ) → (with_outcome call outcome w).fault ≡ some f
    → Rose (v.opening).faults f
fault_rose v call Done w up rose f is = absurd (some-ne-none f (sym is ∙ up))
fault_rose v call (Failed faults none) w up rose f is =
    subst (Rose (v.opening).faults) (some-injective faults f is) rose
fault_rose v call (Failed faults (some made)) w up rose f is =
    subst (Rose (v.opening).faults) (some-injective faults f is) rose

-- the writer behind the call
pub record ComesBehind (call : Call) (outcome : CallOutcome) (w n : Plain) : Type 0 where
  pub calls : n.calls ≡ (with_outcome call outcome w).calls
  pub moment : n.moment ≡ (with_outcome call outcome w).moment
  pub rises : w.written ≤ n.written

module _ {first : DiskState} (o : Opening) (order : List Entry) (flushed moment down : ℕ) (home : _)
    (w : Plain) (parts : List Receipts)
    (h : DurabilityHolds first o order flushed moment down home w parts)
    (low : flushed ≤ w.written) (call : Call) (outcome : CallOutcome) (n : Plain)
    (is : ComesBehind call outcome w n)
    (lawful : CallFits (o.setup).seg_size (IsLawfulAt o order) call)
    (fits : (a : ℕ) → a ≤ w.written
    → CallFits (o.setup).seg_size (IsLogBelow o order a) call) where
  abbrev size : ℕ
  size = (o.setup).seg_size

  behind : (Q : Tape → Type 0)
      → ((t : Tape) → tape_from first w.calls ≡ Some t → Q (tape_behind outcome call t)) → IfSome (tape_from first n.calls) Q
  behind Q f = subst (λ (p : Option (List Call)). IfSome (tape_from first p) Q) (sym is.calls)
      (on_tape first Q call outcome w f)

  counts : (t : Tape) → tape_from first w.calls ≡ Some t → w.moment ≡ length t.calls
  counts t there = counted_on first w.moment w.calls t there h.counted

  suited_behind : (Q : Tape → Type 0)
      → ((t : Tape) → tape_from first w.calls ≡ Some t → BeganSuited o t → Q (tape_behind outcome call t))
      → IfSuited first o n Q
  suited_behind Q f = behind (λ t. BeganSuited o t → Q t) (λ t there suited. f t there
      (began_behind o call outcome t (omega (arith, h.begun, h.moment_low, counts t there)) suited))

  firm_behind : (upto from : ℕ) → upto ≤ w.written
      → IfSuited first o w (IsFirm o order upto from)
      → IfSuited first o n (IsFirm o order upto from)
  firm_behind upto from under firm = suited_behind (IsFirm o order upto from)
      (λ t there suited.
      TapeAssures-behind size (IsMadeUpto size upto) (IsLogBelow o order upto) call outcome
      from t (fits upto under)
      (at_suited first o w (IsFirm o order upto from) t there suited firm))

  kept_behind : (t : Tape) → tape_from first w.calls ≡ Some t → (es : List Entry) (p : FlushPromise)
      → IsPromiseKept o order t es p → IsPromised flushed moment p
      → IsPromiseKept o order (tape_behind outcome call t) es p
  kept_behind t there es p kept promised = record {
    since = kept.since;
    firm = TapeAssures-behind size (IsMadeUpto size p.upto) (IsLogBelow o order p.upto) call
        outcome p.moment t (fits p.upto (omega (arith, promised.upto_low))) kept.firm;
    later = λ k e from got. IsUnwritten-behind size o.moment p.moment call outcome t e
        (omega (arith, promised.moment_low, h.moment_low, counts t there))
        (kept.later k e from got);
  }

  in_hand_behind : (l : Lent) → IsInHand first o order moment w l → IsInHand first o order moment n l
  in_hand_behind l i = record {
    staged = i.staged;
    hard_low = omega (arith, i.hard_low, is.rises);
    moment_low = i.moment_low;
    since = i.since;
    firm = λ some_hard. firm_behind l.hard l.hard_moment i.hard_low (i.firm some_hard);
  }

  assured_behind : (x : Receipts) → IsToldRightly first o order flushed moment down w x
      → IsToldRightly first o order flushed moment down n x
  assured_behind x a = record {
    own_promised = a.own_promised;
    joined_promised = a.joined_promised;
    own = suited_behind (λ t. AreKept o order t x.entries (x.writing).promises)
        (λ t there suited.
        All-both (IsPromiseKept o order t x.entries) (IsPromised flushed moment)
        (IsPromiseKept o order (tape_behind outcome call t) x.entries)
        (kept_behind t there x.entries) (x.writing).promises
        (at_suited first o w (λ t. AreKept o order t x.entries (x.writing).promises) t there suited a.own)
        a.own_promised);
    joined = suited_behind
        (λ t. All (λ (j : Joined). AreKept o order t j.entries j.promises) x.joined)
        (λ t there suited. All-both (λ (j : Joined). AreKept o order t j.entries j.promises)
        (λ (j : Joined). All (IsPromised flushed moment) j.promises)
        (λ (j : Joined). AreKept o order (tape_behind outcome call t) j.entries j.promises)
        (λ j kept promised. All-both (IsPromiseKept o order t j.entries) (IsPromised flushed moment)
        (IsPromiseKept o order (tape_behind outcome call t) j.entries)
        (kept_behind t there j.entries) j.promises kept promised) x.joined
        (at_suited first o w
        (λ t. All (λ (j : Joined). AreKept o order t j.entries j.promises) x.joined) t there suited
        a.joined) a.joined_promised);
    in_hand = λ l out. in_hand_behind l (a.in_hand l out);
    down_met = a.down_met;
    down_set = a.down_set;
    up_in_hand = a.up_in_hand;
  }

  module _ (reached : n.written ≤ n.made * (o.setup).seg_size + (o.setup).seg_size)
      (made : IfSome n.calls (IsMadeInTurn o n))
      (disk : (t : Tape) → tape_from first w.calls ≡ Some t → BeganSuited o t → IsOnDisk o order w t
      → IsOnDisk o order n (tape_behind outcome call t))
      (up : w.fault ≡ none) (away : home ≡ none)
      (rose : (f : ℕ) → n.fault ≡ some f → Rose o.faults f) where
    all_behind : DurabilityHolds first o order flushed moment down home n parts
    all_behind = record {
      counted = subst (λ (x : ℕ × Option (List Call)). IfSome x.1 (λ calls. x.0 ≡ length calls))
          (λ j. (sym is.moment j, sym is.calls j)) (counted_behind call outcome w h.counted);
      moment_low = omega (arith, h.moment_low, moment_rises call outcome w, is.moment);
      begun = h.begun;
      reached = reached;
      made = made;
      lawful = suited_behind (TapeAssures size IsNowhere (IsLawfulAt o order) o.moment)
          (λ t there suited. TapeAssures-behind size IsNowhere
          (IsLawfulAt o order) call outcome
          o.moment t lawful
          (at_suited first o w (TapeAssures size IsNowhere (IsLawfulAt o order) o.moment) t there
          suited h.lawful));
      found_low = h.found_low;
      found = firm_behind (found_end o) o.moment (omega (arith, h.found_low, low)) h.found;
      firm = firm_behind flushed moment low h.firm;
      on_disk = suited_behind (IsOnDisk o order n) (λ t there suited. disk t there suited
          (at_suited first o w (IsOnDisk o order w) t there suited h.on_disk));
      down_is = λ is_down. absurd (some-ne-none down (sym (h.down_is is_down) ∙ up));
      down_at_home = λ at_home. absurd (some-ne-none n (sym at_home ∙ away));
      set_once = h.set_once;
      fault_rose = rose;
      views = λ j x at. assured_behind x (h.views j x at);
    }

    -- of all views, where the one that has the writer keeps the new one
    pub call_keeps : (f : Plain → Plain) (id : ℕ) (v : View) (l : Lent)
        → HasAt parts id (receipts_of v) → (v.writing).hold ≡ Out l
        → DurabilityHolds first o order flushed moment down home n
        (set parts id (receipts_of (with_call_on v f (v.writing).hold)))
    call_keeps f id v l here out =
        let g = λ (m : Lent). record m { writer = f l.writer } in
        let x = record v.writing { hold = with_lent g v.writing.hold } in
        let now = assured_behind (receipts_of v) (h.views id (receipts_of v) here) in
        subst (λ (hold : Hold). DurabilityHolds first o order flushed moment down home n
        (set parts id (receipts_of (with_call_on v f hold)))) (sym out)
        (view_set first o order flushed moment down n home parts id (receipts_of v)
        (told v.reserving.entries v.reserving.joined x) all_behind here refl
        (rebuilt first o order flushed moment down n v.reserving.entries v.reserving.joined v.writing x
        refl refl refl now
        (lent_cases g (IsInHand first o order moment n) v.writing.hold (λ m has.
        let i = now.in_hand m has in record {
          staged = i.staged;
          hard_low = i.hard_low;
          moment_low = i.moment_low;
          since = i.since;
          firm = i.firm;
        }))
        (lent_cases g (λ _. v.writing.down_met ≡ 0 → v.writing.down_set ≡ 0 → down ≡ 0)
        v.writing.hold (λ m has. now.up_in_hand m has))))
