-- What is said of one view, behind a step that changes it.
use Rattle.std.proofs.Common.{◌≡◌, ◌≢◌, ℕ, ◌+◌, ◌≤◌, inl, inr, All, List, [], ◌∷◌, ◌++◌, length, max, set, refl, sym, ap, subst, ◌∙◌, arith}
use Rattle.std.proofs.lemmas.Bool.{cases_lt}
use Rattle.std.proofs.lemmas.List.Elements.{All-append, All-cons, All-nil, All-push, All-weaker}
use Rattle.std.proofs.lemmas.Option.{none-some, slice_get_past}
use mathlib.Core.Option.{none, some}
use Rattle.segment_disk.specs.Tape.{DiskState, Tape}
use Rattle.wal_page.specs.Order.{Entry}
use Rattle.machine_state.specs.Words.{Opening}
use Rattle.machine_state.specs.Views.{HasAt, Hold, Idle, Turned, Out, Joined, Lent, Plain, FlushPromise, Receipts, Writing}
use Rattle.machine_state.specs.Moves.{no_writing, with_lent}
use Rattle.machine_state.specs.Locked.{StandsTo}
use Rattle.machine_state.specs.Durable.{AreKept, DurabilityHolds, IsToldRightly, IsFirm, IsInHand, IsPromiseKept, IsPromised, setters, setters_of}
use Rattle.machine_laws.proofs.Setters.{setters_added, setters_moved, setters_still}
use Rattle.machine_state.proofs.Lists.{one_added, one_set}
use Rattle.machine_state.proofs.Tapes.{told_suited, at_suited}
use Rattle.machine_state.specs.Suited.{IfSuited}

-- a pass's part, by its own parts
abbrev pub told : List Entry → List Joined → Writing → Receipts
told entries joined writing =
    record { entries = entries; joined = joined; writing = writing }

-- the writer of a view that has it in hand, and of one that has the turn alone
module _ (turn holder : ℕ) (home : _) (writer : Plain) (id number : ℕ) where
  pub stands_out : (hold : Hold) (l : Lent) → hold ≡ Out l
      → StandsTo turn holder home writer id number hold → (home ≡ none) × (l.writer ≡ writer)
  stands_out Idle l is stands = absurd (cc)
  stands_out Turned l is stands = absurd (cc)
  stands_out (Out m) l is stands = let same : m ≡ l = cc in
      (stands.2, ap (λ (n : Lent). n.writer) (sym same) ∙ stands.3)

  pub out_holds : (hold : Hold) (l : Lent) → hold ≡ Out l
      → StandsTo turn holder home writer id number hold → holder ≡ id
  out_holds Idle l is stands = absurd (cc)
  out_holds Turned l is stands = absurd (cc)
  out_holds (Out m) l is stands = stands.1

  pub stands_turned : (hold : Hold) → hold ≡ Turned
      → StandsTo turn holder home writer id number hold → home ≡ some writer
  stands_turned Idle is stands = absurd (cc)
  stands_turned Turned is stands = stands.2
  stands_turned (Out m) is stands = absurd (cc)

-- what holds of what a view with the writer in hand has then
pub lent_cases : (f : Lent → Lent) (P : Lent → Type 0) (hold : Hold)
    → ((m : Lent) → hold ≡ Out m → P (f m)) → (l : Lent) → with_lent f hold ≡ Out l → P l
lent_cases f P Idle g l is = absurd (cc)
lent_cases f P Turned g l is = absurd (cc)
lent_cases f P (Out m) g l is = let same : f m ≡ l = cc in subst P same (g m refl)

module _ (first : DiskState) (opening : Opening) (order : List Entry) (flushed moment down : ℕ) (writer : Plain) where
  abbrev Is : Receipts → Type 0
  Is x = IsToldRightly first opening order flushed moment down writer x

  abbrev IsHeld : Lent → Type 0
  IsHeld l = IsInHand first opening order moment writer l

  -- with another of what is loaded, and in hand
  pub rebuilt : (es : List Entry) (js : List Joined) (x y : Writing) → y.promises ≡ x.promises
      → y.down_met ≡ x.down_met → y.down_set ≡ x.down_set → Is (told es js x)
      → ((l : Lent) → y.hold ≡ Out l → IsHeld l)
      → ((l : Lent) → y.hold ≡ Out l → x.down_met ≡ 0 → x.down_set ≡ 0 → down ≡ 0)
      → Is (told es js y)
  rebuilt es js x y promises met set_to a held up = record {
    own_promised = subst (λ (ps : List FlushPromise). All (IsPromised flushed moment) ps)
        (sym promises) a.own_promised;
    joined_promised = a.joined_promised;
    own = subst (λ (ps : List FlushPromise). IfSuited first opening writer
        (λ t. AreKept opening order t es ps))
        (sym promises) a.own;
    joined = a.joined;
    in_hand = held;
    down_met = subst (λ (n : ℕ). n ≢ 0 → n ≡ down) (sym met) a.down_met;
    down_set = subst (λ (n : ℕ). n ≢ 0 → n ≡ down) (sym set_to) a.down_set;
    up_in_hand = λ l is none_met none_set. up l is (sym met ∙ none_met) (sym set_to ∙ none_set);
  }

  -- a down value that was met; one that is set, behind which it is another one
  pub met_down : (es : List Entry) (js : List Joined) (x : Writing) → Is (told es js x)
      → Is (told es js (record x { down_met = down }))
  met_down es js x a = record {
    own_promised = a.own_promised;
    joined_promised = a.joined_promised;
    own = a.own;
    joined = a.joined;
    in_hand = a.in_hand;
    down_met = λ _. refl;
    down_set = a.down_set;
    up_in_hand = λ l is none_met none_set. none_met;
  }

  pub did_set_down : (es : List Entry) (js : List Joined) (x : Writing) (faults : ℕ)
      → x.down_met ≡ 0 → Is (told es js x) → IsToldRightly first opening order flushed moment faults
      writer (told es js (record x { down_set = faults }))
  did_set_down es js x faults no_met a = record {
    own_promised = a.own_promised;
    joined_promised = a.joined_promised;
    own = a.own;
    joined = a.joined;
    in_hand = a.in_hand;
    down_met = λ some_met. absurd (some_met no_met);
    down_set = λ _. refl;
    up_in_hand = λ l is none_met none_set. none_set;
  }

  max_down : (a b : ℕ) → (a ≢ 0 → a ≡ down) → (b ≢ 0 → b ≡ down) → max a b ≢ 0 → max a b ≡ down
  max_down a b first second some_one = elim (cases_lt a b) [
    | inl less ↦ omega (arith, second (λ none. omega arith))
    | inr not_less ↦ omega (arith, first (λ none. some_one (omega arith)))
  ]

  -- the writer is taken in hand, and with it the knowledge of its fault
  pub taken_out : (es : List Entry) (js : List Joined) (x : Writing) (l : Lent) (number : ℕ)
      → number ≡ down → IsHeld l → Is (told es js x)
      → Is (told es js (record x { down_met = max x.down_met number; hold = Out l }))
  taken_out es js x l number is held a = record {
    own_promised = a.own_promised;
    joined_promised = a.joined_promised;
    own = a.own;
    joined = a.joined;
    in_hand = λ m same. let taken : l ≡ m = cc in subst IsHeld taken held;
    down_met = max_down x.down_met number a.down_met (λ some. is);
    down_set = a.down_set;
    up_in_hand = λ m same none_met none_set. omega (arith, none_met, is);
  }

  -- a promise more
  abbrev promise : ℕ → ℕ → List Entry → FlushPromise
  promise upto from es = record { upto = upto; moment = from; entries = length es }

  is_kept : (upto from : ℕ) (es : List Entry) (t : Tape) → opening.moment ≤ from
      → IsFirm opening order upto from t → IsPromiseKept opening order t es
      (promise upto from es)
  is_kept upto from es t begun firm = record {
    since = begun;
    firm = firm;
    later = λ k e past there.
        absurd (none-some e (sym (slice_get_past es k past) ∙ there));
  }

  pub is_promised : (upto from : ℕ) (es : List Entry) (js : List Joined) (x : Writing)
      → opening.moment ≤ from → from ≤ moment → upto ≤ flushed
      → IfSuited first opening writer (IsFirm opening order upto from) → Is (told es js x)
      → Is (told es js (record x { promises = x.promises ++ promise upto from es ∷ [] }))
  is_promised upto from es js x begun past low firm a = record {
    own_promised = All-push (IsPromised flushed moment) x.promises (promise upto from es)
        a.own_promised (record { upto_low = low; moment_low = past });
    joined_promised = a.joined_promised;
    own = told_suited first opening writer (λ t is suited. All-push
        (IsPromiseKept opening order t es) x.promises
        (promise upto from es)
        (at_suited first opening writer (λ t. AreKept opening order t es x.promises) t is suited a.own)
        (is_kept upto from es t begun
        (at_suited first opening writer (IsFirm opening order upto from) t is suited firm)));
    joined = a.joined;
    in_hand = a.in_hand;
    down_met = a.down_met;
    down_set = a.down_set;
    up_in_hand = a.up_in_hand;
  }

  -- a pass that begins, or was taken in
  pub is_new : Is (told [] [] no_writing)
  is_new = record {
    own_promised = All-nil (IsPromised flushed moment);
    joined_promised = All-nil (λ (j : Joined). All (IsPromised flushed moment) j.promises);
    own = told_suited first opening writer (λ t is suited. All-nil (IsPromiseKept opening order t []));
    joined = told_suited first opening writer (λ t is suited.
        All-nil (λ (j : Joined). AreKept opening order t j.entries j.promises));
    in_hand = λ l is. absurd (cc);
    down_met = λ some_met. absurd (some_met refl);
    down_set = λ some_set. absurd (some_set refl);
    up_in_hand = λ l is. absurd (cc);
  }

  -- with another list of views
  pub with_views : (home : _) (parts others : List Receipts)
      → DurabilityHolds first opening order flushed moment down home writer parts
      → ((id : ℕ) (x : Receipts) → HasAt others id x → Is x) → setters others ≡ setters parts
      → DurabilityHolds first opening order flushed moment down home writer others
  with_views home parts others h views as_many = record {
    counted = h.counted;
    moment_low = h.moment_low;
    begun = h.begun;
    reached = h.reached;
    made = h.made;
    lawful = h.lawful;
    found_low = h.found_low;
    found = h.found;
    firm = h.firm;
    on_disk = h.on_disk;
    down_is = h.down_is;
    down_at_home = h.down_at_home;
    set_once = as_many ∙ h.set_once;
    fault_rose = h.fault_rose;
    views = views;
  }

  pub view_set : (home : _) (parts : List Receipts) (id : ℕ) (was x : Receipts)
      → DurabilityHolds first opening order flushed moment down home writer parts
      → HasAt parts id was → setters_of x ≡ setters_of was → Is x
      → DurabilityHolds first opening order flushed moment down home writer (set parts id x)
  view_set home parts id was x h here as_many is = with_views home parts (set parts id x) h
      (one_set (λ _ y. Is y) parts id x (λ j y other at. h.views j y at) is)
      (setters_still parts id was x here as_many)

  pub view_added : (home : _) (parts : List Receipts) (x : Receipts)
      → DurabilityHolds first opening order flushed moment down home writer parts
      → setters_of x ≡ 0 → Is x
      → DurabilityHolds first opening order flushed moment down home writer (parts ++ x ∷ [])
  view_added home parts x h sets_none is = with_views home parts (parts ++ x ∷ []) h
      (one_added (λ _ y. Is y) parts x h.views is)
      (let more = setters_added parts x in omega (arith, more, sets_none))

  -- a pass takes another one in
  pub is_taken_in : (home : _) (parts : List Receipts) (id other : ℕ) (x y gone both : Receipts)
      → DurabilityHolds first opening order flushed moment down home writer parts
      → HasAt parts id x → HasAt parts other y → id ≢ other → setters_of gone ≡ 0
      → setters_of both ≡ setters_of x + setters_of y → Is gone → Is both
      → DurabilityHolds first opening order flushed moment down home writer
      (set (set parts other gone) id both)
  is_taken_in home parts id other x y gone both h here there apart no_more sum empty is =
      with_views home parts (set (set parts other gone) id both) h
      (one_set (λ _ z. Is z) (set parts other gone) id both
      (λ j z not_this at. one_set (λ _ u. Is u) parts other gone
      (λ i u not_other found. h.views i u found) empty j z at) is)
      (setters_moved parts id other x y gone both here there apart no_more sum)

  pub is_joined : (es fs : List Entry) (js ks : List Joined) (x y : Writing) (number : ℕ)
      (stops : _) → Is (told es js x) → Is (told fs ks y)
      → (let j : Joined = record {
        number = number;
        entries = fs;
        stops = stops;
        promises = y.promises;
        down_set = y.down_set;
      } in Is (told es (js ++ j ∷ ks) (record x {
        down_met = max x.down_met (max y.down_met y.down_set);
      })))
  is_joined es fs js ks x y number stops a b =
      let j : Joined = record {
        number = number;
        entries = fs;
        stops = stops;
        promises = y.promises;
        down_set = y.down_set;
      } in
      let Promised : Joined → Type 0 = λ j. All (IsPromised flushed moment) j.promises in
      record {
        own_promised = a.own_promised;
        joined_promised = All-append Promised js (j ∷ ks) a.joined_promised
            (All-cons Promised j ks b.own_promised b.joined_promised);
        own = a.own;
        joined = told_suited first opening writer (λ t is suited.
            let Kept : Joined → Type 0 = λ j. AreKept opening order t j.entries j.promises in
            All-append Kept js (j ∷ ks) (at_suited first opening writer (λ t.
            All (λ (j : Joined). AreKept opening order t j.entries j.promises) js)
            t is suited a.joined)
            (All-cons Kept j ks
            (at_suited first opening writer
            (λ t. AreKept opening order t fs y.promises) t is suited b.own)
            (at_suited first opening writer (λ t.
            All (λ (j : Joined). AreKept opening order t j.entries j.promises) ks)
            t is suited b.joined)));
        in_hand = a.in_hand;
        down_met = max_down x.down_met (max y.down_met y.down_set) a.down_met
            (max_down y.down_met y.down_set b.down_met b.down_set);
        down_set = a.down_set;
        up_in_hand = λ l is none_met none_set. a.up_in_hand l is (omega (arith, none_met)) none_set;
      }

  -- ---- with other words

  pub with_down : (other : ℕ) (x : Receipts) → (down ≢ 0 → down ≡ other)
      → ((l : Lent) → (x.writing).hold ≡ Out l → ⊥) → Is x
      → IsToldRightly first opening order flushed moment other writer x
  with_down other x same idle a = record {
    own_promised = a.own_promised;
    joined_promised = a.joined_promised;
    own = a.own;
    joined = a.joined;
    in_hand = a.in_hand;
    down_met = λ some_met. let is = a.down_met some_met in
        is ∙ same (λ zero. some_met (is ∙ zero));
    down_set = λ some_set. let is = a.down_set some_set in
        is ∙ same (λ zero. some_set (is ∙ zero));
    up_in_hand = λ l is. absurd (idle l is);
  }

  promised_later : (higher later : ℕ) → flushed ≤ higher → moment ≤ later → (ps : List FlushPromise)
      → All (IsPromised flushed moment) ps → All (IsPromised higher later) ps
  promised_later higher later up low ps all =
      All-weaker (IsPromised flushed moment) (IsPromised higher later)
      (λ p is. record {
        upto_low = omega (arith, is.upto_low);
        moment_low = omega (arith, is.moment_low);
      }) ps all

  pub with_words : (higher later : ℕ) (x : Receipts) → flushed ≤ higher → moment ≤ later → Is x
      → IsToldRightly first opening order higher later down writer x
  with_words higher later x up low a = record {
    own_promised = promised_later higher later up low (x.writing).promises a.own_promised;
    joined_promised = All-weaker (λ (j : Joined). All (IsPromised flushed moment) j.promises)
        (λ (j : Joined). All (IsPromised higher later) j.promises)
        (λ j all. promised_later higher later up low j.promises all) x.joined a.joined_promised;
    own = a.own;
    joined = a.joined;
    in_hand = λ l is. let i = a.in_hand l is in record {
      staged = i.staged;
      hard_low = i.hard_low;
      moment_low = omega (arith, i.moment_low, low);
      since = i.since;
      firm = i.firm;
    };
    down_met = a.down_met;
    down_set = a.down_set;
    up_in_hand = a.up_in_hand;
  }
