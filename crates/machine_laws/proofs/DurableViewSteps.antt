-- Steps that change one view, or add or take one, and of the words and the writer at most the
-- moment, the flushed address, the down value, and where the writer is.
use Rattle.std.proofs.Common.{◌≡◌, ◌≢◌, ℕ, ◌≤◌, inl, inr, Bool, true, false, List, [], ◌∷◌, ◌++◌, set, refl, sym, ap, subst, ◌∙◌, ◌==◌, if◌then◌else◌, arith}
use Rattle.std.proofs.lemmas.List.Elements.{All-cons, All-nil}
use Rattle.std.proofs.lemmas.Option.{IfSome_then}
use mathlib.Core.Option.{Option, none, some, some-injective, some-ne-none}
use Rattle.segment_disk.specs.Tape.{DiskState}
use Rattle.segment_disk.specs.Assured.{IsMadeUpto}
use Rattle.flush_core.proofs.LeftLaws.{TapeAssures-now}
use Rattle.wal_page.specs.Order.{Entry}
use Rattle.machine_state.specs.Words.{Opening}
use Rattle.machine_state.specs.Views.{HasAt, Hold, Idle, Turned, Out, Joined, Lent, Plain, Receipts, View, receipts_of, writer_of}
use Rattle.machine_state.specs.Moves.{fault_number, joined_of, lent, after_join, after_split, no_writing, orphan_of, split_off, spent, with_hold, with_lent, without_work, after_load_down, after_load_flushed, after_load_moment, after_load_word, after_load_written, after_set_down, after_slot_out, after_store_flushed, after_store_moment, after_store_written, after_take_write_turn, hardened}
use Rattle.machine_state.specs.Locked.{IsWriteTurn}
use Rattle.machine_state.specs.Durable.{DurabilityHolds, one_if_some, setters_of, IsToldRightly, IsFirm, IsInHand, IsLogBelow, IsOnDisk, IsStaged}
use Rattle.machine_state.specs.Steps.{MayStep, home_behind, number_lent, returned, value_behind, view_behind, with_slot, set_down, slot_in, slot_out, store_flushed, store_moment}
use Rattle.machine_laws.proofs.DurableAssured.{did_set_down, with_down, with_words, is_joined, is_new, is_promised, is_taken_in, lent_cases, met_down, rebuilt, stands_out, stands_turned, taken_out, told, view_added, view_set}
use Rattle.machine_laws.proofs.Setters.{setters_append, setters_low, setters_set}
use Rattle.machine_laws.proofs.DurableGrowth.{IsFirm-lower}
use Rattle.machine_state.proofs.Lists.{one_set}
use Rattle.std.proofs.lemmas.Bool.{cases_eq}
use Rattle.machine_state.proofs.Tapes.{counted_on, told_suited, at_suited}
use Rattle.machine_laws.proofs.DurableTapes.{TapeAssures-later}
use Rattle.machine_state.specs.Suited.{tape_from, IfSuited}

-- no view but this one has the writer in hand
abbrev pub IsAloneOut : List Receipts → ℕ → Type 0
IsAloneOut parts id = (j : ℕ) (x : Receipts) (l : Lent) → HasAt parts j x
    → (x.writing).hold ≡ Out l → j ≡ id

module _ {first : DiskState} (o : Opening) (order : List Entry) (flushed moment down : ℕ) (home : Option Plain)
    (writer : Plain) (parts : List Receipts)
    (h : DurabilityHolds first o order flushed moment down home writer parts) where
  abbrev Holds : List Receipts → Type 0
  Holds views = DurabilityHolds first o order flushed moment down home writer views

  abbrev Is : Receipts → Type 0
  Is x = IsToldRightly first o order flushed moment down writer x

  module _ (id : ℕ) (v : View) (here : HasAt parts id (receipts_of v)) where
    was : Is (receipts_of v)
    was = h.views id (receipts_of v) here

    abbrev es : List Entry
    es = v.reserving.entries

    abbrev js : List Joined
    js = v.reserving.joined

    one : (x : Receipts) → setters_of x ≡ setters_of (receipts_of v) → Is x
        → Holds (set parts id x)
    one x as_many is = view_set first o order flushed moment down writer home parts id
        (receipts_of v) x h here as_many is

    -- nothing in hand
    empty_handed : (hold : Hold) → ((l : Lent) → hold ≡ Out l → ⊥)
        → Holds (set parts id (told es js (record v.writing { hold = hold })))
    empty_handed hold nothing = one (told es js (record v.writing { hold = hold })) refl
        (rebuilt first o order flushed moment down writer es js v.writing
        (record v.writing { hold = hold }) refl refl refl was
        (λ l is. absurd (nothing l is)) (λ l is. absurd (nothing l is)))

    pub same : Holds (set parts id (receipts_of v))
    same = one (receipts_of v) refl was

    pub load_written_keeps : (met : ℕ) → Holds (set parts id (receipts_of (after_load_written met v)))
    load_written_keeps met = one (told es js (record v.writing { written = met })) refl
        (rebuilt first o order flushed moment down writer es js v.writing
        (record v.writing { written = met }) refl refl refl was was.in_hand was.up_in_hand)

    pub load_flushed_keeps : (met : ℕ) → Holds (set parts id (receipts_of (after_load_flushed met v)))
    load_flushed_keeps met = one (told es js (record v.writing { flushed = met })) refl
        (rebuilt first o order flushed moment down writer es js v.writing
        (record v.writing { flushed = met }) refl refl refl was was.in_hand was.up_in_hand)

    pub load_moment_keeps : v.writing.flushed ≤ flushed
        → Holds (set parts id (receipts_of (after_load_moment moment v)))
    load_moment_keeps low = one (receipts_of (after_load_moment moment v)) refl
        (is_promised first o order flushed moment down writer v.writing.flushed moment es js v.writing
        h.begun (omega arith) low
        (IfSome_then (tape_from first writer.calls) h.firm (λ t firm suited.
        IsFirm-lower o order v.writing.flushed flushed moment t low (firm suited))) was)

    pub load_down_keeps : Holds (set parts id (receipts_of (after_load_down down v)))
    load_down_keeps = one (receipts_of (after_load_down down v)) refl
        (met_down first o order flushed moment down writer es js v.writing was)

    pub take_turn_keeps : (met : ℕ) → Holds (set parts id (receipts_of (after_take_write_turn met v)))
    take_turn_keeps met = by_test (met == 0)
      where
        by_test : (b : Bool)
            → Holds (set parts id (receipts_of (if b then with_hold Turned v else v)))
        by_test true = empty_handed Turned (λ l is. absurd (cc))
        by_test false = same

    pub release_turn_keeps : Holds (set parts id (receipts_of (with_hold Idle v)))
    release_turn_keeps = empty_handed Idle (λ l is. absurd (cc))

    -- with the writer in hand, where nothing was met or set
    still_up : (f : Lent → Lent) (l : Lent) → with_lent f v.writing.hold ≡ Out l
        → v.writing.down_met ≡ 0 → v.writing.down_set ≡ 0 → down ≡ 0
    still_up f = lent_cases f (λ _. v.writing.down_met ≡ 0 → v.writing.down_set ≡ 0 → down ≡ 0)
        v.writing.hold (λ m has. was.up_in_hand m has)

    -- with the writer in hand, where what is said of it stays
    in_hand_keeps : (f : Lent → Lent)
        → ((m : Lent) → v.writing.hold ≡ Out m → IsInHand first o order moment writer (f m))
        → Holds (set parts id (told es js
        (record v.writing { hold = with_lent f v.writing.hold })))
    in_hand_keeps f stays =
        one (told es js (record v.writing { hold = with_lent f v.writing.hold })) refl
        (rebuilt first o order flushed moment down writer es js v.writing
        (record v.writing { hold = with_lent f v.writing.hold }) refl refl refl was
        (lent_cases f (IsInHand first o order moment writer) v.writing.hold stays)
        (still_up f))

    pub store_written_keeps : Holds (set parts id (receipts_of (after_store_written v)))
    store_written_keeps = in_hand_keeps (λ l. record l { stored = (l.writer).written })
        (λ m is. let i = was.in_hand m is in record {
          staged = i.staged;
          hard_low = i.hard_low;
          moment_low = i.moment_low;
          since = i.since;
          firm = i.firm;
        })

    pub load_word_keeps : (k met : ℕ)
        → ((m : Lent) → v.writing.hold ≡ Out m → IsStaged o order m.known (k, met))
        → Holds (set parts id (receipts_of (after_load_word k met v)))
    load_word_keeps k met staged =
        in_hand_keeps (λ l. record l { staged = (k, met) ∷ l.staged })
        (λ m is. let i = was.in_hand m is in record {
          staged = All-cons (IsStaged o order m.known) (k, met) m.staged
              (staged m is) i.staged;
          hard_low = i.hard_low;
          moment_low = i.moment_low;
          since = i.since;
          firm = i.firm;
        })

    -- with the writer at home, or away
    rehomed : (elsewhere : Option Plain) (others : List Receipts)
        → (elsewhere ≡ some writer → down ≡ 0 → writer.fault ≡ none) → Holds others
        → DurabilityHolds first o order flushed moment down elsewhere writer others
    rehomed elsewhere others at_home g = record {
      counted = g.counted;
      moment_low = g.moment_low;
      begun = g.begun;
      reached = g.reached;
      made = g.made;
      lawful = g.lawful;
      found_low = g.found_low;
      found = g.found;
      firm = g.firm;
      on_disk = g.on_disk;
      down_is = g.down_is;
      down_at_home = at_home;
      set_once = g.set_once;
      fault_rose = g.fault_rose;
      views = g.views;
    }

    -- with the writer's turn
    module _ (turn : ℕ) (writers : List (ℕ × Hold)) (has : IsWriteTurn turn home writer writers)
        (at : HasAt writers id (writer_of v)) where
      held : (l : Lent) → v.writing.hold ≡ Out l → (home ≡ none) × (l.writer ≡ writer)
      held l is = stands_out turn has.holder home writer id v.reserving.number v.writing.hold l is
          (has.each id (writer_of v) at)

      -- a writer at home has failed with what down tells
      home_fault : home ≡ some writer → fault_number writer.fault ≡ down
      home_fault there = elim (cases_eq down 0) [
        | inl zeros ↦ ap fault_number (h.down_at_home there zeros) ∙ sym zeros
        | inr is_down ↦ ap fault_number (h.down_is is_down)
      ]

      nothing_loaded : home ≡ some writer
          → Holds (set parts id (receipts_of (after_slot_out writer v)))
      nothing_loaded there = one (receipts_of (after_slot_out writer v)) refl
          (taken_out first o order flushed moment down writer es js v.writing (lent writer v)
          (fault_number writer.fault) (home_fault there) (record {
            staged = All-nil (IsStaged o order (lent writer v).known);
            hard_low = omega arith;
            moment_low = omega arith;
            since = λ some_hard. absurd (some_hard refl);
            firm = λ some_hard. absurd (some_hard refl);
          }) was)

      pub slot_out_keeps : (met : ℕ) → MayStep v slot_out
          → DurabilityHolds first o order flushed moment down (home_behind v slot_out home) writer
          (set parts id (receipts_of (view_behind v slot_out met home)))
      slot_out_keeps met may =
          let there : home ≡ some writer = stands_turned turn has.holder home writer id
          v.reserving.number v.writing.hold may (has.each id (writer_of v) at) in
          subst (λ (p : Option Plain). DurabilityHolds first o order flushed moment down none writer
          (set parts id (receipts_of (with_slot v p)))) (sym there)
          (rehomed none (set parts id (receipts_of (after_slot_out writer v)))
          (λ is. absurd (cc)) (nothing_loaded there))

      pub slot_in_keeps : (met : ℕ) → MayStep v slot_in
          → DurabilityHolds first o order flushed moment down (home_behind v slot_in home) writer
          (set parts id (receipts_of (view_behind v slot_in met home)))
      slot_in_keeps met may =
          let l = may.0 in
          let own = (held l may.1).1 in
          let back : returned v v.writing.hold home ≡ some writer =
          ap (λ (hold : Hold). returned v hold home) may.1 ∙ ap some own in
          subst (λ (p : Option Plain). DurabilityHolds first o order flushed moment down p writer
          (set parts id (receipts_of (with_hold Turned v)))) (sym back)
          (rehomed (some writer) (set parts id (receipts_of (with_hold Turned v)))
          (λ _ up. elim may.2 [
            | inl done ↦ ap (λ (p : Plain). p.fault) (sym own) ∙ done.0
            | inr (inl met) ↦ absurd (met (was.down_met met ∙ up))
            | inr (inr set) ↦ absurd (set (was.down_set set ∙ up))
          ])
          (empty_handed Turned (λ m is. absurd (cc))))

      pub set_down_keeps : IsAloneOut parts id → (met : ℕ) → MayStep v set_down
          → DurabilityHolds first o order flushed moment (value_behind v set_down met) home writer
          (set parts id (receipts_of (view_behind v set_down met home)))
      set_down_keeps alone met may =
          let l = may.0 in
          let faults = may.2.0 in
          let holds = held l may.1 in
          let fault : writer.fault ≡ some faults =
          ap (λ (p : Plain). p.fault) (sym holds.1) ∙ may.2.1 in
          let number : value_behind v set_down met ≡ faults =
          ap (number_lent v (λ l. fault_number (l.writer).fault)) may.1
          ∙ ap fault_number may.2.1 in
          let none : down ≡ 0 = was.up_in_hand l may.1 may.2.2 may.2.3 in
          let y : Receipts = receipts_of (after_set_down faults v) in
          let sum = setters_set parts id (receipts_of v) y here in
          let few = setters_low parts id (receipts_of v) here in
          let before = h.set_once ∙ ap one_if_some none in
          let own = ap one_if_some may.2.3 in
          let told_before : down ≢ 0 → down ≡ faults = λ some_down.
          some-injective down faults (sym (h.down_is some_down) ∙ fault) in
          subst (λ (n : ℕ). DurabilityHolds first o order flushed moment n home writer
          (set parts id (receipts_of (after_set_down n v)))) (sym number) (record {
            counted = h.counted;
            moment_low = h.moment_low;
            begun = h.begun;
            reached = h.reached;
            made = h.made;
            lawful = h.lawful;
            found_low = h.found_low;
            found = h.found;
            firm = h.firm;
            on_disk = h.on_disk;
            down_is = λ _. fault;
            down_at_home = λ home_is. absurd (some-ne-none writer (sym home_is ∙ holds.0));
            set_once = omega (arith, sum, few, before, own);
            fault_rose = h.fault_rose;
            views = one_set
                (λ _ x. IsToldRightly first o order flushed moment faults writer x) parts id y
                (λ j x other there. with_down first o order flushed moment down writer faults x
                told_before (λ m is. other (alone j x m there is)) (h.views j x there))
                (did_set_down first o order flushed moment down writer es js v.writing faults
                may.2.2 was);
          })

      -- nothing waits: all that is written is durable
      all_firm : writer.waiting ≡ none
          → IfSuited first o writer (IsFirm o order writer.written writer.moment)
      all_firm nothing = told_suited first o writer (λ t is suited.
          TapeAssures-now o.setup.seg_size
          (IsMadeUpto o.setup.seg_size writer.written)
          (IsLogBelow o order writer.written) writer.moment t
          (counted_on first writer.moment writer.calls t is h.counted)
          (λ segment. (at_suited first o writer
          (IsOnDisk o order writer) t is suited h.on_disk).firm
          segment (λ waits. absurd (some-ne-none segment (sym waits ∙ nothing)))))

      pub store_moment_keeps : (met : ℕ) → MayStep v store_moment
          → DurabilityHolds first o order flushed (value_behind v store_moment met) down home writer
          (set parts id (receipts_of (view_behind v store_moment met home)))
      store_moment_keeps met may =
          let l = may.0 in
          let holds = held l may.1 in
          let size = o.setup.seg_size in
          let nothing : writer.waiting ≡ none =
          ap (λ (p : Plain). p.waiting) (sym holds.1) ∙ may.2.1 in
          let number : value_behind v store_moment met ≡ writer.moment =
          ap (number_lent v (λ l. (l.writer).moment)) may.1
          ∙ ap (λ (p : Plain). p.moment) holds.1 in
          let behind : DurabilityHolds first o order flushed writer.moment down home writer parts =
          record {
            counted = h.counted;
            moment_low = omega arith;
            begun = omega (arith, h.begun, h.moment_low);
            reached = h.reached;
            made = h.made;
            lawful = h.lawful;
            found_low = h.found_low;
            found = h.found;
            firm = IfSome_then (tape_from first writer.calls) h.firm (λ t firm suited.
                TapeAssures-later size (IsMadeUpto size flushed)
                (IsLogBelow o order flushed) moment writer.moment t h.moment_low
                (firm suited));
            on_disk = h.on_disk;
            down_is = h.down_is;
            down_at_home = h.down_at_home;
            set_once = h.set_once;
            fault_rose = h.fault_rose;
            views = λ j x there. with_words first o order flushed moment down writer flushed
                writer.moment x (omega arith) h.moment_low (h.views j x there);
          } in
          let now = behind.views id (receipts_of v) here in
          subst (λ (n : ℕ). DurabilityHolds first o order flushed n down home writer
          (set parts id (receipts_of (after_store_moment v)))) (sym number)
          (view_set first o order flushed writer.moment down writer home parts id (receipts_of v)
          (receipts_of (after_store_moment v)) behind here refl
          (rebuilt first o order flushed writer.moment down writer es js v.writing
          ((after_store_moment v).writing) refl refl refl now
          (lent_cases hardened (IsInHand first o order writer.moment writer) v.writing.hold
          (λ m is.
          let own = (held m is).1 in
          let from : (m.writer).moment ≡ writer.moment = ap (λ (p : Plain). p.moment) own in
          record {
            staged = (now.in_hand m is).staged;
            hard_low = omega (arith, ap (λ (p : Plain). p.written) own);
            moment_low = omega (arith, from);
            since = λ _. omega (arith, from, behind.begun);
            firm = λ _. subst (λ (p : Plain).
                IfSuited first o writer (IsFirm o order p.written p.moment)) (sym own)
                (all_firm nothing);
          })) (still_up hardened)))

      pub store_flushed_keeps : (met : ℕ) → 1 ≤ flushed → flushed ≤ writer.written
          → MayStep v store_flushed
          → DurabilityHolds first o order (value_behind v store_flushed met) moment down home writer
          (set parts id (receipts_of (view_behind v store_flushed met home)))
      store_flushed_keeps met some_flushed low may =
          let l = may.0 in
          let holds = held l may.1 in
          let number : value_behind v store_flushed met ≡ l.hard =
          ap (number_lent v (λ l. l.hard)) may.1 in
          let from : number_lent v (λ l. l.hard_moment) v.writing.hold ≡ l.hard_moment =
          ap (number_lent v (λ l. l.hard_moment)) may.1 in
          let hand = was.in_hand l may.1 in
          let up : flushed ≤ l.hard =
          omega (arith, low, may.2.0, ap (λ (p : Plain). p.written) holds.1) in
          let some_hard : l.hard ≢ 0 = λ none. omega (arith, none, some_flushed, up) in
          let behind : DurabilityHolds first o order l.hard moment down home writer parts = record {
            counted = h.counted;
            moment_low = h.moment_low;
            begun = h.begun;
            reached = h.reached;
            made = h.made;
            lawful = h.lawful;
            found_low = omega (arith, h.found_low, up);
            found = h.found;
            firm = IfSome_then (tape_from first writer.calls) (hand.firm some_hard) (λ t firm suited.
                TapeAssures-later o.setup.seg_size (IsMadeUpto o.setup.seg_size l.hard)
                (IsLogBelow o order l.hard) l.hard_moment moment t hand.moment_low
                (firm suited));
            on_disk = h.on_disk;
            down_is = h.down_is;
            down_at_home = h.down_at_home;
            set_once = h.set_once;
            fault_rose = h.fault_rose;
            views = λ j x there. with_words first o order flushed moment down writer l.hard moment x up
                (omega arith) (h.views j x there);
          } in
          subst (λ (n : ℕ × ℕ). DurabilityHolds first o order n.0 moment down home writer
          (set parts id (receipts_of (after_store_flushed n.0 n.1 v))))
          (λ j. (sym number j, sym from j))
          (view_set first o order l.hard moment down writer home parts id (receipts_of v)
          (receipts_of (after_store_flushed l.hard l.hard_moment v)) behind here refl
          (is_promised first o order l.hard moment down writer l.hard l.hard_moment es js v.writing
          (hand.since some_hard) hand.moment_low (omega arith) (hand.firm some_hard)
          (behind.views id (receipts_of v) here)))

    -- ---- passes that begin and end

    pub split_keeps : Holds (set parts id (receipts_of (after_split v)) ++ receipts_of (split_off v) ∷ [])
    split_keeps = view_added first o order flushed moment down writer home
        (set parts id (receipts_of v)) (told [] [] no_writing) same refl
        (is_new first o order flushed moment down writer)

    pub give_up_keeps :
        Holds (set parts id (receipts_of (without_work v)) ++ receipts_of (orphan_of v) ∷ [])
    give_up_keeps = view_added first o order flushed moment down writer home
        (set parts id (receipts_of v)) (told [] [] no_writing) same refl
        (is_new first o order flushed moment down writer)

    pub join_keeps : (other : ℕ) (w : View) → HasAt parts other (receipts_of w) → id ≢ other
        → Holds (set (set parts other (receipts_of (spent w))) id (receipts_of (after_join v w)))
    join_keeps other w there apart =
        let ks = w.reserving.joined in
        let sum = setters_append js (joined_of w ∷ ks) in
        is_taken_in first o order flushed moment down writer home parts id other (receipts_of v)
        (receipts_of w) (told [] [] no_writing) (receipts_of (after_join v w)) h here there apart
        refl (omega (arith, sum)) (is_new first o order flushed moment down writer)
        (is_joined first o order flushed moment down writer es w.reserving.entries js
        ks v.writing w.writing w.reserving.number w.reserving.stops was
        (h.views other (receipts_of w) there))
