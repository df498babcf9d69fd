-- The steps of a table that is not begun, and how it ends.
use Rattle.std.proofs.Common.{get_or, ◌≡◌, ℕ, inl, inr, List, [], ◌∷◌, map, set, slice_index, zero, suc, refl, sym, ap, ◌∙◌, subst, arith}
use mathlib.Core.Option.{Option, none, some, some-injective, some-ne-none}
use lib.ListN.{get_elem?}
use Rattle.atomic_table.specs.Table.{State, Me, Allows, Final, Seen, gives, rest, takes}
use Rattle.segment_disk.specs.Tape.{IsUncalled, Tape}
use Rattle.machine_state.specs.Words.{Opening, write_turn_number}
use Rattle.machine_state.specs.Views.{Idle, Turned, Out, Hold, Plain, View}
use Rattle.machine_state.specs.Opened.{AreFirstWords, IsFirstWriter, IsOpenable, first_view}
use Rattle.machine_state.proofs.WordLists.{word_again}
use Rattle.wal_rule.specs.declared.writer.LogWriter.{LogWriter}
use Rattle.wal_rule.specs.Beginning.{HoldsRule, IsBeginning, IsUnbegunWriter, IsUncalledWriter, reading_view, view_before, view_by_home, waiting_view}
use Rattle.wal_rule.specs.Ruled.{IsRuled, home_of}
use Rattle.wal_rule.specs.Slotted.{first_on, slot_disk, slot_plain, slot_segment_size}
use Rattle.wal_rule.specs.Stepping.{Stands}
use Rattle.wal_rule.specs.WordPlaces.{place_of_word}
use Rattle.wal_rule.proofs.Opens.{is_of_log, opens}
use Rattle.wal_rule.proofs.SlotTapes.{same_tape}
use Rattle.wal_rule.proofs.Live.{WholeTable, placed_step}

module _ {A : Type 0} where
  only_one : (x y : A) (i : ℕ) → get_elem? (x ∷ []) i ≡ some y → (i ≡ 0) × (x ≡ y)
  only_one x y zero at = (refl, some-injective x y at)
  only_one x y (suc i) at = absurd (some-ne-none y (sym at))

  -- the only one of a list is set
  set_only : (xs : List A) (x y z : A) (i : ℕ) → xs ≡ x ∷ [] → get_elem? xs i ≡ some y
      → set xs i z ≡ z ∷ []
  set_only xs x y z i is at =
      let only = only_one x y i (sym (ap (λ (l : List A). get_elem? l i) is) ∙ at) in
      ap (λ (l : List A). set l i z) is ∙ ap (λ (n : ℕ). set (x ∷ []) n z) only.0

-- of the writer that a view tells: its plain data, and the number that tells where it is
abbrev told_writer : Plain → Hold → Plain
told_writer other Idle = other
told_writer other Turned = other
told_writer other (Out l) = l.writer

abbrev known_of : Hold → ℕ
known_of Idle = 0
known_of Turned = 0
known_of (Out l) = l.known

-- what a view that waits tells
same_told : (opening : Opening) (x y : Plain) (n m : ℕ)
    → waiting_view opening x n ≡ waiting_view opening y m → (x ≡ y) × (n ≡ m)
same_told opening x y n m is = (
  ap (λ (v : View). told_writer y v.writing.hold) is,
  ap (λ (v : View). v.writing.down_set) is,
)

module _ {D : Type 0} (tape : D → Rattle.std.specs.Prelude.Option Tape) (moment faults : D → ℕ)
    (opening : Opening) (began : Rattle.std.specs.Prelude.Option Tape) where
  abbrev pub Whole : State (LogWriter D) View → Type 0
  Whole s = HoldsRule tape moment faults opening began s.words s.homes s.views

  -- the same, as the table has it
  abbrev Table : State (LogWriter D) View → Type 0
  Table = WholeTable tape moment faults opening began

  abbrev Begun : State (LogWriter D) View → Type 0
  Begun s = IsBeginning tape moment faults opening began s.words s.homes s.views

  -- the machine's invariant has no view that is not live and has the writer out
  unbegun : (writer : Plain) (known count : ℕ) (s : State (LogWriter D) View) → Whole s → (id : ℕ)
      → get_elem? s.views id ≡ some (view_before opening writer known count) → Begun s
  unbegun writer known count s (inl b) id at = b
  unbegun writer known count s (inr k) id at =
      absurd (not_idle _ (((k.sound).grounded id _ at).at_rest refl).1)
    where
      not_idle : (l : _) → Out l ≡ Idle → ⊥
      not_idle l e = absurd cc

  -- this is the writer that a view tells
  abbrev IsTold : View → LogWriter D → Type 0
  IsTold v w = v ≡ waiting_view v.opening (slot_plain tape moment w) (faults (slot_disk w))

  abbrev told_view : LogWriter D → View
  told_view w = waiting_view opening (slot_plain tape moment w) (faults (slot_disk w))

  -- who waits has the writer at home
  at_home : (home : Option (LogWriter D)) (writer : Plain) (count : ℕ)
      → view_by_home tape moment faults opening began home ≡ waiting_view opening writer count
      → (w : LogWriter D) × (home ≡ some w) × IsTold (waiting_view opening writer count) w
  at_home none writer count is =
      absurd (not_one (ap (λ (v : View). known_of v.writing.hold) is))
    where
      not_one : ◌≡◌ {A = ℕ} 0 1 → ⊥
      not_one e = omega (arith, e)
  at_home (some w) writer count is = (w, refl, sym is)

  -- what a load leaves of the words
  loaded_words : (s : State (LogWriter D) View) → Begun s
      → AreFirstWords opening (set s.words write_turn_number (slice_index s.words write_turn_number))
  loaded_words s b = subst (AreFirstWords opening) (sym (word_again s.words write_turn_number)) b.words_are

  module _ (slots id : ℕ) where
    -- what a step tells that takes the writer out
    abbrev TakesOut : Rattle.std.specs.Prelude.Option Tape → Me (LogWriter D) View
        → Me (LogWriter D) View → Type 0
    TakesOut told old new = (w : LogWriter D) × IsUnbegunWriter tape (old.0).opening told w
        × IsTold old.0 w × (new ≡ (reading_view (old.0).opening, (0, w) ∷ []))

    goes_out : (writer : Plain) (count : ℕ)
        → Allows Whole slots id (waiting_view opening writer count, []) write_turn_number (λ n. n)
        (λ r n. TakesOut began (waiting_view opening writer count, []) n)
    goes_out writer count s h _ here _ =
        let waits : View = waiting_view opening writer count in
        let b = unbegun writer 1 count s h id here in
        let found = at_home b.home writer count
        ((only_one _ waits id
        (sym (ap (λ (vs : List View). get_elem? vs id) b.views_are) ∙ here)).1) in (
          reading_view opening,
          takes 0 found.0,
          ap (λ (hs : List (Option (LogWriter D))). get_elem? hs 0) b.homes_are
              ∙ ap (λ (x : Option (LogWriter D)). some x) found.1,
          inl (record {
            words_are = loaded_words s b;
            home = none;
            homes_are = ap (λ (hs : List (Option (LogWriter D))). set hs 0 none) b.homes_are;
            unbegun = λ x is. absurd (some-ne-none x (sym is));
            views_are = set_only s.views _ waits (reading_view opening) id b.views_are here;
          }),
          (found.0, b.unbegun found.0 found.1, found.2, refl),
        )

    module _ (me : Me (LogWriter D) View) (writer : Plain) (count : ℕ)
        (is : me ≡ (waiting_view opening writer count, []))
        (told : Rattle.std.specs.Prelude.Option Tape) (told_is : told ≡ began) where
      pub takes_out : Allows Table slots id me (place_of_word write_turn_number) (λ n. n)
          (λ r n. TakesOut told me n)
      takes_out = placed_step tape moment faults opening began slots id me write_turn_number
          (λ n. n) (λ r n. TakesOut told me n) (place_of_word write_turn_number) refl (subst
          (λ (t : Rattle.std.specs.Prelude.Option Tape). Allows Whole slots id me
          write_turn_number (λ n. n) (λ r n. TakesOut t me n)) (sym told_is)
          (subst (λ (m : Me (LogWriter D) View). Allows Whole slots id m write_turn_number (λ n. n)
          (λ r n. TakesOut began m n)) (sym is) (goes_out writer count)))

      -- the writer that it took out
      pub taken_out : (new : Me (LogWriter D) View) → TakesOut told me new
          → (w : LogWriter D) × IsUnbegunWriter tape opening began w
          × (slot_plain tape moment w ≡ writer) × (faults (slot_disk w) ≡ count)
          × (new ≡ (reading_view opening, (0, w) ∷ []))
      taken_out new took =
          let out : TakesOut began (waiting_view opening writer count, []) new =
          subst (λ (m : Me (LogWriter D) View). TakesOut began m new) is
          (subst (λ (t : Rattle.std.specs.Prelude.Option Tape). TakesOut t me new) told_is took) in
          let same = same_told opening writer (slot_plain tape moment out.0) count
          (faults (slot_disk out.0)) out.2 in
          (out.0, out.1, sym same.0, sym same.1, out.3)

    -- the seat has the writer in hand
    module _ (w : LogWriter D) where
      abbrev in_hand : Me (LogWriter D) View
      in_hand = (reading_view opening, (0, w) ∷ [])

      -- the table that the seat finds is not begun
      reads : (s : State (LogWriter D) View) → Whole s
          → get_elem? s.views id ≡ some in_hand.0 → Begun s
      reads s h here = unbegun _ 0 0 s h id here

      -- what comes home
      home_again : (s : State (LogWriter D) View) → Begun s → set s.homes 0 (some w) ≡ some w ∷ []
      home_again s b = ap (λ (hs : List (Option (LogWriter D))). set hs 0 (some w)) b.homes_are

      first_stands : (words : List ℕ)
          → IsRuled tape moment faults opening began words (some w ∷ []) (first_view opening ∷ [])
          → Stands (first_view opening)
      first_stands words k = record {
        first = first_on began;
        words = words;
        home = home_of tape moment faults (some w ∷ []);
        views = first_view opening ∷ [];
        id = 0;
        sound = k.sound;
        here = refl;
      }

      begun : IsUncalledWriter tape moment opening began w → IsOpenable opening
          → faults (slot_disk w) ≡ opening.faults → (words : List ℕ)
          → AreFirstWords opening words
          → IsRuled tape moment faults opening began words (some w ∷ []) (first_view opening ∷ [])
      begun uncalled new up words first = subst (λ (t : Rattle.std.specs.Prelude.Option Tape).
          IsRuled tape moment faults opening t words (some w ∷ []) (first_view opening ∷ []))
          uncalled.tape_is (opens tape moment faults opening (slot_disk w) words w (w ∷ []) refl
          (is_of_log tape moment faults opening (slot_disk w) words w refl uncalled.size_is (sym up)
          uncalled.first) new first uncalled.first)

      begins_with : IsUncalledWriter tape moment opening began w → IsOpenable opening
          → faults (slot_disk w) ≡ opening.faults
          → Allows Whole slots id in_hand write_turn_number (λ n. n)
          (λ r n. (n ≡ (first_view opening, [])) × Stands n.0)
      begins_with uncalled new up s h _ here _ =
          let b = reads s h here in
          let words : List ℕ = set s.words write_turn_number (slice_index s.words write_turn_number) in
          let first : View = first_view opening in
          let k = begun uncalled new up words (loaded_words s b) in (
            first,
            gives,
            tt,
            inr (subst (λ (hs : List (Option (LogWriter D))).
                IsRuled tape moment faults opening began words hs (set s.views id first))
                (sym (home_again s b)) (subst (λ (vs : List View).
                IsRuled tape moment faults opening began words (some w ∷ []) vs)
                (sym (set_only s.views _ in_hand.0 first id b.views_are here)) k)),
            (refl, first_stands words k),
          )

      pub begins : (me : Me (LogWriter D) View) → me ≡ in_hand
          → IsUncalledWriter tape moment opening began w → IsOpenable opening
          → faults (slot_disk w) ≡ opening.faults
          → Allows Table slots id me (place_of_word write_turn_number) (λ n. n)
          (λ r n. (n ≡ (first_view (me.0).opening, [])) × Stands n.0)
      begins me is uncalled new up = placed_step tape moment faults opening began slots id me
          write_turn_number (λ n. n)
          (λ r n. (n ≡ (first_view (me.0).opening, [])) × Stands n.0)
          (place_of_word write_turn_number) refl (subst (λ (m : Me (LogWriter D) View).
          Allows Whole slots id m write_turn_number (λ n. n)
          (λ r n. (n ≡ (first_view (m.0).opening, [])) × Stands n.0)) (sym is)
          (begins_with uncalled new up))

      -- what a step tells that gives the writer back
      abbrev Waits : Me (LogWriter D) View → Me (LogWriter D) View → Type 0
      Waits old new = (x : LogWriter D) → old.1 ≡ (0, x) ∷ [] → new
          ≡ (waiting_view (old.0).opening (slot_plain tape moment x) (faults (slot_disk x)), [])

      comes_back : IsUnbegunWriter tape opening began w
          → Allows Whole slots id in_hand write_turn_number (λ n. n) (λ r n. Waits in_hand n)
      comes_back ours s h _ here _ =
          let b = reads s h here in
          let waiting : View =
          waiting_view opening (slot_plain tape moment w) (faults (slot_disk w)) in (
            waiting,
            gives,
            tt,
            inl (record {
              words_are = loaded_words s b;
              home = some w;
              homes_are = home_again s b;
              unbegun = λ x is. subst (IsUnbegunWriter tape opening began)
                  (some-injective w x is) ours;
              views_are = set_only s.views _ in_hand.0 waiting id b.views_are here;
            }),
            (λ x is. ap (λ (c : List (ℕ × LogWriter D)).
                (told_view (get_or c 0 (0, w)).1, [])) is),
          )

      pub waits_again : (me : Me (LogWriter D) View) → me ≡ in_hand
          → IsUnbegunWriter tape opening began w
          → Allows Table slots id me (place_of_word write_turn_number) (λ n. n)
          (λ r n. Waits me n)
      waits_again me is ours = placed_step tape moment faults opening began slots id me
          write_turn_number (λ n. n) (λ r n. Waits me n) (place_of_word write_turn_number) refl
          (subst (λ (m : Me (LogWriter D) View). Allows Whole slots id m write_turn_number
          (λ n. n) (λ r n. Waits m n)) (sym is) (comes_back ours))

  -- a seat has the writer in hand
  pub has_out : (me : Me (LogWriter D) View) (w : LogWriter D)
      → me ≡ (reading_view opening, (0, w) ∷ []) → me.1 ≡ (0, w) ∷ rest me.1
  has_out me w is = ap (λ (m : Me (LogWriter D) View). m.1) is
      ∙ ap (λ (m : Me (LogWriter D) View). (0, w) ∷ rest m.1) (sym is)

  -- the writer in hand is called
  module _ (me : Me (LogWriter D) View) (w held : LogWriter D)
      (is : me ≡ (reading_view opening, (0, w) ∷ [])) (lent_is : me.1 ≡ (0, held) ∷ rest me.1)
    where
      pub lent_writer : w ≡ held
      lent_writer = ap (λ (c : List (ℕ × LogWriter D)). (get_or c 0 (0, w)).1)
          (sym (ap (λ (m : Me (LogWriter D) View). m.1) is) ∙ lent_is)

      pub in_hand_still : (now : LogWriter D)
          → ◌≡◌ {A = Me (LogWriter D) View} (me.0, (0, now) ∷ rest me.1)
          (reading_view opening, (0, now) ∷ [])
      in_hand_still now = ap (λ (m : Me (LogWriter D) View). (m.0, (0, now) ∷ rest m.1)) is

  -- it was read
  pub read_still : (held now : LogWriter D) → IsUncalledWriter tape moment opening began held
      → slot_plain tape moment now ≡ slot_plain tape moment held
      → tape (slot_disk now) ≡ tape (slot_disk held)
      → slot_segment_size now ≡ slot_segment_size held
      → IsUncalledWriter tape moment opening began now
  read_still held now was same same_tapes size = record {
    first = subst (IsFirstWriter opening) (sym same) was.first;
    size_is = size ∙ was.size_is;
    tape_is = same_tapes ∙ was.tape_is;
  }

  -- two writers of one table that is not begun, which are the same as the machine sees them
  same_calls : (w x : LogWriter D) → IsUnbegunWriter tape opening began w
      → IsUnbegunWriter tape opening began x → slot_plain tape moment x ≡ slot_plain tape moment w
      → IsUncalled tape moment (slot_disk w) (slot_disk x)
  same_calls w x ours too same = record {
    same_tape = same_tape (tape (slot_disk x)) (tape (slot_disk w))
        (too.on_first ∙ sym ours.on_first) (ap (λ (p : Plain). p.calls) same);
    same_moment = ap (λ (p : Plain). p.moment) same;
  }

  -- a table that ends while its seat waits: the disk is that of the writer that the view tells
  pub ends_waiting : (w : LogWriter D) → IsUnbegunWriter tape opening began w → (id : ℕ) (v : View)
      → v ≡ waiting_view opening (slot_plain tape moment w) (faults (slot_disk w))
      → (words : List ℕ) (slots : List (LogWriter D)) (x : LogWriter D)
      → Final (Seen Whole id v) words slots → get_elem? slots 0 ≡ some x
      → IsUncalled tape moment (slot_disk w) (slot_disk x)
      × (faults (slot_disk x) ≡ faults (slot_disk w))
  ends_waiting w ours id v is words slots x end taken =
      let plain = slot_plain tape moment w in
      let count = faults (slot_disk w) in
      let s = end.0 in
      let here : get_elem? s.views id ≡ some (waiting_view opening plain count) =
      (end.1).1 ∙ ap (λ (x : View). some x) is in
      let b = unbegun plain 1 count s (end.1).0 id here in
      let found = at_home b.home plain count
      ((only_one _ (waiting_view opening plain count) id
      (sym (ap (λ (vs : List View). get_elem? vs id) b.views_are) ∙ here)).1) in
      let told = same_told opening plain (slot_plain tape moment found.0) count
      (faults (slot_disk found.0)) found.2 in
      let same : found.0 ≡ x = some-injective found.0 x (sym (end.4 0 found.0
      (ap (λ (hs : List (Option (LogWriter D))). get_elem? hs 0) b.homes_are
      ∙ ap (λ (x : Option (LogWriter D)). some x) found.1)) ∙ taken) in
      subst (λ (y : LogWriter D). IsUncalled tape moment (slot_disk w) (slot_disk y)
      × (faults (slot_disk y) ≡ faults (slot_disk w))) same
      (same_calls w found.0 ours (b.unbegun found.0 found.1) (sym told.0), sym told.1)

  -- a table whose writer is at home is not begun
  pub waits : (words : List ℕ) (items : List (LogWriter D)) (w : LogWriter D) → items ≡ w ∷ []
      → AreFirstWords opening words → IsUnbegunWriter tape opening began w
      → (writer : Plain) → writer ≡ slot_plain tape moment w
      → (count : ℕ) → count ≡ faults (slot_disk w)
      → HoldsRule tape moment faults opening began words (map some items)
      (waiting_view opening writer count ∷ [])
  waits words items w are first ours writer writer_is count count_is = inl (record {
    words_are = first;
    home = some w;
    homes_are = ap (λ (xs : List (LogWriter D)). map some xs) are;
    unbegun = λ x is. subst (IsUnbegunWriter tape opening began) (some-injective w x is) ours;
    views_are = ap (λ (p : Plain). waiting_view opening p count ∷ []) writer_is
        ∙ ap (λ (n : ℕ). waiting_view opening (slot_plain tape moment w) n ∷ []) count_is;
  })
