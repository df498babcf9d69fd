-- Every sound state shows which entries are whole, which are in flight, and what locks tell of
-- them.
use Rattle.std.proofs.Common.{◌≡◌, ◌≢◌, ◌⊎◌, inl, inr, ⊎_elim, ℕ, zero, suc, ◌+◌, ◌≤◌, cond, Bool, Contains, List, [], ◌∷◌, ◌++◌, Some, map, refl, sym, ap, ◌∙◌, subst, arith}
use Rattle.std.proofs.lemmas.List.Elements.{Contains-append_cases, Contains-append_right, Contains-push_cases}
use Rattle.std.proofs.lemmas.Option.{same_Some}
use mathlib.Core.Logic.{dite}
use mathlib.Core.Option.{Option, some-ne-none}
use native.Mathlib.Decide.{ℕ_discrete}
use Rattle.byte_position.specs.Geometry.{IsSegmentSize}
use Rattle.byte_position.specs.Position.{end_address_of}
use Rattle.byte_position.proofs.EndAddresses.{end_address_of-mono_lt}
use Rattle.wal_spelling.specs.Spelling.{assembled}
use Rattle.wal_page.specs.Log.{owner_at}
use Rattle.wal_page.specs.Order.{Entry, position_behind}
use Rattle.wal_page.specs.EntryWords.{address_of_word}
use Rattle.wal_page.proofs.OrderLaws.{room_at-pos}
use Rattle.wal_page.proofs.OwnerLaws.{Owns-from_between}
use Rattle.wal_page.proofs.PlaceLaws.{owner_at-entry_from_iff}
use Rattle.machine_state.specs.declared.setup.Setup.{Setup}
use Rattle.machine_state.specs.Words.{Opening, end_form, lock_word, order_end, GoesOnAtPlace}
use Rattle.machine_state.specs.Views.{HasAt, Copy, Flight, Landed, Copying, Plain, View, working_of, flight_of}
use Rattle.machine_state.specs.Locked.{most_told}
use Rattle.machine_state.specs.Ringed.{IsOfOrder}
use Rattle.machine_state.specs.Shown.{IsInNoFlight}
use Rattle.machine_state.specs.Sound.{IsSound}
use Rattle.machine_state.proofs.Landing.{among_cases, none_lands}
use Rattle.machine_state.proofs.Lists.{part_at}
use Rattle.machine_laws.proofs.RingLaws.{copy-whole, last_word-ends}
use Rattle.machine_laws.proofs.ShownLaws.{entries_are_copied}
use Rattle.machine_laws.specs.SoundLocks.{SomeView, HasInFlight, IsToldAhead, IsToldBy, LocksTellCopies, IsCopiedWhole, EntriesAreWholeOrInFlight}
use Rattle.machine_laws.proofs.HeldLaws.{copying_same}
use Rattle.machine_laws.proofs.HolderLaws.{locks_have_holders}
use Rattle.segment_disk.specs.Tape.{DiskState}

-- ---- an order's entries

-- what an order has stands between what comes before and behind it
around : (e : Entry) (es : List Entry) → Contains es e
    → (front : List Entry) × (back : List Entry) × (es ≡ front ++ e ∷ back)
around e [] has = absurd (let none = has.1 in omega (arith, none))
around e (x ∷ xs) has = ⊎_elim
    (λ (one : Contains (x ∷ []) e). ⊎_elim
    (λ (none : Contains [] e). absurd (let low = none.1 in omega (arith, low)))
    (λ (same : x ≡ e). ([], xs, ap (λ (y : Entry). y ∷ xs) same))
    (Contains-push_cases [] x e one))
    (λ (rest : Contains xs e). let t = around e xs rest in
    (x ∷ t.0, t.1, ap (λ (ys : List Entry). x ∷ ys) t.2))
    (Contains-append_cases (x ∷ []) xs e has)

-- an entry owns the address at which it begins; so one that starts where another does is that one
module _ (opening : Opening) (valid : IsSegmentSize opening.setup.seg_size)
    (order : List Entry) (chain : GoesOnAtPlace opening order)
  where
    abbrev segment : ℕ
    segment = opening.setup.seg_size

    owns_start : (front back : List Entry) (e : Entry) → order ≡ front ++ e ∷ back
        → owner_at segment order (end_address_of segment e.start) ≡ Some e
    owns_start front back e are =
        let room = room_at-pos segment e in
        let rises = end_address_of-mono_lt segment valid e.start (position_behind segment e)
        (omega arith) in
        subst (λ (es : List Entry). owner_at segment es (end_address_of segment e.start) ≡ Some e)
        (sym are)
        ((owner_at-entry_from_iff segment valid opening.place.position front back e
        (subst (GoesOnAtPlace opening) are chain) (end_address_of segment e.start)).1
        (Owns-from_between segment valid (assembled e.value) e.start
        (end_address_of segment e.start) (omega arith) rises))

    starts_once : (front back : List Entry) (e : Entry) → order ≡ front ++ e ∷ back
        → (before behind : List Entry) (f : Entry) → order ≡ before ++ f ∷ behind
        → e.start ≡ f.start → e ≡ f
    starts_once front back e are before behind f same_as start = same_Some e f
        (sym (owns_start front back e are)
        ∙ ap (λ (p : ℕ). owner_at segment order (end_address_of segment p)) start
        ∙ owns_start before behind f same_as)

-- ---- whether an entry is in flight

-- a view copies an entry, which its start names
abbrev Copies : Entry → Flight → Type 0
Copies e f = (c : Copy) × (f ≡ Copying c) × ((c.entry).start ≡ e.start)

own_flight : (e : Entry) (f : Flight)
    → Copies e f ⊎ ((c : Copy) → f ≡ Copying c → (c.entry).start ≢ e.start)
own_flight e Landed = inr (λ c is. absurd (none_lands c is))
own_flight e (Copying d) = dite (ℕ_discrete (d.entry).start e.start)
    (λ same. inl (d, refl, same))
    (λ apart. inr (λ c is same. let one : d ≡ c = cc in
    apart (ap (λ (x : Copy). (x.entry).start) one ∙ same)))

flies_or_not : (e : Entry) (views : List View)
    → SomeView views (λ v. Copies e (v.working).flight) ⊎ IsInNoFlight views e
flies_or_not e [] = inr (λ id v c here is. absurd (some-ne-none v (sym here)))
flies_or_not e (x ∷ xs) = ⊎_elim
    (λ (t : Copies e (x.working).flight). inl (0, x, refl, t))
    (λ (mine : (c : Copy) → (x.working).flight ≡ Copying c → (c.entry).start ≢ e.start). ⊎_elim
    (λ (t : SomeView xs (λ v. Copies e (v.working).flight)). inl (suc t.0, t.1, t.2, t.3))
    (λ (others : IsInNoFlight xs e). inr (neither mine others))
    (flies_or_not e xs))
    (own_flight e (x.working).flight)
  where
    neither : ((c : Copy) → (x.working).flight ≡ Copying c → (c.entry).start ≢ e.start)
        → IsInNoFlight xs e → IsInNoFlight (x ∷ xs) e
    neither mine others zero v c here is =
        let same : x ≡ v = cc in
        mine c (ap (λ (y : View). (y.working).flight) same ∙ is)
    neither mine others (suc id) v c here is = others id v c here is

-- whoever copies an entry has it in flight
pub flies : (views : List View) (id : ℕ) (v : View) (c : Copy) → HasAt views id v
    → (v.working).flight ≡ Copying c → HasAt (map flight_of views) id (Copying c)
flies views id v c here is = subst (λ (f : Flight). HasAt (map flight_of views) id f) is
    (part_at flight_of views id v here)

-- ---- entries, and what locks tell of them

module _ {first : DiskState} (opening : Opening) (words : List ℕ) (home : Option Plain)
    (views : List View)
    (k : IsSound first opening words home views) where
  abbrev setup : Setup
  setup = opening.setup

  abbrev size : ℕ
  size = (opening.setup).seg_size

  abbrev chain : GoesOnAtPlace opening k.order
  chain = (k.reserved).chained

  -- an entry in flight is one of the order
  of_order : (id : ℕ) (v : View) (c : Copy) → HasAt views id v → (v.working).flight ≡ Copying c
      → IsOfOrder opening k.order c
  of_order id v c here is = (k.ring).in_flight id c (flies views id v c here is)

  in_flight : (id : ℕ) (v : View) (c : Copy) → HasAt views id v → (v.working).flight ≡ Copying c
      → (e : Entry) → c.entry ≡ e → HasInFlight e v
  in_flight id v c here is e same = (
    c,
    is,
    same,
    ((k.locks).locks).under id v.working c (part_at working_of views id v here) is,
  )

  whole_or_not : (e : Entry) → Contains k.order e
      → (IsInNoFlight views e × IsCopiedWhole opening k.order words e)
      ⊎ SomeView views (HasInFlight e)
  whole_or_not e has =
      let a = around e k.order has in ⊎_elim
      (λ (t : SomeView views (λ v. Copies e (v.working).flight)).
      let f = t.3 in
      let o = of_order t.0 t.1 f.0 t.2 f.1 in
      let same = starts_once opening (k.setup_is).size k.order chain o.front o.back (f.0).entry
      o.are a.0 a.1 e a.2 f.2 in
      inr (t.0, t.1, t.2, in_flight t.0 t.1 f.0 t.2 f.1 e same))
      (λ (none : IsInNoFlight views e). inl (
        none,
        λ n owned.
            (entries_are_copied opening words home views k).landed a.0 a.1 e n a.2 none owned,
      ))
      (flies_or_not e views)

  pub entries_are_whole_or_in_flight : EntriesAreWholeOrInFlight opening k.order words views
  entries_are_whole_or_in_flight = record {
    each = whole_or_not;
    by_one = λ e id other v w here there h g.
        (entries_are_copied opening words home views k).once id other v w h.0 g.0 here there h.1 g.1
        (ap (λ (x : Entry). x.start) (h.2 ∙ sym g.2));
    reserved = λ id v c here is.
        let o = of_order id v c here is in (
          subst (λ (es : List Entry). Contains es c.entry) (sym o.are)
              (Contains-append_right o.front (c.entry ∷ o.back) c.entry (0, omega arith, refl)),
          in_flight id v c here is c.entry refl,
          o.copied_within,
        );
  }

  -- what a lock's word tells of a flight of its holder
  abbrev reserved_end : ℕ
  reserved_end = end_form setup (order_end opening k.order)

  abbrev Told : ℕ → ℕ → View → Type 0
  Told end lock v = IsToldBy size lock (lock_word words lock) v
      ⊎ IsToldAhead end lock (lock_word words lock) v

  told_by : (id lock : ℕ) (v : View) → HasAt views id v → (f : Flight)
      → (v.working).flight ≡ f → lock_word words lock ≤ most_told size reserved_end lock f
      → Told reserved_end lock v
  told_by id lock v here Landed is low = inr (record {
    none_under = λ c flies has. none_lands c (sym is ∙ flies);
    within = low;
  })
  told_by id lock v here (Copying c) is low = among_cases
      (λ (b : Bool). lock_word words lock
      ≤ cond b (address_of_word size c.entry c.copied + 1) (reserved_end + 1)
      → Told reserved_end lock v) c.locks lock
      (λ has low.
      let o = of_order id v c here is in
      let within = o.copied_within in
      let ends = last_word-ends size (k.setup_is).size c.entry
      (copy-whole opening (k.setup_is).size (k.reserved).placed k.order chain c o) in
      inl (record {
        copy = c;
        in_flight = is;
        under = has;
        next = λ left. low;
        none_left = λ none. omega arith;
      }))
      (λ other low. inr (record {
        none_under = λ d flies has. other (subst (λ (x : Copy). Contains x.locks lock)
            (copying_same d c (sym flies ∙ is)) has);
        within = low;
      }))
      low

  pub locks_tell_copies : LocksTellCopies size reserved_end words views
  locks_tell_copies lock low more =
      let h = ((locks_have_holders opening words home views k).held lock low).0
      (λ none. omega arith) in
      let v = h.1 in (
        h.0,
        v,
        h.2,
        (
          h.3,
          told_by h.0 lock v h.2 (v.working).flight refl
              (k.progress h.0 lock v.working (part_at working_of views h.0 v h.2) h.3),
        ),
      )
