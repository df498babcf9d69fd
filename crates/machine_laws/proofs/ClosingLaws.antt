-- A pass that has all numbers and is about nothing closes its log.
use Rattle.std.proofs.Common.{◌≡◌, ◌≢◌, ◌⊎◌, inl, inr, ⊎_elim, ℕ, zero, suc, ◌*◌, ◌/◌, ◌%◌, ◌<◌, true, false, Contains, List, [], ◌∷◌, map, refl, sym, ap, ◌∙◌, subst, arith}
use mathlib.Core.Logic.{dite}
use mathlib.Core.Option.{Option, some, some-injective, some-ne-none}
use native.Mathlib.Decide.{ℕ_discrete, dec_le}
use Rattle.machine_state.specs.Words.{Opening, position_word, lock_word, mapping_turn, write_turn, initialised_word, written_word, flushed_word, moment_word, down_word, word_of_ring}
use Rattle.machine_state.specs.Views.{HasAt, Flight, Landed, Copying, Away, Published, Plain, Receipts, Reserving, Working, View, reserving_of, working_of, flight_of, receipts_of}
use Rattle.machine_state.specs.Ordered.{entries_under, Role, active, spare, ended, unborn, IsUnused, TookIn}
use Rattle.machine_state.specs.Locked.{HasTurn}
use Rattle.machine_state.specs.Ringed.{IsAwaited}
use Rattle.machine_state.specs.Paged.{AtStage}
use Rattle.machine_state.specs.Shown.{IsPublished}
use Rattle.machine_state.specs.Durable.{DurabilityHolds, IsToldRightly, one_if_some, setters_among, setters_of}
use Rattle.machine_state.specs.Sound.{IsSound}
use Rattle.machine_state.proofs.Lists.{part_at, view_from}
use Rattle.machine_laws.specs.SharedOrders.{OrderIsShared}
use Rattle.machine_laws.specs.LonePasses.{HasAllThatIsHeld, IsLone}
use Rattle.machine_laws.proofs.LoneLaws as lone
use Rattle.machine_laws.proofs.LoneLaws.{away_no_turn, idle_no_turn, live_or_not}
use Rattle.machine_laws.proofs.OrderSharing.{shared}
use Rattle.machine_laws.proofs.Setters.{setters_alone}
use Rattle.machine_laws.proofs.ShownLaws.{pages_are_present, words_are_logs}
use Rattle.machine_laws.proofs.CrashLaws.{crashes_leave_the_log, down_tells}
use Rattle.machine_laws.specs.ClosedLogs.{AllIsCopied, IsClosed, IsLastPass, LogIsDurable, OrderIsAccounted, PositionsAreLast, WordsAreFree}
use Rattle.segment_disk.specs.Tape.{DiskState}

-- ---- what stands for nothing

away_not_published : (at : ℕ) → Away ≡ Published at → ⊥
away_not_published at e = absurd (cc)

landed_not_copying : (c : _) → Landed ≡ Copying c → ⊥
landed_not_copying c e = absurd (cc)

none_or_some : (locks : List ℕ) → (locks ≡ []) ⊎ (locks ≢ [])
none_or_some [] = inl refl
none_or_some (lock ∷ locks) = inr (λ e. absurd (cc))

landed_or_not : (f : Flight) → (f ≡ Landed) ⊎ (f ≢ Landed)
landed_or_not Landed = inl refl
landed_or_not (Copying c) = inr (λ e. absurd (cc))

only_one : {A : Type 0} → (x : A) (j : ℕ) (y : A) → HasAt (x ∷ []) j y → (j ≡ 0) × (x ≡ y)
only_one x zero y e = (refl, some-injective x y e)
only_one x (suc j) y e = absurd (some-ne-none y (sym e))

module _ {first : DiskState} (opening : Opening) (words : List ℕ) (home : Option Plain) (views : List View)
    (k : IsSound first opening words home views) (id : ℕ) (v : View) (here : HasAt views id v)
    (last : IsLastPass opening v) where
  abbrev size : ℕ
  size = (opening.setup).seg_size

  abbrev order_is : OrderIsShared opening k.order words views
  order_is = shared opening words home views k

  is_lone : IsLone opening v
  is_lone = record { live = last.live; numbers = last.numbers }

  held : HasAllThatIsHeld words v
  held = lone.has_all opening words home views k id v here is_lone

  -- ---- no other pass is live

  alone : (other : ℕ) (w : View) → HasAt views other w → (w.reserving).live ≡ true → other ≡ id
  alone = lone.alone opening words home views k id v here is_lone

  same : (other : ℕ) (w : View) → HasAt views other w → (w.reserving).live ≡ true → w ≡ v
  same = lone.same opening words home views k id v here is_lone

  -- what this pass does not have, and no view that is not live, nobody has
  nobody : (P : View → Type 0) → (P v → ⊥)
      → ((other : ℕ) (w : View) → HasAt views other w → (w.reserving).live ≡ false → P w → ⊥)
      → (other : ℕ) (w : View) → HasAt views other w → P w → ⊥
  nobody P mine others other w there has = ⊎_elim
      (λ (live : (w.reserving).live ≡ true). mine (subst P (same other w there live) has))
      (λ (gone : (w.reserving).live ≡ false). others other w there gone has)
      (live_or_not (w.reserving).live)

  -- ---- the turns and the position are free

  away : (other : ℕ) (w : View) → HasAt views other w → HasTurn (w.mapping).stage → ⊥
  away = nobody (λ w. HasTurn (w.mapping).stage)
      (away_no_turn (v.mapping).stage (last.rests).stage)
      (λ other w there gone. away_no_turn (w.mapping).stage
      ((k.grounded other w there).at_rest gone).0)

  mapping_free : mapping_turn words ≡ 0
  mapping_free = dite (ℕ_discrete (mapping_turn words) 0) (λ free. free)
      (λ taken. absurd (away_no_turn (v.mapping).stage (last.rests).stage (held.mapping taken)))

  writing_free : write_turn words ≡ 0
  writing_free = dite (ℕ_discrete (write_turn words) 0) (λ free. free)
      (λ taken. absurd (idle_no_turn (v.writing).hold (last.rests).hold (held.writing taken)))

  at_home : home ≡ some k.writer
  at_home = ((k.locks).writing).free writing_free

  words_free : WordsAreFree opening k.order words
  words_free =
      let even : position_word words % 2 ≡ 0 = dite (ℕ_discrete (position_word words % 2) 1)
      (λ odd. absurd (held.position odd (last.rests).place))
      (λ other. omega (arith, other)) in
      record {
        position = let end = order_is.end in omega (arith, end, even);
        last = order_is.last even;
        mapping = mapping_free;
        writing = writing_free;
      }

  -- ---- the order

  -- a number's entries are none, where its pass is neither this one nor one that it took in
  none_under : (n : ℕ) → n ≢ (v.reserving).number → (TookIn n v.reserving → ⊥)
      → (q : Role) → (k.reserved).role n ≡ q → entries_under n k.order ≡ []
  none_under n other apart (active j) is =
      let h = (k.reserved).goes_by n j is in
      let u = view_from reserving_of views j h.0 h.1 in
      let mine = same j u.0 u.1 (ap (λ (r : Reserving). r.live) u.2 ∙ h.2) in
      absurd (other (sym h.3 ∙ ap (λ (r : Reserving). r.number) (sym u.2)
      ∙ ap (λ (w : View). (w.reserving).number) mine))
  none_under n other apart (spare j) is =
      (k.reserved).unused n (subst IsUnused (sym is) tt)
  none_under n other apart (ended j) is =
      let h = (k.reserved).took_in n j is in
      let u = view_from reserving_of views j h.0 h.1 in
      let mine = same j u.0 u.1 (ap (λ (r : Reserving). r.live) u.2 ∙ h.2) in
      absurd (apart (subst (TookIn n) (sym u.2 ∙ ap reserving_of mine) h.3))
  none_under n other apart unborn is =
      (k.reserved).unused n (subst IsUnused (sym is) tt)

  accounted : OrderIsAccounted opening k.order words views v.reserving
  accounted = record {
    chained = order_is.chained;
    owned = order_is.owned;
    within = order_is.within;
    part = order_is.each id v here last.live;
    no_other = λ n other apart. none_under n other apart ((k.reserved).role n) refl;
  }

  -- ---- what is copied

  not_published : (at : ℕ) → IsPublished views at → ⊥
  not_published at p = away p.0 p.1 p.2 (subst HasTurn (sym p.3) tt)

  module _ (up : down_word words ≡ 0) where
    landed : (other : ℕ) (w : View) → HasAt views other w
        → ((w.working).locks ≡ []) × ((w.working).flight ≡ Landed)
    landed other w there = ⊎_elim
        (λ (live : (w.reserving).live ≡ true).
        let mine = sym (same other w there live) in
        subst (λ (u : View). ((u.working).locks ≡ []) × ((u.working).flight ≡ Landed)) mine
        ((last.rests).locks, (last.rests).flight))
        (λ (gone : (w.reserving).live ≡ false).
        let left = (k.grounded other w there).left gone in (
          ⊎_elim (λ t. t) (λ t. absurd (left (inl t) up)) (none_or_some (w.working).locks),
          ⊎_elim (λ t. t) (λ t. absurd (left (inr t) up)) (landed_or_not (w.working).flight),
        ))
        (live_or_not (w.reserving).live)

    lock_free : (lock : ℕ) → lock < 8 → lock_word words lock ≡ 0
    lock_free lock low = dite (ℕ_discrete (lock_word words lock) 0) (λ free. free)
        (λ taken.
        let held = (k.locks).locks in
        let h = held.held lock low taken in
        let u = view_from working_of views (held.holder lock) h.0 h.1 in
        let none = (landed (held.holder lock) u.0 u.1).0 in
        let has = subst (λ (locks : List ℕ). Contains locks lock)
        (ap (λ (w : Working). w.locks) (sym u.2) ∙ none) h.2 in
        absurd (let low = has.1 in omega (arith, low)))

    not_awaited : (address : ℕ) → IsAwaited size (map flight_of views) address → ⊥
    not_awaited address w =
        let u = view_from flight_of views w.id (Copying w.copy) w.in_flight in
        landed_not_copying w.copy (sym (landed w.id u.0 u.1).1 ∙ u.2)

    all_is_copied : AllIsCopied opening k.order words views
    all_is_copied = record {
      landed = landed;
      locks = lock_free;
      unwritten = λ n from low.
          let pages = pages_are_present opening words home views k in
          let begun = (k.positions).begun in
          let flushed = (k.positions).flushed_low in
          let aligned = (subst (AtStage (opening.setup).ring_pages (k.pages).low k.reach
          (initialised_word words) (written_word words) (word_of_ring opening.setup words))
          (((k.locks).mapping).free mapping_free) (k.pages).mapping).1 in
          let near : 8 * n < initialised_word words = dite (dec_le (initialised_word words) (8 * n))
          (λ far. absurd (⊎_elim (not_awaited (8 * n))
          (λ t. not_published (initialised_word words) t.1)
          (pages.copied n (omega (arith, from, begun, flushed)) low far)))
          (λ near. omega (arith, near)) in
          pages.mapped (n / 1024) (omega (arith, near, aligned)) (omega (arith, from));
      ring = λ n present. ⊎_elim (λ t. t)
          (λ t. absurd (not_awaited (8 * n) t.1))
          ((words_are_logs opening words home views k).ring n present);
    }

  -- ---- positions, and what crashes leave

  positions : PositionsAreLast first opening k.order words k.writer
  positions = record {
    begun = (k.positions).begun;
    flushed_low = (k.positions).flushed_low;
    written_low = (k.positions).written_low;
    written_is = (k.positions).at_home at_home;
    reserved = (k.positions).reserved;
    reads = (k.positions).reads;
  }

  -- no other view is live, so none of them set the down word or took in one that did
  others_set_none : (j : ℕ) (x : Receipts) → HasAt (map receipts_of views) j x → j ≢ id
      → setters_of x ≡ 0
  others_set_none j x there apart =
      let found = view_from receipts_of views j x there in
      let u = found.0 in
      let dead : (u.reserving).live ≡ false = ⊎_elim
      (λ (lives : (u.reserving).live ≡ true). absurd (apart (alone j u found.1 lives)))
      (λ (gone : (u.reserving).live ≡ false). gone) (live_or_not (u.reserving).live) in
      let none = (k.grounded j u found.1).set_none dead in
      let own = ap one_if_some none.0 in
      let taken = ap setters_among none.1 in
      let same = ap setters_of found.2 in omega (arith, own, taken, same)

  set_once : setters_of (receipts_of v) ≡ one_if_some (down_word words)
  set_once = sym (setters_alone (map receipts_of views) id (receipts_of v)
      (part_at receipts_of views id v here) others_set_none) ∙ (k.durable).set_once

  -- what durability says of all views, of this one alone
  kept : DurabilityHolds first opening k.order (flushed_word words) (moment_word words)
      (down_word words) (some k.writer) k.writer (receipts_of v ∷ [])
  kept = record {
    counted = (k.durable).counted;
    moment_low = (k.durable).moment_low;
    begun = (k.durable).begun;
    reached = (k.durable).reached;
    made = (k.durable).made;
    lawful = (k.durable).lawful;
    found_low = (k.durable).found_low;
    found = (k.durable).found;
    firm = (k.durable).firm;
    on_disk = (k.durable).on_disk;
    down_is = (k.durable).down_is;
    down_at_home = λ there. (k.durable).down_at_home at_home;
    set_once = (let own = set_once in omega (arith, own));
    fault_rose = (k.durable).fault_rose;
    views = λ j x there. subst
        (IsToldRightly first opening k.order (flushed_word words) (moment_word words) (down_word words)
        k.writer)
        (only_one (receipts_of v) j x there).1
        ((k.durable).views id (receipts_of v) (part_at receipts_of views id v here));
  }

  durable : LogIsDurable first opening k.order words k.writer v
  durable = record {
    counted = (k.durable).counted;
    since = (k.durable).begun;
    moment_low = (k.durable).moment_low;
    on_disk = (k.durable).on_disk;
    set_once = set_once;
    crashes = crashes_leave_the_log opening k.order (flushed_word words) (moment_word words)
        (down_word words) (some k.writer) k.writer (receipts_of v ∷ []) kept (k.setup_is).size
        (k.reserved).placed;
    down = down_tells opening k.order (flushed_word words) (moment_word words) (down_word words)
        (some k.writer) k.writer (receipts_of v ∷ []) kept;
  }

  pub closed : IsClosed first opening k.order words home k.writer views id v
  closed = record {
    alone = alone;
    at_home = at_home;
    free = words_free;
    accounted = accounted;
    copied = all_is_copied;
    positions = positions;
    durable = durable;
  }
