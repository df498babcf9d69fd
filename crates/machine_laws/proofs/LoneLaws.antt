-- A pass that has all numbers meets nothing that another one holds.
use Rattle.std.proofs.Common.{◌≡◌, ◌≢◌, ◌⊎◌, inl, inr, ⊎_elim, ℕ, ◌%◌, ◌<◌, true, false, Bool, Contains, List, [], refl, sym, ap, ◌∙◌, subst, arith}
use Rattle.std.proofs.lemmas.List.Elements.{All-contains}
use mathlib.Core.Logic.{dite}
use mathlib.Core.Option.{Option}
use native.Mathlib.Decide.{ℕ_discrete}
use Rattle.segment_disk.specs.Tape.{DiskState}
use Rattle.wal_page.specs.Order.{Entry}
use Rattle.machine_state.specs.Words.{Opening, position_word, lock_word, mapping_turn, write_turn, down_word, order_end}
use Rattle.machine_state.specs.Views.{HasAt, Away, Free, Hold, Idle, Joined, Plain, Reserving, Stage, View, Working, reserving_of, working_of, mapper_of, writer_of}
use Rattle.machine_state.specs.Failed.{KnowsOfFault}
use Rattle.machine_state.specs.Ordered.{entries_under, Role, active, spare, ended, unborn, IsUnused, TookIn}
use Rattle.machine_state.specs.Locked.{HasTurn, HasWriteTurn}
use Rattle.machine_state.specs.Sound.{IsSound}
use Rattle.machine_state.proofs.Lists.{at_same, view_from}
use Rattle.machine_laws.specs.LonePasses.{HasAllThatIsHeld, HasSameEntries, IsLone}
use Rattle.machine_laws.specs.SharedOrders.{HasItsPart, OrderIsShared}
use Rattle.machine_laws.specs.SoundLocks.{HasMappingTurn, HasTurnToWrite, HoldsLock}
use Rattle.machine_laws.proofs.OrderSharing.{shared}
use Rattle.machine_laws.proofs.OrderUnique.{one_order}

pub away_no_turn : (s : Stage) → s ≡ Away → HasTurn s → ⊥
away_no_turn s is has = subst HasTurn is has

pub idle_no_turn : (h : Hold) → h ≡ Idle → HasWriteTurn h → ⊥
idle_no_turn h is has = subst HasWriteTurn is has

has_none : (locks : List ℕ) (lock : ℕ) → Contains locks lock → locks ≡ [] → ⊥
has_none locks lock has none =
    let low = (subst (λ (l : List ℕ). Contains l lock) none has).1 in omega (arith, low)

pub live_or_not : (b : Bool) → (b ≡ true) ⊎ (b ≡ false)
live_or_not true = inl refl
live_or_not false = inr refl

module _ {first : DiskState} (opening : Opening) (words : List ℕ) (home : Option Plain)
    (views : List View) (k : IsSound first opening words home views) (id : ℕ) (v : View)
    (here : HasAt views id v) (is : IsLone opening v) where
  abbrev order_is : OrderIsShared opening k.order words views
  order_is = shared opening words home views k

  -- no other pass is live
  pub alone : (other : ℕ) (w : View) → HasAt views other w → (w.reserving).live ≡ true
      → other ≡ id
  alone other w there live =
      let below = (order_is.each other w there live).below (w.reserving).number (inl refl) in
      order_is.one_owner other id w v (w.reserving).number there live here is.live (inl refl)
      (is.numbers (w.reserving).number below)

  pub same : (other : ℕ) (w : View) → HasAt views other w → (w.reserving).live ≡ true → w ≡ v
  same other w there live = at_same views w v id
      (subst (λ (n : ℕ). HasAt views n w) (alone other w there live) there) here

  -- what some view has and no view that is not live, this one has
  mine : (P : View → Type 0)
      → ((other : ℕ) (w : View) → HasAt views other w → (w.reserving).live ≡ false → P w → ⊥)
      → (other : ℕ) (w : View) → HasAt views other w → P w → P v
  mine P others other w there has = ⊎_elim
      (λ (live : (w.reserving).live ≡ true). subst P (same other w there live) has)
      (λ (gone : (w.reserving).live ≡ false). absurd (others other w there gone has))
      (live_or_not (w.reserving).live)

  mapping_mine : mapping_turn words ≢ 0 → HasMappingTurn v
  mapping_mine taken =
      let h = ((k.locks).mapping).held taken in
      let u = view_from mapper_of views ((k.locks).mapping).holder h.0 h.1 in
      mine HasMappingTurn (λ other w there gone. away_no_turn (w.mapping).stage
      ((k.grounded other w there).at_rest gone).0) ((k.locks).mapping).holder u.0 u.1
      (subst (λ (m : ℕ × Stage). HasTurn m.1) (sym u.2) h.2)

  writing_mine : write_turn words ≢ 0 → HasTurnToWrite v
  writing_mine taken =
      let h = ((k.locks).writing).held taken in
      let u = view_from writer_of views ((k.locks).writing).holder h.0 h.1 in
      mine HasTurnToWrite (λ other w there gone. idle_no_turn (w.writing).hold
      ((k.grounded other w there).at_rest gone).1) ((k.locks).writing).holder u.0 u.1
      (subst (λ (m : ℕ × Hold). HasWriteTurn m.1) (sym u.2) h.2)

  position_mine : position_word words % 2 ≡ 1 → (v.reserving).place ≢ Free
  position_mine odd =
      let h = order_is.locked odd in
      subst (λ (w : View). (w.reserving).place ≢ Free) (same h.0 h.1 h.2 h.3) h.4

  -- where the disk is told to have failed, this pass knows it
  up : (KnowsOfFault v → ⊥) → down_word words ≢ 0 → ⊥
  up none failed =
      let who = k.failed failed in
      none (subst KnowsOfFault (same who.0 who.1 who.2 who.3) who.4)

  locks_mine : (KnowsOfFault v → ⊥) → (lock : ℕ) → lock < 8 → lock_word words lock ≢ 0
      → HoldsLock lock v
  locks_mine none lock low taken =
      let held = (k.locks).locks in
      let h = held.held lock low taken in
      let u = view_from working_of views (held.holder lock) h.0 h.1 in
      mine (HoldsLock lock) (λ other w there gone has. up none ((k.grounded other w there).left gone
      (inl (has_none (w.working).locks lock has)))) (held.holder lock) u.0 u.1
      (subst (λ (w : Working). Contains w.locks lock) (sym u.2) h.2)

  pub has_all : HasAllThatIsHeld words v
  has_all = record {
    position = position_mine;
    mapping = mapping_mine;
    writing = writing_mine;
    locks = locks_mine;
  }

  -- ---- the order

  abbrev part : HasItsPart opening k.order words views v.reserving
  part = order_is.each id v here is.live

  pub own_entries : (n : ℕ) → n ≡ (v.reserving).number
      → entries_under n k.order ≡ (v.reserving).entries
  own_entries n own = ap (λ (m : ℕ). entries_under m k.order) own ∙ sym part.entries

  pub taken_entries : (n : ℕ) (j : Joined) → Contains (v.reserving).joined j → j.number ≡ n
      → entries_under n k.order ≡ j.entries
  taken_entries n j has number = ap (λ (m : ℕ). entries_under m k.order) (sym number)
      ∙ sym (All-contains (λ (i : Joined). i.entries ≡ entries_under i.number k.order)
      (v.reserving).joined j part.joined has)

  -- each number is the pass's own, or that of a pass that it took in, or nobody reserved under it
  pub whose : (n : ℕ) → (n ≡ (v.reserving).number) ⊎ TookIn n v.reserving
      ⊎ (entries_under n k.order ≡ [])
  whose n = by_role ((k.reserved).role n) refl
    where
      by_role : (q : Role) → (k.reserved).role n ≡ q → (n ≡ (v.reserving).number)
          ⊎ TookIn n v.reserving ⊎ (entries_under n k.order ≡ [])
      by_role (active j) role =
          let h = (k.reserved).goes_by n j role in
          let u = view_from reserving_of views j h.0 h.1 in
          let own = same j u.0 u.1 (ap (λ (r : Reserving). r.live) u.2 ∙ h.2) in
          inl (sym h.3 ∙ ap (λ (r : Reserving). r.number) (sym u.2)
          ∙ ap (λ (w : View). (w.reserving).number) own)
      by_role (spare j) role = inr (inr ((k.reserved).unused n (subst IsUnused (sym role) tt)))
      by_role (ended j) role =
          let h = (k.reserved).took_in n j role in
          let u = view_from reserving_of views j h.0 h.1 in
          let own = same j u.0 u.1 (ap (λ (r : Reserving). r.live) u.2 ∙ h.2) in
          inr (inl (subst (TookIn n) (sym u.2 ∙ ap reserving_of own) h.3))
      by_role unborn role = inr (inr ((k.reserved).unused n (subst IsUnused (sym role) tt)))

-- Two states with such a pass, of one log and with the same entries, have one order; so where the
-- pass has not locked the position, that is the same.
module _ {first second : DiskState} (opening : Opening) (words later : List ℕ)
    (home home_later : Option Plain) (views views_later : List View)
    (k : IsSound first opening words home views)
    (m : IsSound second opening later home_later views_later) (id other : ℕ) (v w : View)
    (here : HasAt views id v) (there : HasAt views_later other w) (is : IsLone opening v)
    (still : IsLone opening w) (kept : HasSameEntries v.reserving w.reserving) where
  took_still : (n : ℕ) → TookIn n v.reserving → entries_under n k.order ≡ entries_under n m.order
  took_still n t = taken_entries opening words home views k id v here is n t.0 t.1 t.2
      ∙ sym (taken_entries opening later home_later views_later m other w there still n t.0
      (subst (λ (js : List Joined). Contains js t.0) (sym kept.joined) t.1) t.2)

  own_still : (n : ℕ) → n ≡ (v.reserving).number → entries_under n k.order ≡ entries_under n m.order
  own_still n own = own_entries opening words home views k id v here is n own ∙ sym kept.entries
      ∙ sym (own_entries opening later home_later views_later m other w there still n
      (own ∙ sym kept.number))

  agree : (n : ℕ) → entries_under n k.order ≡ entries_under n m.order
  agree n = by_first (whose opening words home views k id v here is n)
    where
      by_second : entries_under n k.order ≡ [] → (n ≡ (w.reserving).number) ⊎ TookIn n w.reserving
          ⊎ (entries_under n m.order ≡ []) → entries_under n k.order ≡ entries_under n m.order
      by_second none (inl own) = own_still n (own ∙ kept.number)
      by_second none (inr (inl t)) = took_still n
          (t.0, subst (λ (js : List Joined). Contains js t.0) kept.joined t.1, t.2)
      by_second none (inr (inr also)) = none ∙ sym also

      by_first : (n ≡ (v.reserving).number) ⊎ TookIn n v.reserving ⊎ (entries_under n k.order ≡ [])
          → entries_under n k.order ≡ entries_under n m.order
      by_first (inl own) = own_still n own
      by_first (inr (inl t)) = took_still n t
      by_first (inr (inr none)) = by_second none
          (whose opening later home_later views_later m other w there still n)

  same_order : k.order ≡ m.order
  same_order = one_order opening k.order m.order (k.reserved).chained
      (m.reserved).chained (k.reserved).owned (m.reserved).owned agree

  even : (ws : List ℕ) (u : View) → HasAllThatIsHeld ws u → (u.reserving).place ≡ Free
      → position_word ws % 2 ≡ 0
  even ws u held free = dite (ℕ_discrete (position_word ws % 2) 1)
      (λ odd. absurd (held.position odd free))
      (λ other. omega (arith, other))

  pub same_position : (v.reserving).place ≡ Free → (w.reserving).place ≡ Free
      → position_word later ≡ position_word words
  same_position free free_still =
      let one = even words v (has_all opening words home views k id v here is) free in
      let two = even later w
      (has_all opening later home_later views_later m other w there still) free_still in
      let end = (shared opening words home views k).end in
      let end_later = (shared opening later home_later views_later m).end in
      let orders = ap (λ (es : List Entry). order_end opening es) same_order in
      omega (arith, one, two, end, end_later, orders)
