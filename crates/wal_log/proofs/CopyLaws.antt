-- A copy under locks: its next word lies far below the last address, and each step leaves a copy
-- under them.
use Rattle.std.proofs.Common.{◌≡◌, ℕ, ◌+◌, ◌*◌, ◌%◌, ◌^◌, ◌<◌, ◌≤◌, Contains, List, ◌∷◌, map, max, refl, sym, ap, ◌∙◌, subst, arith}
use Rattle.std.proofs.Math.Logic.{∥∥₁_elim}
use Rattle.std.specs.Coded.{Coded-set, coded_ℕ, le_prop}
use Rattle.atomic_table.proofs.Lists.{at_map}
use Rattle.byte_position.specs.Geometry.{IsSegmentSize}
use Rattle.byte_position.specs.Position.{end_address_of}
use Rattle.byte_position.proofs.EndAddresses.{end_address_of-le_address_of, end_address_of-mono}
use Rattle.byte_position.proofs.Rising.{address_of-bound}
use Rattle.machine_state.proofs.Bounds.{limit_low}
use Rattle.wal_page.specs.Order.{Entry, finish_of, position_behind, rooms_of}
use Rattle.wal_page.specs.EntryWords.{address_of_word, words_owned}
use Rattle.wal_page.specs.Placed.{PlacedState, placed_end}
use Rattle.wal_page.proofs.OrderLaws.{FollowsFrom-parts, rooms_of-append, rooms_of_cons}
use Rattle.machine_state.specs.declared.setup.Setup.{Setup}
use Rattle.machine_state.specs.Ringed.{IsOfOrder}
use Rattle.machine_state.specs.Sound.{IsSound}
use Rattle.machine_state.specs.Views.{Copy, Copying, Flight, HasAt, Landed, Working, flight_of, View}
use Rattle.machine_laws.proofs.HeldLaws.{copying_same}
use Rattle.machine_laws.proofs.RingLaws.{copy-whole, last_word-ends}
use Rattle.wal_rule.specs.Stepping.{Stands}
use Rattle.insert_locks.specs.Holding.{HasTold}
use Rattle.word_ring.specs.Copied.{CopiesPage, IsRestOf, copied_view, further, rest_of}
use Rattle.word_ring.specs.Mapped.{IsOldPageUnwritten}
use Rattle.word_ring.specs.Ring.{confirmed_view, end_of_page}
use Rattle.wal_rule.specs.declared.seated.SeatedPass.{SeatedPass}
use Rattle.wal_rule.specs.SeatedPasses.{HasView, StaysSeated, setup_of, view_of}
use Rattle.wal_log.specs.Copying.{CopyGoesOn, IsSamePlace, IsToldUnderAll, MapsPage, mapped_view}
use Rattle.wal_log.specs.Downs.{KnowsNoFault}
use Rattle.wal_log.specs.PassLogs.{log_of_pass}
use Rattle.wal_log.specs.Standing.{CopiesAlone, CopiesUnder, GoesOnSeated, HasNoTurn, KeepsPass, KeepsWork, entry_in_flight, entry_of_flight}
use Rattle.wal_log.proofs.Keeping.{copies_stay, further_pass, same_pass, told_pass}
use Rattle.wal_log.proofs.Seated.{further_seated, own_setup, same_setup, seat_stays, view_is}
use Rattle.machine_state.specs.Words.{Opening, order_end, GoesOnAtPlace}

-- an entry in flight ends at the order's end or before
entry-within : (opening : Opening) (order : List Entry) → GoesOnAtPlace opening order → (c : Copy)
    → IsOfOrder opening order c
    → position_behind (opening.setup).seg_size c.entry ≤ order_end opening order
entry-within opening order chain c s =
    let size : ℕ = (opening.setup).seg_size in
    let from : ℕ = (opening.place).position in
    let parts = FollowsFrom-parts size from s.front (c.entry ∷ s.back)
    (subst (GoesOnAtPlace opening) s.are chain) in
    let start : (c.entry).start ≡ from + rooms_of size s.front = parts.1.0 in
    let all : rooms_of size order
    ≡ rooms_of size s.front + rooms_of size (c.entry ∷ s.back) =
    ap (rooms_of size) s.are ∙ rooms_of-append size s.front (c.entry ∷ s.back) in
    omega (arith, start, all, rooms_of_cons size c.entry s.back)

module _ (v : View) (stands : Stands v) (c : Copy) (is : (v.working).flight ≡ Copying c) where
  abbrev size : ℕ
  size = ((v.opening).setup).seg_size

  abbrev sound : IsSound stands.first v.opening stands.words stands.home stands.views
  sound = stands.sound

  abbrev last : ℕ
  last = order_end v.opening sound.order

  valid : IsSegmentSize size
  valid = (sound.setup_is).size

  of_order : IsOfOrder v.opening sound.order c
  of_order = (sound.ring).in_flight stands.id c
      (subst (λ (f : Flight). HasAt (map flight_of stands.views) stands.id f) is
      (at_map flight_of stands.views stands.id v stands.here))

  whole : (c.entry).start % 8 ≡ 0
  whole = copy-whole v.opening valid (sound.reserved).placed sound.order (sound.reserved).chained c of_order

  -- behind its last word the entry ends
  ends : address_of_word size c.entry (words_owned size c.entry) ≡ finish_of size c.entry
  ends = last_word-ends size valid c.entry whole

  end_low : end_address_of size last < 2 ^ 50
  end_low =
      let within = (sound.reserved).within in
      omega (
        arith,
        within,
        limit_low (v.opening).setup sound.setup_is,
        end_address_of-le_address_of size valid last,
        address_of-bound size valid last,
      )

  pub word_low : address_of_word size c.entry c.copied < 2 ^ 50
  word_low =
      let within = of_order.copied_within in
      let inside = entry-within v.opening sound.order (sound.reserved).chained c of_order in
      let rises = end_address_of-mono size valid (position_behind size c.entry) last inside in
      let ended = ends in
      let low = end_low in
      omega (arith, within, ended, rises, low)

  -- where the next word is the one behind the entry's last, all are copied
  pub whole_where_ended : address_of_word size c.entry c.copied ≡ finish_of size c.entry
      → c.copied ≡ words_owned size c.entry
  whole_where_ended here = let ended = ends in omega (arith, here, ended)

-- ---- a copy under locks

module _ (setup : Setup) (locks : List ℕ) (placed : PlacedState) (v : View)
    (c : CopiesUnder setup locks placed v) where
  flight_is : (v.working).flight ≡ Copying c.copy
  flight_is = ap (λ (w : Working). w.flight) c.working

  module _ (stood : ∥ Stands v ∥₁) (own : setup ≡ (v.opening).setup) where
    rest_own : placed ≡ rest_of (v.opening).setup c.copy
    rest_own = c.rest ∙ ap (λ (s : Setup). rest_of s c.copy) own

    pub next_low : placed.next < 2 ^ 50
    next_low = ∥∥₁_elim stood le_prop (λ (stands : Stands v).
        let next = ap (λ (p : PlacedState). p.next) rest_own in
        let low = word_low v stands c.copy flight_is in
        omega (arith, next, low))

    pub all_copied : (before : PlacedState) → IsSamePlace before placed
        → placed.next ≡ placed_end before
        → (c.copy).copied ≡ words_owned ((v.opening).setup).seg_size (c.copy).entry
    all_copied before same ended =
        let here : placed.next ≡ placed_end placed = ended ∙ sym (ap placed_end same) in
        ∥∥₁_elim stood (Coded-set coded_ℕ _ _) (λ (stands : Stands v).
        whole_where_ended v stands c.copy flight_is
        (subst (λ (p : PlacedState). p.next ≡ placed_end p) rest_own here))

-- ---- steps of a copy

-- the entry in flight is the same so many words further on
further_same : (count : ℕ) (f : Flight) → entry_of_flight (further count f) ≡ entry_of_flight f
further_same count Landed = refl
further_same count (Copying c) = refl

-- what steps of a copy keep: the locks, the words that are left, the entry, the pass and its log
pub record StaysCopying (setup : Setup) (before after : PlacedState) (old new : View) : Type 0
  where
    pub copies : (locks : List ℕ) → CopiesUnder setup locks before old
        → CopiesUnder setup locks after new
    pub keeps : KeepsPass old new
    pub async : new.async_met ≡ old.async_met
    pub up : KnowsNoFault old → KnowsNoFault new
    pub entry_is : entry_in_flight new ≡ entry_in_flight old
    pub log_is : log_of_pass new ≡ log_of_pass old

module _ (setup : Setup) (p : PlacedState) (v : View) where
  pub stays : StaysCopying setup p p v v
  stays = record {
    copies = λ locks c. c;
    keeps = same_pass v;
    async = refl;
    up = λ up. up;
    entry_is = refl;
    log_is = refl;
  }

  pub mapped_stays : (confirmed written : ℕ)
      → StaysCopying setup p p v (mapped_view confirmed written v)
  mapped_stays confirmed written = record {
    copies = λ locks c. record {
      copy = c.copy;
      working = c.working;
      under = c.under;
      rest = c.rest;
      place = c.place;
      stage = c.stage;
      hold = c.hold;
    };
    keeps = record {
      opening = refl;
      live = refl;
      number = refl;
      spare = refl;
      spare_end = refl;
      joined = refl;
      counts = omega arith;
      rises = omega arith;
      down = λ faults knows. knows;
    };
    async = refl;
    up = λ up. record { met = up.met; set = up.set };
    entry_is = refl;
    log_is = refl;
  }

  -- so many words more are copied
  pub copied_stays : (count : ℕ)
      → StaysCopying setup p (record p { next = p.next + 8 * count }) v (copied_view count v)
  copied_stays count = record {
    copies = λ locks c.
        let further_on : address_of_word setup.seg_size (c.copy).entry (c.copy).copied
        + 8 * count
        ≡ address_of_word setup.seg_size (c.copy).entry ((c.copy).copied + count) =
        omega arith in
        record {
          copy = record c.copy { copied = (c.copy).copied + count };
          working = ap (λ (w : Working). record w { flight = further count w.flight }) c.working;
          under = c.under;
          rest = ap (λ (q : PlacedState). record q { next = q.next + 8 * count }) c.rest
              ∙ ap (λ (n : ℕ). record (rest_of setup c.copy) { next = n }) further_on;
          place = c.place;
          stage = c.stage;
          hold = c.hold;
        };
    keeps = record {
      opening = refl;
      live = refl;
      number = refl;
      spare = refl;
      spare_end = refl;
      joined = refl;
      counts = omega arith;
      rises = omega arith;
      down = λ faults knows. knows;
    };
    async = refl;
    up = λ up. record { met = up.met; set = up.set };
    entry_is = further_same count (v.working).flight;
    log_is = refl;
  }

module _ (setup : Setup) (p q r : PlacedState) (u v w : View) where
  pub stays_on : StaysCopying setup p q u v → StaysCopying setup q r v w
      → StaysCopying setup p r u w
  stays_on x y = record {
    copies = λ locks c. y.copies locks (x.copies locks c);
    keeps = further_pass u v w x.keeps y.keeps;
    async = y.async ∙ x.async;
    up = λ up. y.up (x.up up);
    entry_is = y.entry_is ∙ x.entry_is;
    log_is = y.log_is ∙ x.log_is;
  }

-- what is written ends far below the last address, where a page that is asked for does
pub written_low : (setup : Setup) (page at told : ℕ) → page < 2 ^ 40 → at < end_of_page page
    → IsOldPageUnwritten setup at told → told < 2 ^ 60
written_low setup page at told low met old = omega (arith, low, met, old)

-- a record that was at the same place is so still
pub same_place : (a b c : PlacedState) → IsSamePlace a b → IsSamePlace b c → IsSamePlace a c
same_place a b c x y = y ∙ ap (λ (p : PlacedState). record p { next = c.next }) x

-- ---- at a pass's table

module _ {D : Type 0} (old new : SeatedPass D) (seats : StaysSeated old new) where
  module _ (p q : PlacedState)
      (s : StaysCopying (setup_of old) p q (view_of old) (view_of new)) where
    pub copies_still : (locks : List ℕ) → CopiesAlone locks p old → CopiesAlone locks q new
    copies_still locks c = record {
      some = c.some;
      are = c.are;
      under = subst (λ (setup : Setup). CopiesUnder setup locks q (view_of new))
          (sym (same_setup old new seats.same_table)) (s.copies locks c.under);
      empty = seats.same_hand ∙ c.empty;
    }

    pub went_on : IsSamePlace p q → CopyGoesOn p q old new
    went_on place = record {
      place = place;
      entry = s.entry_is;
      goes_on = record { stays = seats; keeps = s.keeps; async = s.async };
      log = s.log_is;
    }

-- work that stays, at the same table and with nothing in hand, leaves a copy under its locks
pub alone_still : {D : Type 0} → (old new : SeatedPass D) → new.table ≡ old.table
    → KeepsWork (view_of old) (view_of new) → HasNoTurn new → (locks : List ℕ) (p : PlacedState)
    → CopiesAlone locks p old → CopiesAlone locks p new
alone_still old new same work rests locks p c = record {
  some = c.some;
  are = c.are;
  under = subst (λ (setup : Setup). CopiesUnder setup locks p (view_of new))
      (sym (same_setup old new same))
      (copies_stay (setup_of old) locks p (view_of old) (view_of new) c.under work rests.idle);
  empty = rests.empty;
}

-- its next word lies far below the last address
pub alone_low : {D : Type 0} → (v : SeatedPass D) (locks : List ℕ) (p : PlacedState)
    → CopiesAlone locks p v → p.next < 2 ^ 50
alone_low v locks p c = next_low (setup_of v) locks p (view_of v) c.under (v.seated).stands
    (sym (own_setup v))

-- and where the record has ended, all its words are copied
pub alone_whole : {D : Type 0} → (v : SeatedPass D) (locks : List ℕ) (p : PlacedState)
    → (c : CopiesAlone locks p v) → (before : PlacedState) → IsSamePlace before p
    → p.next ≡ placed_end before
    → ((c.under).copy).copied
    ≡ words_owned (((view_of v).opening).setup).seg_size ((c.under).copy).entry
alone_whole v locks p c = all_copied (setup_of v) locks p (view_of v) c.under (v.seated).stands
    (sym (own_setup v))

-- one copy behind another
pub copied_on : {D : Type 0} → (p q r : PlacedState) (a b c : SeatedPass D) → CopyGoesOn p q a b
    → CopyGoesOn q r b c → CopyGoesOn p r a c
copied_on p q r a b c x y = record {
  place = same_place p q r x.place y.place;
  entry = y.entry ∙ x.entry;
  goes_on = record {
    stays = further_seated a b c (x.goes_on).stays (y.goes_on).stays;
    keeps = further_pass (view_of a) (view_of b) (view_of c) (x.goes_on).keeps (y.goes_on).keeps;
    async = (y.goes_on).async ∙ (x.goes_on).async;
  };
  log = y.log ∙ x.log;
}

-- steps that copy nothing, leave what is in flight, and add nothing to the log
pub stood_still : {D : Type 0} → (p : PlacedState) (a b : SeatedPass D) → GoesOnSeated a b
    → log_of_pass (view_of b) ≡ log_of_pass (view_of a)
    → (view_of b).working ≡ (view_of a).working → CopyGoesOn p p a b
stood_still p a b goes_on same work = record {
  place = refl;
  entry = ap (λ (w : Working). entry_of_flight w.flight) work;
  goes_on = goes_on;
  log = same;
}

-- ---- a page is reached, and its words are copied

-- the words that are left of a pass's copy are those of its record
pub alone_rest : {D : Type 0} → (v : SeatedPass D) (locks : List ℕ) (p : PlacedState)
    → CopiesAlone locks p v → IsRestOf (setup_of v) (view_of v) p
alone_rest v locks p c = (
  (c.under).copy,
  ap (λ (w : Working). w.flight) (c.under).working,
  (c.under).rest,
)

pub reached_stays : {D : Type 0} → (p : PlacedState) (a b : SeatedPass D) → MapsPage a b
    → StaysCopying (setup_of a) p p (view_of a) (view_of b)
reached_stays p a b maps = subst (λ (w : View). StaysCopying (setup_of a) p p (view_of a) w)
    (sym maps.view_is) (mapped_stays (setup_of a) p (view_of a) maps.confirmed maps.written)

pub page_stays : {D : Type 0} → (p q : PlacedState) (a b c : SeatedPass D) (most count : ℕ)
    → MapsPage a b → CopiesPage most count (view_of b) (view_of c) p q
    → StaysCopying (setup_of a) p q (view_of a) (view_of c)
page_stays p q a b c most count maps k =
    stays_on (setup_of a) p p q (view_of a) (view_of b) (view_of c) (reached_stays p a b maps)
    (subst (λ (w : View). StaysCopying (setup_of a) p q (view_of b) w) (sym k.view_is)
    (subst (λ (s : PlacedState).
    StaysCopying (setup_of a) p s (view_of b) (copied_view count (view_of b)))
    (sym k.placed_is) (copied_stays (setup_of a) p (view_of b) count)))

-- the end of some page was met, and so many words were copied
pub there_stays : {D : Type 0} → (p q : PlacedState) (a b : SeatedPass D) (met count : ℕ)
    → HasView (copied_view count (confirmed_view met (view_of a))) a b
    → q ≡ record p { next = p.next + 8 * count }
    → StaysCopying (setup_of a) p q (view_of a) (view_of b)
there_stays p q a b met count has is =
    let v : View = view_of a in
    let setup : Setup = setup_of a in
    let w : View = confirmed_view met v in
    subst (λ (x : View). StaysCopying setup p q v x) (sym (view_is has))
    (subst (λ (r : PlacedState). StaysCopying setup p r v (copied_view count w)) (sym is)
    (stays_on setup p p (record p { next = p.next + 8 * count }) v w (copied_view count w)
    (mapped_stays setup p v (max v.mapping.confirmed met) v.writing.written)
    (copied_stays setup p w count)))

-- a pass as it was, and one that has told how far its copy is
pub goes_on_itself : {D : Type 0} → (a : SeatedPass D) → GoesOnSeated a a
goes_on_itself a = record {
  stays = record { same_table = refl; same_hand = refl };
  keeps = same_pass (view_of a);
  async = refl;
}

pub told_keeps : {D : Type 0} → (a b : SeatedPass D) (locks : List ℕ) (upto : ℕ)
    → HasTold locks upto a b → GoesOnSeated a b
told_keeps a b locks upto has = record {
  stays = seat_stays has.view;
  keeps = subst (λ (w : View). KeepsPass (view_of a) w) (sym (view_is has.view))
      (told_pass upto has.under (view_of a));
  async = ap (λ (w : View). w.async_met) (view_is has.view);
}

-- what was told under each lock of a copy alone was told under each under which its entry stands
pub told_under_all : {D : Type 0} → (a b : SeatedPass D) (locks : List ℕ) (p : PlacedState)
    (upto : ℕ) → CopiesAlone locks p a → HasTold locks upto a b → IsToldUnderAll (view_of b)
told_under_all a b locks p upto copies has = subst IsToldUnderAll (sym (view_is has.view))
    (λ c is lock stands. has.each lock (subst (λ (ls : List ℕ). Contains ls lock)
    (ap (λ (d : Copy). d.locks) (copying_same c ((copies.under).copy)
    (sym is ∙ ap (λ (w : Working). w.flight) (copies.under).working)) ∙ (copies.under).under)
    stands))
