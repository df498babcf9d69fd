-- What a step leaves: each part of the invariant is kept where the step changes no word that the
-- part reads, and in its pass's view nothing of which the part speaks.
use Rattle.std.proofs.Common.{◌≡◌, ◌≢◌, ℕ, ◌≤◌, Bool, cond, true, false, List, length, map, set, slice_index, refl, sym, subst, arith}
use mathlib.Core.Option.{Option}
use Rattle.byte_position.specs.Geometry.{IsSegmentSize}
use Rattle.byte_position.proofs.EndAddresses.{end_address_of-mono}
use Rattle.machine_state.specs.declared.setup.Setup.{Setup}
use Rattle.machine_state.specs.Words.{Opening, position_word, prev_word, written_word, flushed_word, down_word, word_count, end_form, written_number, flushed_number, down_number}
use Rattle.machine_state.specs.Views.{HasAt, Plain, View, reserving_of, flight_of, writing_of}
use Rattle.machine_state.specs.Ordered.{OrderHolds}
use Rattle.machine_state.specs.Positioned.{PositionsHold}
use Rattle.machine_state.specs.Steps.{StepKind, word_of_step, value_behind, view_behind}
use Rattle.machine_laws.specs.InvariantKept.{number_met}
use Rattle.machine_state.specs.Sound.{IsGrounded, IsSound}
use Rattle.machine_state.proofs.Lists.{one_set, part_same}
use Rattle.machine_state.proofs.WordLists.{word_else, wide_still}
use Rattle.segment_disk.specs.Tape.{DiskState}

-- a step of one pass: the state before, which keeps the invariant, and the word that it stores with
-- its value and its pass's view behind it
pub record Moved : Type 0 where
  pub first : DiskState
  pub words : List ℕ
  pub home : Option Plain
  pub views : List View
  pub id : ℕ
  pub v : View
  pub k : IsSound first v.opening words home views
  pub here : HasAt views id v
  pub i : ℕ
  pub n : ℕ
  pub w : View

module _ {first : DiskState} (words : List ℕ) (home : Option Plain) (views : List View) (id : ℕ) (v : View)
    (k : IsSound first v.opening words home views) (here : HasAt views id v) (e : StepKind) where
  -- the step of this kind
  abbrev pub moved : Moved
  moved = record {
    first = first;
    words = words;
    home = home;
    views = views;
    id = id;
    v = v;
    k = k;
    here = here;
    i = word_of_step v e;
    n = value_behind v e (number_met words v e);
    w = view_behind v e (number_met words v e) home;
  }

-- one of two views, of which some part is the same
pub same_either : {A : Type 0} (part : View → A) (b : Bool) (x y : View) → part x ≡ part y
    → part (cond b x y) ≡ part y
same_either part true x y same = same
same_either part false x y same = refl

-- whoever has seen more reserved may watch for as much
pub watches_still : (setup : Setup) → IsSegmentSize setup.seg_size → (end seen more : ℕ)
    → end ≤ end_form setup seen → seen ≤ more → end ≤ end_form setup more
watches_still setup valid end seen more low up =
    let rises = end_address_of-mono setup.seg_size valid seen more up in omega arith

-- a live view that knows what is fixed, and watches for no more than it has seen
pub grounded_live : (opening : Opening) (down : ℕ) (w : View) → w.opening ≡ opening
    → (w.reserving).live ≡ true
    → (w.watching).end ≤ end_form opening.setup (w.reserving).seen → IsGrounded opening down w
grounded_live opening down w is live low = record {
  opening_is = λ alive. is;
  watches = λ alive. low;
  at_rest = λ dead. absurd (cc);
  set_none = λ dead. absurd (cc);
  left = λ dead. absurd (cc);
}

-- what is said of a view stays, where a down word once set stays set
grounded_later : (opening : Opening) (down later : ℕ) (w : View) → (down ≢ 0 → later ≢ 0)
    → IsGrounded opening down w → IsGrounded opening later w
grounded_later opening down later w stays g = record {
  opening_is = g.opening_is;
  watches = g.watches;
  at_rest = g.at_rest;
  set_none = g.set_none;
  left = λ dead has. stays (g.left dead has);
}

module _ (s : Moved) where
  abbrev words : List ℕ
  words = s.words

  abbrev home : Option Plain
  home = s.home

  abbrev views : List View
  views = s.views

  abbrev id : ℕ
  id = s.id

  abbrev v : View
  v = s.v

  abbrev k : IsSound s.first (s.v).opening s.words s.home s.views
  k = s.k

  abbrev here : HasAt s.views s.id s.v
  here = s.here

  abbrev i : ℕ
  i = s.i

  abbrev n : ℕ
  n = s.n

  abbrev w : View
  w = s.w

  abbrev opening : Opening
  opening = v.opening

  abbrev setup : Setup
  setup = opening.setup

  abbrev pub later : List ℕ
  later = set words i n

  abbrev pub views_later : List View
  views_later = set views id w

  -- a word that is not the one stored
  same_word : (j : ℕ) → j ≢ i → slice_index later j ≡ slice_index words j
  same_word j apart = word_else words i n j apart

  pub wide_stays : length later ≡ word_count setup
  wide_stays = wide_still setup words i n k.wide

  pub grounded_stay : (down_word words ≢ 0 → down_word later ≢ 0)
      → IsGrounded opening (down_word later) w
      → (j : ℕ) (u : View) → HasAt views_later j u → IsGrounded opening (down_word later) u
  grounded_stay stays grounded =
      one_set (λ j u. IsGrounded opening (down_word later) u) views id w
      (λ j u apart at. grounded_later opening (down_word words) (down_word later) u stays
      (k.grounded j u at)) grounded

  pub order_stays : reserving_of w ≡ reserving_of v → 2 ≤ i
      → OrderHolds opening k.order (position_word later) (prev_word later)
      (map reserving_of views_later)
  order_stays same above =
      let position = same_word 0 (λ e. omega arith) in
      let prev = same_word 1 (λ e. omega arith) in
      let parts = part_same reserving_of views id v w here same in
      subst (λ (x : ℕ × ℕ × List _). OrderHolds opening k.order x.0 x.1 x.2)
      (λ j. (sym position j, sym prev j, sym parts j)) k.reserved

  pub positions_stay : flight_of w ≡ flight_of v → writing_of w ≡ writing_of v
      → i ≢ written_number → i ≢ flushed_number → i ≢ down_number
      → PositionsHold s.first opening k.order (written_word later) (flushed_word later) (down_word later)
      home k.writer (map flight_of views_later) (map writing_of views_later)
  positions_stay same_flight same apart_written apart_flushed apart_down =
      let written = same_word written_number (λ e. apart_written (sym e)) in
      let flushed = same_word flushed_number (λ e. apart_flushed (sym e)) in
      let down = same_word down_number (λ e. apart_down (sym e)) in
      let flights = part_same flight_of views id v w here same_flight in
      let parts = part_same writing_of views id v w here same in
      subst (λ (x : ℕ × ℕ × ℕ × List _ × List _).
      PositionsHold s.first opening k.order x.0 x.1 x.2 home k.writer x.3 x.4)
      (λ j. (sym written j, sym flushed j, sym down j, sym flights j, sym parts j)) k.positions
