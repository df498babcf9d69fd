-- Changes of two lanes that were answered are in the map that the next opening gives.
use Rattle.std.proofs.Common.{◌≡◌, ◌≢◌, ℕ, ◌^◌, ◌+◌, ◌<◌, ◌≤◌, All, Contains, List, [], ◌∷◌, ◌++◌, length, map, Option, Some, None, inl, inr, refl, sym, ap, subst, ◌∙◌, arith}
use Rattle.std.specs.Prelude.{IsSome, IsSomeAnd}
use Rattle.std.proofs.lemmas.Bool.{cases_eq}
use Rattle.std.proofs.lemmas.List.{take_all}
use Rattle.std.proofs.lemmas.List.Elements.{All-cons, All-contains, All-contains_itself, All-head, All-map, All-nil, All-tail, All-weaker, Contains-append_left, Contains-append_right, Contains-push, Contains-push_cases}
use Rattle.segment_disk.specs.declared.disk.Call.{Call}
use Rattle.segment_disk.specs.DiskImage.{image_as_read}
use Rattle.segment_disk.specs.Tape.{Tape, state_now}
use Rattle.flush_core.specs.Pages.{HoldsNothing}
use Rattle.wal_page.specs.Order.{Entry}
use Rattle.wal_reader.specs.Pages.{pages_in}
use Rattle.written_log_laws.specs.Torn.{NoTornPass}
use Rattle.machine_state.specs.declared.setup.Setup.{Setup}
use Rattle.wal_log.specs.declared.closing.Closed.{Closed}
use Rattle.wal_log.specs.declared.wal.Wal.{Wal}
use Rattle.wal_log.specs.Closing.{ClosesLog}
use Rattle.wal_log.specs.Logs.{opening_of_log}
use Rattle.wal_log_laws.specs.Growing.{IsFrontOf, IsNewPass, NumberedLog, numbered_log}
use Rattle.wal_log_laws.specs.History.{order_of}
use Rattle.wal_log_laws.specs.Lives.{PromisedRecordsStay}
use Rattle.durable_map.specs.Asked.{change_asked, key_of_call}
use Rattle.durable_map.specs.Calls.{begun_in}
use Rattle.durable_map.specs.Changes.{MapChange}
use Rattle.durable_map.specs.History.{SharesMap, shares}
use Rattle.durable_map.specs.Lives.{AnsweredChangesStay}
use Rattle.durable_map.specs.Opening.{OpensMap}
use Rattle.durable_map.specs.Sharing.{ClosesShared, IsSharedFrom, lanes_of, log_in_lane}
use Rattle.durable_map.specs.Stores.{log_under, map_held, view_of_part, view_under}
use Rattle.durable_map.specs.TwoLanes.{FindsBoth, HasWhatWasAsked, IsOfEither, MadeAlone, MadeByTwo}
use Rattle.durable_map.specs.Weaving.{AreAllLanes, HasItsOwn, HasItsPlace, IsLane, LaneCalls, LogsWeaveLanes, PassChange, WasAnsweredInLane, WeavesLanes, changes_in, changes_under, log_of_lane, number_of_lane}
use Rattle.durable_map.specs.declared.asked.MapCall.{MapCall}
use Rattle.durable_map.specs.declared.asked.MapCall.TheVariants.{Set, Get, Del}
use Rattle.durable_map.specs.declared.part.MapPart.{MapPart}
use Rattle.durable_map.specs.declared.sharing.MapLane.{MapLane}
use Rattle.durable_map.specs.declared.sharing.SharedMap.{SharedMap}
use Rattle.durable_map.specs.declared.store.DurableMap.{DurableMap}
use Rattle.durable_map.proofs.FirstLife.{IsFirstLife, closes_same, first_life}
use Rattle.durable_map.proofs.Settling.{AgreesWith, all_under, settled}

-- ---- lists

no_front : (xs : List MapChange) → IsFrontOf xs [] → xs ≡ []
no_front [] front = refl
no_front (x ∷ xs) front = absurd (cc front.1)

all_in_front : {X : Type 0} → (P : X → Type 0) (xs back : List X) → All P (xs ++ back) → All P xs
all_in_front P xs back all = All-weaker (Contains xs) P
    (λ x has. All-contains P (xs ++ back) x all (Contains-append_left xs back x has)) xs
    (All-contains_itself xs)

all_before : {X Y : Type 0} → (P : Y → Type 0) (f : X → Y) (xs : List X) → All P (map f xs)
    → All (λ x. P (f x)) xs
all_before P f [] all = All-nil (λ x. P (f x))
all_before P f (x ∷ xs) all = All-cons (λ x. P (f x)) x xs (All-head P (f x) (map f xs) all)
    (all_before P f xs (All-tail P (f x) (map f xs) all))

same_some : (x y : MapChange) → Some x ≡ Some y → x ≡ y
same_some x y same = cc

-- ---- lanes, with the last one first

same_first : (x y : MapPart) (xs ys : List MapPart) → x ∷ xs ≡ y ∷ ys → x ≡ y
same_first x y xs ys same = cc

same_others : (x y : MapPart) (xs ys : List MapPart) → x ∷ xs ≡ y ∷ ys → xs ≡ ys
same_others x y xs ys same = cc

-- what all but the last one made, and it
record IsParted (lanes : List LaneCalls) (others : List MapLane) (own : MapLane) : Type 0 where
  pub front : List LaneCalls
  pub last : LaneCalls
  pub are : lanes ≡ front ++ last ∷ []
  pub fronts : map log_of_lane front ≡ map log_in_lane others
  pub lasts : log_of_lane last ≡ log_in_lane own

same_log : (lane : LaneCalls) (own : MapLane) → lane.last ≡ own.part
    → log_of_lane lane ≡ log_in_lane own
same_log lane own same = ap (λ (p : MapPart). numbered_log (view_of_part p)) same

parted : (lanes : List LaneCalls) (others : List MapLane) (own : MapLane)
    → map (λ (l : LaneCalls). l.last) lanes ≡ map (λ (l : MapLane). l.part) (others ++ own ∷ [])
    → IsParted lanes others own
parted [] [] own same = absurd (cc)
parted [] (o ∷ others) own same = absurd (cc)
parted (l ∷ []) [] own same = record {
  front = [];
  last = l;
  are = refl;
  fronts = refl;
  lasts = same_log l own (same_first l.last own.part [] [] same);
}
parted (l ∷ m ∷ lanes) [] own same = absurd (cc)
parted (l ∷ lanes) (o ∷ others) own same =
    let rest = parted lanes others own (same_others l.last o.part
    (map (λ (l : LaneCalls). l.last) lanes)
    (map (λ (l : MapLane). l.part) (others ++ own ∷ [])) same) in
    record {
      front = l ∷ rest.front;
      last = rest.last;
      are = ap (λ (ls : List LaneCalls). l ∷ ls) rest.are;
      fronts = ap (λ (n : NumberedLog). n ∷ map log_of_lane rest.front)
          (same_log l o (same_first l.last o.part (map (λ (l : LaneCalls). l.last) lanes)
          (map (λ (l : MapLane). l.part) (others ++ own ∷ [])) same))
          ∙ ap (λ (ns : List NumberedLog). log_in_lane o ∷ ns) rest.fronts;
      lasts = rest.lasts;
    }

turn_all : (P : LaneCalls → Type 0) (lanes front : List LaneCalls) (last : LaneCalls)
    → lanes ≡ front ++ last ∷ [] → All P lanes → All P (last ∷ front)
turn_all P lanes front last are all =
    let turned = subst (All P) are all in
    All-cons P last front
    (All-contains P (front ++ last ∷ []) last turned (Contains-push front last))
    (all_in_front P front (last ∷ []) turned)

turn_contains : (lanes front : List LaneCalls) (last lane : LaneCalls)
    → lanes ≡ front ++ last ∷ [] → Contains lanes lane → Contains (last ∷ front) lane
turn_contains lanes front last lane are has =
    elim (Contains-push_cases front last lane
    (subst (λ (ls : List LaneCalls). Contains ls lane) are has)) [
      | inl other ↦ Contains-append_right (last ∷ []) front lane other
      | inr is ↦ subst (Contains (last ∷ front)) is
          (Contains-append_left (last ∷ []) front last (Contains-push [] last))
    ]

-- ---- what is woven of lanes' changes

of_number : (P : MapChange → Type 0) (n : ℕ) (woven : List PassChange) (lanes : List LaneCalls)
    → All (HasItsOwn woven) lanes → All (λ (l : LaneCalls). All P (begun_in l.calls)) lanes
    → (All (λ (l : LaneCalls). n ≢ number_of_lane l) lanes → changes_under n woven ≡ [])
    → All P (changes_under n woven)
of_number P n woven [] own so none = subst (All P)
    (sym (none (All-nil (λ (l : LaneCalls). n ≢ number_of_lane l)))) (All-nil P)
of_number P n woven (l ∷ lanes) own so none = elim (cases_eq n (number_of_lane l)) [
  | inl same ↦ subst (λ (m : ℕ). All P (changes_under m woven)) (sym same)
      (subst (All P) (sym (All-head (HasItsOwn woven) l lanes own))
      (All-head (λ (l : LaneCalls). All P (begun_in l.calls)) l lanes so))
  | inr other ↦ of_number P n woven lanes (All-tail (HasItsOwn woven) l lanes own)
      (All-tail (λ (l : LaneCalls). All P (begun_in l.calls)) l lanes so)
      (λ others. none (All-cons (λ (l : LaneCalls). n ≢ number_of_lane l) l lanes other others))
]

-- ---- two calls

asked_key : (call : MapCall) (change : MapChange) → change_asked call ≡ Some change
    → change.key ≡ key_of_call call
asked_key (Set key value) change asked = ap (λ (c : MapChange). c.key)
    (sym (same_some (record { key = key.items; value = Some value.items }) change asked))
asked_key (Del key) change asked = ap (λ (c : MapChange). c.key)
    (sym (same_some (record { key = key.items; value = None }) change asked))
asked_key (Get key) change asked = absurd (cc asked)

agrees : (one other : MapCall) (change c : MapChange) → key_of_call one ≢ key_of_call other
    → change_asked one ≡ Some change → IsOfEither one other c → AgreesWith change c
agrees one other change c apart asked (inl is) = λ same. ap (λ (m : MapChange). m.value)
    (same_some c change (sym is ∙ asked))
agrees one other change c apart asked (inr is) = λ same. absurd (apart
    (sym (asked_key one change asked) ∙ sym same ∙ asked_key other c is))

turned : (one other : MapCall) (c : MapChange) → IsOfEither one other c → IsOfEither other one c
turned one other c (inl is) = inr is
turned one other c (inr is) = inl is

-- ---- two lives

module _ {D : Type 0} (tape : D → Option Tape) (moment faults : D → ℕ)
    (stay : PromisedRecordsStay tape moment faults)
    (answered : AnsweredChangesStay tape moment faults)
    (weaves : LogsWeaveLanes tape moment faults) (setup : Setup) (disk : D) (map_of_disk : DurableMap D)
    (shared used : SharedMap D) (closed : Closed D) (again : DurableMap D) (one other : MapCall)
    (opened : OpensMap tape moment faults setup disk map_of_disk)
    (from : IsSharedFrom map_of_disk shared) (log : used.log ≡ shared.log)
    (made : MadeByTwo shared.log one other (lanes_of shared) (lanes_of used))
    (closes : ClosesShared tape moment faults used closed)
    (reopened : OpensMap tape moment faults setup closed.disk again)
    (nothing : HoldsNothing (tape disk)) (tells : IsSome (tape disk))
    (narrow : setup.sysid < 2 ^ 64) where
  first : IsFirstLife tape moment faults setup disk map_of_disk
  first = first_life tape moment faults stay setup disk map_of_disk opened nothing tells narrow

  abbrev wal : Wal D
  wal = log_under map_of_disk

  own_closes : ClosesLog tape moment faults (log_under map_of_disk) closes.pass closed
  own_closes = closes_same tape moment faults used.log wal closes.pass closed (log ∙ from.log)
      closes.closes

  abbrev own : List Entry
  own = order_of tape moment faults (log_under map_of_disk) closes.pass closed own_closes

  -- ---- its lanes

  its : IsParted made.lanes (closes.all).others (closes.all).own
  its = parted made.lanes (closes.all).others (closes.all).own
      (made.lasts ∙ ap (λ (ls : List MapLane). map (λ (l : MapLane). l.part) ls) (closes.all).are)

  abbrev lanes : List LaneCalls
  lanes = its.last ∷ its.front

  new_map : IsNewPass (view_under map_of_disk)
  new_map = subst IsNewPass (sym opened.reopened.view) (record { none = refl; alone = refl })

  new_lanes : All (λ (l : LaneCalls). IsNewPass (view_of_part l.first)) made.lanes
  new_lanes = all_before (λ (p : MapPart). IsNewPass (view_of_part p))
      (λ (l : LaneCalls). l.first) made.lanes
      (subst (All (λ (p : MapPart). IsNewPass (view_of_part p))) (sym made.firsts)
      (All-map (λ (p : MapPart). IsNewPass (view_of_part p)) (λ (l : MapLane). l.part)
      (lanes_of shared) (from.new new_map)))

  each_called : All (IsLane (log_under map_of_disk)) made.lanes
  each_called = subst (λ (w : Wal D). All (IsLane w) made.lanes) from.log
      (λ k d within. record { new = new_lanes k d within; called = made.called k d within })

  all : AreAllLanes (log_under map_of_disk) closes.pass (its.last ∷ its.front)
  all = record {
    each = turn_all (IsLane wal) made.lanes its.front its.last its.are each_called;
    all = (closes.all).logs
        ∙ sym (ap (λ (n : NumberedLog). n ∷ map log_of_lane its.front) its.lasts
        ∙ ap (λ (ns : List NumberedLog). log_in_lane (closes.all).own ∷ ns) its.fronts);
  }

  among : (call : MapCall) (a : MadeAlone made.lanes call)
      → Contains (its.last ∷ its.front) a.lane
  among call a = turn_contains made.lanes its.front its.last a.lane its.are a.there

  -- ---- what its log says

  woven : WeavesLanes
      (order_of tape moment faults (log_under map_of_disk) closes.pass closed own_closes)
      (its.last ∷ its.front)
  woven = weaves wal closes.pass closed own_closes lanes all

  place : (call : MapCall) (a : MadeAlone made.lanes call)
      → HasItsPlace a.lane woven.woven [] a.change
  place call a = woven.placed a.lane [] a.change a.sealed [] (among call a) a.are

  abbrev upto : (call : MapCall) → MadeAlone made.lanes call → List MapChange
  upto call a = opened.read.changes ++ (changes_in (place call a).earlier ++ a.change ∷ [])

  in_lane : (at : ℕ) (call : MapCall) (a : MadeAlone made.lanes call) → a.sealed.moment ≤ at
      → WasAnsweredInLane at opened.read.changes (its.last ∷ its.front) woven.woven (upto call a)
  in_lane at call a by = record {
    lane = a.lane;
    one = among call a;
    before = [];
    change = a.change;
    sealed = a.sealed;
    others = [];
    are = a.are;
    by = by;
    earlier = (place call a).earlier;
    later = (place call a).later;
    there = (place call a).there;
    own = (place call a).own;
    upto_is = refl;
  }

  either : All (IsOfEither one other) (changes_in woven.woven)
  either = all_under (IsOfEither one other) woven.woven (λ n. of_number (IsOfEither one other) n
      woven.woven lanes woven.each
      (turn_all (λ (l : LaneCalls). All (IsOfEither one other) (begun_in l.calls)) made.lanes
      its.front its.last its.are made.no_other) (woven.no_other n))

  nothing_found : opened.read.changes ≡ []
  nothing_found = no_front opened.read.changes
      (answered setup.seg_size setup.sysid first.t [] [] [] first.start setup disk map_of_disk
      first.handed opened).1

  -- ---- and what is found

  module _ (now : Tape) (told : tape closed.disk ≡ Some now)
      (none_torn : NoTornPass setup.seg_size
      (pages_in setup.seg_size (image_as_read (state_now now)))
      (order_of tape moment faults (log_under map_of_disk) closes.pass closed own_closes)) where
    abbrev at : ℕ
    at = length now.calls + made.first.sealed.moment + made.second.sealed.moment
        + (opening_of_log (log_under map_of_disk)).moment

    abbrev marks : List (List MapChange)
    marks = upto one made.first ∷ upto other made.second ∷ []

    life : SharesMap tape moment faults setup.seg_size setup.sysid first.t now
        (first.front ++ order_of tape moment faults (log_under map_of_disk) closes.pass closed
        own_closes)
        (opened.read.changes ++ changes_in woven.woven)
        (upto one made.first ∷ upto other made.second ∷ [])
    life = record {
      setup = setup;
      disk = disk;
      map = map_of_disk;
      handed = first.handed;
      opened = opened;
      lanes = lanes;
      pass = closes.pass;
      all = all;
      front = first.front;
      below = first.below;
      at = at;
      ended = record {
        closed = closed;
        closes = own_closes;
        order_is = refl;
        now = now;
        after = told;
        since = omega arith;
        ends = record {
          left = inl (inl (ap (λ (cs : List Call). record now { calls = cs })
              (sym (take_all at now.calls (omega arith)))));
          no_torn_pass = subst (λ (es : List Entry). NoTornPass setup.seg_size
              (pages_in setup.seg_size (image_as_read (state_now now))) (es ++ own))
              (sym first.none) none_torn;
        };
      };
      woven = woven.woven;
      are = woven.are;
      begun_is = refl;
      told =
          let P = WasAnsweredInLane at opened.read.changes lanes woven.woven in
          All-cons P (upto one made.first) (upto other made.second ∷ [])
          (in_lane at one made.first (omega arith))
          (All-cons P (upto other made.second) [] (in_lane at other made.second (omega arith))
          (All-nil P));
    }

    is_found : IsFrontOf reopened.read.changes (opened.read.changes ++ changes_in woven.woven)
        × All (λ upto. IsFrontOf upto reopened.read.changes)
        (upto one made.first ∷ upto other made.second ∷ [])
    is_found =
        let is = answered setup.seg_size setup.sysid now (first.front ++ own)
        (opened.read.changes ++ changes_in woven.woven) marks (shares first.start life) setup
        closed.disk again (record { sized = refl; named = refl; before = told }) reopened in
        (is.1, is.2)

    of_both : All (IsOfEither one other) reopened.read.changes
    of_both = all_in_front (IsOfEither one other) reopened.read.changes is_found.0.0
        (subst (All (IsOfEither one other))
        (sym (ap (λ (xs : List MapChange). xs ++ changes_in woven.woven) nothing_found)
        ∙ is_found.0.1) either)

    has_it : (call : MapCall) (a : MadeAlone made.lanes call)
        → IsFrontOf (upto call a) reopened.read.changes
        → All (AgreesWith a.change) reopened.read.changes
        → HasWhatWasAsked (map_held again) call
    has_it call a front agree =
        let there : Contains reopened.read.changes a.change =
        subst (λ (xs : List MapChange). Contains xs a.change) (sym front.1)
        (Contains-append_left (upto call a) front.0 a.change
        (Contains-append_right opened.read.changes
        (changes_in (place call a).earlier ++ a.change ∷ []) a.change
        (Contains-push (changes_in (place call a).earlier) a.change))) in
        subst (λ (o : Option MapChange). IsSomeAnd o
        (λ (change : MapChange). map_held again change.key ≡ change.value)) (sym a.asked)
        (reopened.read.held a.change.key ∙ settled reopened.read.changes a.change there agree)

    has_both : HasWhatWasAsked (map_held again) one × HasWhatWasAsked (map_held again) other
    has_both =
        let F = (λ (upto : List MapChange). IsFrontOf upto reopened.read.changes) in
        let u = upto one made.first in
        let v = upto other made.second in (
          has_it one made.first (All-head F u (v ∷ []) is_found.1)
              (All-weaker (IsOfEither one other) (AgreesWith made.first.change)
              (λ c is. agrees one other made.first.change c made.apart made.first.asked is)
              reopened.read.changes of_both),
          has_it other made.second (All-head F v [] (All-tail F u (v ∷ []) is_found.1))
              (All-weaker (IsOfEither one other) (AgreesWith made.second.change)
              (λ c is. agrees other one made.second.change c
              (λ same. made.apart (sym same)) made.second.asked (turned one other c is))
              reopened.read.changes of_both),
        )

  pub finds_both : FindsBoth tape moment faults setup one other again
  finds_both =
      let behind = first.behind closes.pass closed own_closes in
      record {
        map = map_of_disk;
        pass = closes.pass;
        closed = closed;
        closes = own_closes;
        opened = reopened;
        now = behind.0;
        told = behind.1;
        found = λ none_torn. has_both behind.0 behind.1 none_torn;
      }
