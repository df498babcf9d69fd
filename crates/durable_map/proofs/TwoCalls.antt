-- What lanes began of which two made a call each.
use Rattle.std.proofs.Common.{◌≡◌, ◌≢◌, ◌⊎◌, ℕ, zero, suc, ◌<◌, All, List, [], ◌∷◌, ◌++◌, length, map, Option, Some, None, Ok, Err, inl, inr, refl, sym, ap, ◌∙◌, subst, arith}
use Rattle.std.specs.Prelude.{IsSomeAnd, MatchOption, slice_index_or}
use Rattle.std.proofs.Math.Seq.{map-set_same}
use Rattle.std.proofs.lemmas.List.{append-nil, get_or-set_other, get_or-set_same, get_or_default, length-map, length-set}
use Rattle.std.proofs.lemmas.List.Elements.{All-append, All-cons, All-head, All-nil, All-set, All-tail, Contains-get_or}
use Rattle.wal_types.specs.declared.answers.Sealed.{Sealed}
use Rattle.wal_types.specs.declared.lsn.Lsn.{Lsn}
use Rattle.wal_log.specs.declared.wal.Wal.{Wal}
use Rattle.durable_map.specs.Asked.{AreTold, IsAnsweredOk, change_asked, changes_of_call, changes_told, key_of_call}
use Rattle.durable_map.specs.Calls.{LeadTo, begun_at, begun_in}
use Rattle.durable_map.specs.Changes.{MapChange}
use Rattle.durable_map.specs.Dealing.{lane_of_key}
use Rattle.durable_map.specs.Sharing.{ChangesLane, GivesTold, HasCall, IsUnasked, KeepsLanes, WorkOff, WorksOff, lanes_of}
use Rattle.durable_map.specs.TwoLanes.{IsOfEither, MadeAlone, MadeByTwo}
use Rattle.durable_map.specs.Weaving.{LaneCalls}
use Rattle.durable_map.specs.declared.asked.MapCall.{MapCall}
use Rattle.durable_map.specs.declared.asked.MapCall.TheVariants.{Set, Get, Del}
use Rattle.durable_map.specs.declared.asked.MapTold.{MapTold}
use Rattle.durable_map.specs.declared.asked.MapTold.TheVariants.{Changed, Value, NoMemory}
use Rattle.durable_map.specs.declared.fault.ChangeErr.TheVariants as changes
use Rattle.durable_map.specs.declared.part.MapPart.{MapPart}
use Rattle.durable_map.specs.declared.sharing.MapLane.{MapLane}
use Rattle.durable_map.specs.declared.sharing.SharedMap.{SharedMap}
use Rattle.durable_map.proofs.LaneCalls.{told_leads}
use Rattle.durable_map.proofs.Weaving.{begun_append}

-- ---- one lane

-- a lane's calls are one change that was answered Ok
pub record IsAlone (call : MapCall) (lane : LaneCalls) : Type 0 where
  pub change : MapChange
  pub asked : change_asked call ≡ Some change
  pub sealed : Sealed
  pub are : lane.calls ≡ (record { change = change; answer = Ok sealed }) ∷ []

-- what a lane of this place is, if two places are asked a call each
pub record IsMade {D : Type 0} (wal : Wal D) (one other : MapCall) (i j k : ℕ) (lane : LaneCalls)
    : Type 0 where
  pub called : LeadTo wal lane.calls lane.first lane.last
  pub no_other : All (IsOfEither one other) (begun_in lane.calls)
  pub first : k ≡ i → IsAlone one lane
  pub second : k ≡ j → IsAlone other lane

alone_told : {D : Type 0} → (wal : Wal D) (call : MapCall) (told : MapTold)
    (rest : List MapTold) (old new : MapPart) → IsAnsweredOk told
    → AreTold wal (call ∷ []) old (told ∷ rest) new
    → IsAlone call (record {
      first = old;
      calls = changes_told (call ∷ []) (told ∷ rest);
      last = new;
    })
alone_told wal (Set key value) (Changed (Ok sealed)) rest old new ok are = record {
  change = record { key = key.items; value = Some value.items };
  asked = refl;
  sealed = sealed;
  are = refl;
}
alone_told wal (Del key) (Changed (Ok sealed)) rest old new ok are = record {
  change = record { key = key.items; value = None };
  asked = refl;
  sealed = sealed;
  are = refl;
}
alone_told wal (Get key) (Changed (Ok sealed)) rest old new ok are = absurd (are.1).1
alone_told wal call (Changed (Err error)) rest old new ok are = absurd ok
alone_told wal call (Value value) rest old new ok are = absurd ok
alone_told wal call NoMemory rest old new ok are = absurd ok

-- ---- what calls began

-- a call is one of two
abbrev IsEither : MapCall → MapCall → MapCall → Type 0
IsEither one other call = (call ≡ one) ⊎ (call ≡ other)

of_either : (one other call : MapCall) (change : MapChange) → IsEither one other call
    → change_asked call ≡ Some change → IsOfEither one other change
of_either one other call change (inl is) asked =
    inl (ap change_asked (sym is) ∙ asked)
of_either one other call change (inr is) asked =
    inr (ap change_asked (sym is) ∙ asked)

-- at most the change that a call asks for is begun
begun_at_most : (P : MapChange → Type 0) (change : MapChange) (place : Option Lsn) → P change
    → All P (begun_at change place)
begun_at_most P change None so = All-nil P
begun_at_most P change (Some place) so = All-cons P change [] so (All-nil P)

begun_of : (P : MapChange → Type 0) (call : MapCall) (told : MapTold)
    → ((change : MapChange) → change_asked call ≡ Some change → P change)
    → All P (begun_in (changes_of_call call told))
begun_of P (Get key) told so = All-nil P
begun_of P (Set key value) (Value other) so = All-nil P
begun_of P (Set key value) NoMemory so = All-nil P
begun_of P (Set key value) (Changed (Ok sealed)) so =
    All-cons P (record { key = key.items; value = Some value.items }) []
    (so (record { key = key.items; value = Some value.items }) refl) (All-nil P)
begun_of P (Set key value) (Changed (Err changes.Memory)) so = All-nil P
begun_of P (Set key value) (Changed (Err changes.TooLong)) so = All-nil P
begun_of P (Set key value) (Changed (Err (changes.Refused refused))) so =
    subst (All P)
    (sym (append-nil (begun_at (record { key = key.items; value = Some value.items })
    refused.reserved)))
    (begun_at_most P (record { key = key.items; value = Some value.items }) refused.reserved
    (so (record { key = key.items; value = Some value.items }) refl))
begun_of P (Del key) (Value other) so = All-nil P
begun_of P (Del key) NoMemory so = All-nil P
begun_of P (Del key) (Changed (Ok sealed)) so =
    All-cons P (record { key = key.items; value = None }) []
    (so (record { key = key.items; value = None }) refl) (All-nil P)
begun_of P (Del key) (Changed (Err changes.Memory)) so = All-nil P
begun_of P (Del key) (Changed (Err changes.TooLong)) so = All-nil P
begun_of P (Del key) (Changed (Err (changes.Refused refused))) so =
    subst (All P)
    (sym (append-nil (begun_at (record { key = key.items; value = None }) refused.reserved)))
    (begun_at_most P (record { key = key.items; value = None }) refused.reserved
    (so (record { key = key.items; value = None }) refl))

begun_told : (one other : MapCall) (calls : List MapCall) (told : List MapTold)
    → All (IsEither one other) calls
    → All (IsOfEither one other) (begun_in (changes_told calls told))
begun_told one other [] told either = All-nil (IsOfEither one other)
begun_told one other (call ∷ calls) [] either = All-nil (IsOfEither one other)
begun_told one other (call ∷ calls) (t ∷ told) either =
    subst (All (IsOfEither one other))
    (sym (begun_append (changes_of_call call t) (changes_told calls told)))
    (All-append (IsOfEither one other) (begun_in (changes_of_call call t))
    (begun_in (changes_told calls told))
    (begun_of (IsOfEither one other) call t (λ change. of_either one other call change
    (All-head (IsEither one other) call calls either)))
    (begun_told one other calls told (All-tail (IsEither one other) call calls either)))

-- ---- lists of lanes

abbrev part_in_lane : MapLane → MapPart
part_in_lane lane = lane.part

-- for each lane what it made
pub record AreGathered (Good : ℕ → LaneCalls → Type 0) (old new : List MapLane) : Type 0 where
  pub lanes : List LaneCalls
  pub firsts : map (λ lane. lane.first) lanes ≡ map (λ lane. lane.part) old
  pub lasts : map (λ lane. lane.last) lanes ≡ map (λ lane. lane.part) new
  pub good : (k : ℕ) (d : LaneCalls) → k < length lanes → Good k (slice_index_or lanes k d)

abbrev MadeAt : (ℕ → LaneCalls → Type 0) → List MapLane → List MapLane → Type 0
MadeAt Good old new = (k : ℕ) (d : MapLane) → k < length old → (lane : LaneCalls)
    × (lane.first ≡ (slice_index_or old k d).part)
    × (lane.last ≡ (slice_index_or new k d).part) × Good k lane

gathered : (Good : ℕ → LaneCalls → Type 0) (old new : List MapLane) → length new ≡ length old
    → MadeAt Good old new → AreGathered Good old new
gathered Good [] [] long made = record {
  lanes = [];
  firsts = refl;
  lasts = refl;
  good = λ k d within. absurd (omega (arith, within));
}
gathered Good [] (n ∷ new) long made = absurd (omega (arith, long))
gathered Good (o ∷ old) [] long made = absurd (omega (arith, long))
gathered Good (o ∷ old) (n ∷ new) long made =
    let first = made 0 o (omega arith) in
    let rest = gathered (λ k. Good (suc k)) old new (omega (arith, long))
    (λ k d within. made (suc k) d (omega (arith, within))) in
    record {
      lanes = first.0 ∷ rest.lanes;
      firsts = ap (λ (p : MapPart). p ∷ map (λ (l : LaneCalls). l.first) rest.lanes) first.1
          ∙ ap (λ (ps : List MapPart). o.part ∷ ps) rest.firsts;
      lasts = ap (λ (p : MapPart). p ∷ map (λ (l : LaneCalls). l.last) rest.lanes) first.2
          ∙ ap (λ (ps : List MapPart). n.part ∷ ps) rest.lasts;
      good = each first.0 rest.lanes first.3 rest.good;
    }
  where
    each : (lane : LaneCalls) (lanes : List LaneCalls) → Good 0 lane
        → ((k : ℕ) (d : LaneCalls) → k < length lanes → Good (suc k) (slice_index_or lanes k d))
        → (k : ℕ) (d : LaneCalls) → k < length (lane ∷ lanes)
        → Good k (slice_index_or (lane ∷ lanes) k d)
    each lane lanes first rest zero d within = first
    each lane lanes first rest (suc k) d within = rest k d (omega (arith, within))

-- ---- the calls of a map that two lanes were left with

-- a lane was left with none but these calls, and was told nothing
pub record IsLeft (one other : MapCall) (lane : MapLane) : Type 0 where
  pub either : All (IsEither one other) (lane.calls).items
  pub not_told : (lane.told).items ≡ []

idle_left : (one other : MapCall) (lane : MapLane) → IsUnasked lane → IsLeft one other lane
idle_left one other lane idle = record {
  either = subst (All (IsEither one other)) (sym idle.no_calls) (All-nil (IsEither one other));
  not_told = idle.not_told;
}

call_left : (one other call : MapCall) (was now : MapLane) → IsEither one other call
    → HasCall call was now → IsLeft one other was → IsLeft one other now
call_left one other call was now is has left = record {
  either = subst (All (IsEither one other)) (sym has.calls)
      (All-append (IsEither one other) (was.calls).items (call ∷ []) left.either
      (All-cons (IsEither one other) call [] is (All-nil (IsEither one other))));
  not_told = has.told ∙ left.not_told;
}

-- where a lane was changed, and elsewhere
there : {D : Type 0} → (i : ℕ) (So : MapLane → MapLane → Type 0) (old new : SharedMap D)
    (c : ChangesLane i So old new) (d : MapLane) → slice_index_or (lanes_of new) i d ≡ c.now
there i So old new c d = ap (λ (ls : List MapLane). slice_index_or ls i d) c.lanes
    ∙ get_or-set_same (lanes_of old) i c.now d c.within

elsewhere : {D : Type 0} → (i j : ℕ) (So : MapLane → MapLane → Type 0) (old new : SharedMap D)
    → ChangesLane i So old new → (d : MapLane) → j ≢ i
    → slice_index_or (lanes_of new) j d ≡ slice_index_or (lanes_of old) j d
elsewhere i j So old new c d other = ap (λ (ls : List MapLane). slice_index_or ls j d) c.lanes
    ∙ get_or-set_other (lanes_of old) i j c.now d other

as_many : {D : Type 0} → (i : ℕ) (So : MapLane → MapLane → Type 0) (old new : SharedMap D)
    → ChangesLane i So old new → length (lanes_of new) ≡ length (lanes_of old)
as_many i So old new c = ap (λ (ls : List MapLane). length ls) c.lanes
    ∙ length-set (lanes_of old) i c.now

same_parts : {D : Type 0} → (i : ℕ) (So : MapLane → MapLane → Type 0) (old new : SharedMap D)
    (c : ChangesLane i So old new) → (c.now).part ≡ (c.was).part
    → map (λ (l : MapLane). l.part) (lanes_of new) ≡ map (λ (l : MapLane). l.part) (lanes_of old)
same_parts i So old new c same = ap (λ (ls : List MapLane). map part_in_lane ls) c.lanes
    ∙ map-set_same part_in_lane (lanes_of old) i c.now c.was (same ∙ ap part_in_lane c.was_there)

module _ {D : Type 0} (wal : Wal D) (one other : MapCall) (i j : ℕ) (apart : i ≢ j)
    (s0 s1 s2 s3 s4 s5 : SharedMap D) (told_one told_other : MapTold)
    (idle : All IsUnasked (lanes_of s0))
    (ask_one : ChangesLane i (HasCall one) s0 s1)
    (ask_other : ChangesLane j (HasCall other) s1 s2)
    (work : WorkOff wal (lanes_of s2) (lanes_of s3))
    (tell_one : ChangesLane i (GivesTold told_one) s3 s4)
    (tell_other : ChangesLane j (GivesTold told_other) s4 s5)
    (ok_one : IsAnsweredOk told_one) (ok_other : IsAnsweredOk told_other) where
  left_first : All (IsLeft one other) (lanes_of s0)
  left_first k d within = idle_left one other (slice_index_or (lanes_of s0) k d) (idle k d within)

  left_one : All (IsLeft one other) (lanes_of s1)
  left_one = subst (All (IsLeft one other)) (sym ask_one.lanes)
      (All-set (IsLeft one other) (lanes_of s0) i ask_one.now
      (call_left one other one ask_one.was ask_one.now (inl refl) ask_one.so
      (subst (IsLeft one other) (sym ask_one.was_there) (left_first i ask_one.was ask_one.within)))
      left_first)

  left : All (IsLeft one other) (lanes_of s2)
  left = subst (All (IsLeft one other)) (sym ask_other.lanes)
      (All-set (IsLeft one other) (lanes_of s1) j ask_other.now
      (call_left one other other ask_other.was ask_other.now (inr refl) ask_other.so
      (subst (IsLeft one other) (sym ask_other.was_there)
      (left_one j ask_other.was ask_other.within)))
      left_one)

  calls_of_one : (d : MapLane) → ((slice_index_or (lanes_of s2) i d).calls).items ≡ one ∷ []
  calls_of_one d =
      ap (λ (l : MapLane). (l.calls).items)
      (elsewhere j i (HasCall other) s1 s2 ask_other d apart ∙ there i (HasCall one) s0 s1 ask_one d)
      ∙ (ask_one.so).calls
      ∙ ap (λ (l : MapLane). (l.calls).items ++ one ∷ []) ask_one.was_there
      ∙ ap (λ (cs : List MapCall). cs ++ one ∷ [])
      (idle i ask_one.was ask_one.within).no_calls

  calls_of_other : (d : MapLane)
      → ((slice_index_or (lanes_of s2) j d).calls).items ≡ other ∷ []
  calls_of_other d =
      ap (λ (l : MapLane). (l.calls).items) (there j (HasCall other) s1 s2 ask_other d)
      ∙ (ask_other.so).calls
      ∙ ap (λ (l : MapLane). (l.calls).items ++ other ∷ [])
      (ask_other.was_there
      ∙ elsewhere i j (HasCall one) s0 s1 ask_one ask_other.was (λ same. apart (sym same)))
      ∙ ap (λ (cs : List MapCall). cs ++ other ∷ [])
      (idle j ask_other.was (omega (
        arith,
        ask_other.within,
        as_many i (HasCall one) s0 s1 ask_one,
      ))).no_calls

  told_of_one : (d : MapLane) → ((slice_index_or (lanes_of s3) i d).told).items
      ≡ told_one ∷ ((tell_one.now).told).items
  told_of_one d =
      ap (λ (l : MapLane). (l.told).items)
      (get_or_default (lanes_of s3) i d tell_one.was tell_one.within ∙ sym tell_one.was_there)
      ∙ (tell_one.so).told_is

  told_of_other : (d : MapLane) → ((slice_index_or (lanes_of s3) j d).told).items
      ≡ told_other ∷ ((tell_other.now).told).items
  told_of_other d =
      ap (λ (l : MapLane). (l.told).items)
      (sym (elsewhere i j (GivesTold told_one) s3 s4 tell_one d (λ same. apart (sym same)))
      ∙ get_or_default (lanes_of s4) j d tell_other.was tell_other.within
      ∙ sym tell_other.was_there)
      ∙ (tell_other.so).told_is

  module _ (k : ℕ) (d : MapLane) (within : k < length (lanes_of s2)) where
    abbrev before : MapLane
    before = slice_index_or (lanes_of s2) k d

    abbrev after : MapLane
    after = slice_index_or (lanes_of s3) k d

    works : WorksOff wal (slice_index_or (lanes_of s2) k d) (slice_index_or (lanes_of s3) k d)
    works = work.each k d within

    all_told : (after.told).items ≡ works.made
    all_told = works.told_is
        ∙ ap (λ (ts : List MapTold). ts ++ works.made) (left k d within).not_told

    alone_of : (call : MapCall) (told : MapTold) (rest : List MapTold) → IsAnsweredOk told
        → (before.calls).items ≡ call ∷ [] → (after.told).items ≡ told ∷ rest
        → AreTold wal (before.calls).items before.part works.made after.part
        → IsAlone call (record {
          first = before.part;
          calls = changes_told (before.calls).items works.made;
          last = after.part;
        })
    alone_of call told rest ok calls tells are =
        let made = sym all_told ∙ tells in
        subst (λ (cs : List MapCall). IsAlone call (record {
          first = before.part;
          calls = changes_told cs works.made;
          last = after.part;
        })) (sym calls)
        (subst (λ (ts : List MapTold). IsAlone call (record {
          first = before.part;
          calls = changes_told (call ∷ []) ts;
          last = after.part;
        })) (sym made)
        (alone_told wal call told rest before.part after.part ok
        (subst (λ (ts : List MapTold). AreTold wal (call ∷ []) before.part ts after.part) made
        (subst (λ (cs : List MapCall). AreTold wal cs before.part works.made after.part) calls
        are))))

    none_told : (told : MapTold) (rest : List MapTold) → works.made ≡ []
        → (after.told).items ≡ told ∷ rest → ⊥
    none_told told rest none tells = (let is = sym none ∙ sym all_told ∙ tells in cc)

    at_lane : (lane : LaneCalls) × (lane.first ≡ before.part) × (lane.last ≡ after.part)
        × IsMade wal one other i j k lane
    at_lane = elim works.are [
      | inl are ↦ (
        record {
          first = before.part;
          calls = changes_told (before.calls).items works.made;
          last = after.part;
        },
        refl,
        refl,
        record {
          called = told_leads wal (before.calls).items works.made before.part after.part are;
          no_other = begun_told one other (before.calls).items works.made
              (left k d within).either;
          first = λ is. alone_of one told_one ((tell_one.now).told).items ok_one
              (subst (λ (n : ℕ). ((slice_index_or (lanes_of s2) n d).calls).items ≡ one ∷ [])
              (sym is) (calls_of_one d))
              (subst (λ (n : ℕ). ((slice_index_or (lanes_of s3) n d).told).items
              ≡ told_one ∷ ((tell_one.now).told).items) (sym is) (told_of_one d)) are;
          second = λ is. alone_of other told_other ((tell_other.now).told).items ok_other
              (subst (λ (n : ℕ). ((slice_index_or (lanes_of s2) n d).calls).items ≡ other ∷ [])
              (sym is) (calls_of_other d))
              (subst (λ (n : ℕ). ((slice_index_or (lanes_of s3) n d).told).items
              ≡ told_other ∷ ((tell_other.now).told).items) (sym is) (told_of_other d)) are;
        },
      )
      | inr none ↦ (
        record { first = before.part; calls = []; last = after.part },
        refl,
        refl,
        record {
          called = none.1;
          no_other = All-nil (IsOfEither one other);
          first = λ is. absurd (none_told told_one ((tell_one.now).told).items none.0
              (subst (λ (n : ℕ). ((slice_index_or (lanes_of s3) n d).told).items
              ≡ told_one ∷ ((tell_one.now).told).items) (sym is) (told_of_one d)));
          second = λ is. absurd (none_told told_other ((tell_other.now).told).items none.0
              (subst (λ (n : ℕ). ((slice_index_or (lanes_of s3) n d).told).items
              ≡ told_other ∷ ((tell_other.now).told).items) (sym is) (told_of_other d)));
        },
      )
    ]

  all_lanes : AreGathered (IsMade wal one other i j) (lanes_of s2) (lanes_of s3)
  all_lanes = gathered (IsMade wal one other i j) (lanes_of s2) (lanes_of s3) work.as_many at_lane

  many_lanes : length all_lanes.lanes ≡ length (lanes_of s2)
  many_lanes = sym (length-map all_lanes.lanes (λ (l : LaneCalls). l.first))
      ∙ ap (λ (ps : List MapPart). length ps) all_lanes.firsts
      ∙ length-map (lanes_of s2) (λ (l : MapLane). l.part)

  alone_among : (call : MapCall) (k : ℕ) → k < length all_lanes.lanes
      → ((lane : LaneCalls) → IsMade wal one other i j k lane → IsAlone call lane)
      → (d : LaneCalls) → MadeAlone all_lanes.lanes call
  alone_among call k within so d =
      let lane = slice_index_or all_lanes.lanes k d in
      let is = so lane (all_lanes.good k d within) in
      record {
        lane = lane;
        there = Contains-get_or all_lanes.lanes k d within;
        change = is.change;
        asked = is.asked;
        sealed = is.sealed;
        are = is.are;
      }

  any_lane : LaneCalls
  any_lane = record { first = (ask_one.was).part; calls = []; last = (ask_one.was).part }

  pub made_by_two : key_of_call one ≢ key_of_call other
      → MadeByTwo wal one other (lanes_of s0) (lanes_of s5)
  made_by_two differ = record {
    lanes = all_lanes.lanes;
    firsts = all_lanes.firsts ∙ same_parts j (HasCall other) s1 s2 ask_other (ask_other.so).part
        ∙ same_parts i (HasCall one) s0 s1 ask_one (ask_one.so).part;
    lasts = all_lanes.lasts
        ∙ sym (same_parts j (GivesTold told_other) s4 s5 tell_other (tell_other.so).part
        ∙ same_parts i (GivesTold told_one) s3 s4 tell_one (tell_one.so).part);
    called = λ k d within. (all_lanes.good k d within).called;
    no_other = λ k d within. (all_lanes.good k d within).no_other;
    first = alone_among one i (omega (
      arith,
      many_lanes,
      ask_one.within,
      as_many i (HasCall one) s0 s1 ask_one,
      as_many j (HasCall other) s1 s2 ask_other,
    )) (λ lane is. is.first refl) any_lane;
    second = alone_among other j (omega (
      arith,
      many_lanes,
      ask_other.within,
      as_many j (HasCall other) s1 s2 ask_other,
    )) (λ lane is. is.second refl) any_lane;
    apart = differ;
  }

-- ---- as the map answers them

given : (o : Option MapTold) (None_ : Type 0) (Some_ : MapTold → Type 0)
    → IsSomeAnd o IsAnsweredOk → MatchOption o None_ Some_
    → (told : MapTold) × IsAnsweredOk told × Some_ told
given None None_ Some_ ok tells = absurd ok
given (Some told) None_ Some_ ok tells = (told, ok, tells)

pub made_both : {D : Type 0} → (one other : MapCall) (i j : ℕ)
    (s0 s1 s2 s3 s4 s5 : SharedMap D) (told_one told_other : Option MapTold)
    → i ≢ j → All IsUnasked (lanes_of s0)
    → ChangesLane i (HasCall one) s0 s1
    → i ≡ lane_of_key (length (lanes_of s0)) (key_of_call one)
    → ChangesLane j (HasCall other) s1 s2
    → j ≡ lane_of_key (length (lanes_of s1)) (key_of_call other)
    → WorkOff s2.log (lanes_of s2) (lanes_of s3)
    → MatchOption told_one (KeepsLanes s3 s4) (λ told. ChangesLane i (GivesTold told) s3 s4)
    → MatchOption told_other (KeepsLanes s4 s5) (λ told. ChangesLane j (GivesTold told) s4 s5)
    → IsSomeAnd told_one IsAnsweredOk → IsSomeAnd told_other IsAnsweredOk
    → MadeByTwo s0.log one other (lanes_of s0) (lanes_of s5)
made_both {D} one other i j s0 s1 s2 s3 s4 s5 told_one told_other apart idle ask_one i_is
    ask_other j_is work tell_one tell_other ok_one ok_other =
    let first = given told_one (KeepsLanes s3 s4) (λ told. ChangesLane i (GivesTold told) s3 s4)
    ok_one tell_one in
    let second = given told_other (KeepsLanes s4 s5) (λ told. ChangesLane j (GivesTold told) s4 s5)
    ok_other tell_other in
    let many = as_many i (HasCall one) s0 s1 ask_one in
    made_by_two s0.log one other i j apart s0 s1 s2 s3 s4 s5 first.0 second.0 idle ask_one
    ask_other
    (subst (λ (w : Wal D). WorkOff w (lanes_of s2) (lanes_of s3)) (ask_other.log ∙ ask_one.log)
    work)
    first.2 second.2 first.1 second.1
    (λ same. apart (i_is ∙ ap (λ (k : List ℕ). lane_of_key (length (lanes_of s0)) k) same
    ∙ sym (ap (λ (n : ℕ). lane_of_key n (key_of_call other)) many) ∙ sym j_is))
