-- Calls that make segments one behind another.
use Rattle.std.proofs.Common.{◌≡◌, ℕ, zero, suc, ◌+◌, ◌-◌, ◌*◌, ◌/◌, ◌%◌, ◌^◌, ◌<◌, ◌≤◌, ◌⊎◌, inl, inr, Bool, true, false, is_some, max, not, ◌==◌, List, [], ◌∷◌, ◌++◌, length, take, drop, Option, Some, None, IfSome, if◌then◌else◌, refl, sym, ap, subst, ◌∙◌, arith, length-append, length-take, take-append-drop}
use Rattle.std.specs.Prelude.{IsSome}
use Rattle.std.specs.List.{flat_map, list_any, range_with_len}
use Rattle.std.proofs.lemmas.Bool.{cases_lt, le-ltb, lt-ltb}
use Rattle.std.proofs.lemmas.List.{drop-append-le, drop_all, take-take}
use Rattle.std.proofs.lemmas.Nat.{div_below}
use Rattle.std.proofs.Math.Nat.{le-div_iff_mul-le, max-eq_left, max-eq_right, mul-le-mul_right}
use Rattle.std.proofs.Math.Seq.{take-length}
use Rattle.byte_position.specs.Geometry.{IsSegmentSize, pages_of}
use Rattle.byte_position.proofs.SegmentSizes.{segment_size_in_pages, segment_size_tests}
use Rattle.segment_disk.specs.declared.disk.Call.{Call}
use Rattle.segment_disk.specs.declared.disk.CallKind.{CallKind}
use Rattle.segment_disk.specs.declared.disk.CallKind.TheVariants.{Create, Write, Sync}
use Rattle.segment_disk.specs.Present.{MakesNone}
use Rattle.segment_disk.specs.Tape.{DiskState, Segment, Tape, after_call, after_calls, failed_call, page_of_segment, segment_after, state_at, state_now, write_call}
use Rattle.segment_disk.proofs.Fronts.{take-before}
use Rattle.segment_disk.proofs.Presence.{is_some-kept}
use Rattle.flush_core.specs.Calls.{AreMade, BreaksOff, put_calls, store_calls, with_calls}
use Rattle.flush_core.specs.Settled.{AreThere, NextFails, clear_calls, clear_from, cleared, kept_of, segment_clears, segments_cleared, settle_calls, sync_calls}
use Rattle.flush_core.specs.SettledLog.{AreOnly}
use Rattle.flush_core.proofs.GrowingTapes.{with_calls-append, with_calls-none, with_calls-some}
use Rattle.flush_core.proofs.SettledPages.{after_calls-append}
use Rattle.flush_core.proofs.StateLaws.{after_each}
use Rattle.flush_core.specs.Writer.{last_made}
use Rattle.machine_state.specs.Made.{MakeInTurn, MakesNext, last_behind}
use Rattle.wal_stream.specs.Standby.{standby_disk, standby_fault}
use Rattle.wal_stream.specs.declared.standby.Standby.{Standby}
use Rattle.reopened_log_laws.specs.StopsAt.{StopsAt, tape_until, write_to}
use Rattle.reopened_log_laws.proofs.MadeSegments.{AreFirst}
use Rattle.standby_laws.proofs.Moments.{drop_taken}

-- ---- what holds of a standby's segments

-- segments are made one behind another since a moment, at which those from 1 to some number were
-- there and no other; this is the last one
pub record AreMadeInTurn (since last : ℕ) (t : Tape) : Type 0 where
  pub within : since ≤ length t.calls
  pub first : ℕ
  pub there : AreThere (state_at t since) first
  pub only : AreOnly first (state_at t since)
  pub in_turn : MakeInTurn first (drop since t.calls) last

-- the last one is the one that the standby knows of; a disk that failed may have made one more
pub record HasSegmentsInTurn {D : Type 0} (since : ℕ) (s : Standby D) (t : Tape) : Type 0 where
  pub last : ℕ
  pub made : AreMadeInTurn since last t
  pub known : standby_fault s ≡ None → (last ≡ last_made s.writer) × (last ≤ s.cap)
  pub low : last ≤ s.cap + 1

-- so of a disk that tells what it holds, with as many segments as a standby may be opened with
pub record MakesInTurn {D : Type 0} (tape : D → Option Tape) (since : ℕ) (s : Standby D)
    : Type 0 where
  pub few : s.cap ≤ 4096
  pub told : IfSome (tape (standby_disk s)) (HasSegmentsInTurn since s)

-- ---- calls that make none

abbrev pub MakeNone : List Call → Type 0
MakeNone [] = Unit {0}
MakeNone (call ∷ calls) = MakesNone call.kind × MakeNone calls

none_both : (xs ys : List Call) → MakeNone xs → MakeNone ys → MakeNone (xs ++ ys)
none_both [] ys none more = more
none_both (x ∷ xs) ys none more = (none.0, none_both xs ys none.1 more)

none_front : (xs ys : List Call) → MakeNone (xs ++ ys) → MakeNone xs
none_front [] ys none = tt
none_front (x ∷ xs) ys none = (none.0, none_front xs ys none.1)

none_behind : (xs ys : List Call) → MakeNone (xs ++ ys) → MakeNone ys
none_behind [] ys none = none
none_behind (x ∷ xs) ys none = none_behind xs ys none.1

none_next : (last segment : ℕ) (kind : CallKind) → MakesNone kind → MakesNext last segment kind
none_next last segment (Create made) none = absurd none
none_next last segment (Write page bytes) none = tt
none_next last segment Sync none = tt

none_last : (last : ℕ) (kind : CallKind) → MakesNone kind → last_behind last kind ≡ last
none_last last (Create made) none = absurd none
none_last last (Write page bytes) none = refl
none_last last Sync none = refl

pub none_in_turn : (last : ℕ) (calls : List Call) → MakeNone calls → MakeInTurn last calls last
none_in_turn last [] none = refl
none_in_turn last (call ∷ calls) none = (
  none_next last call.segment call.kind none.0,
  subst (λ (n : ℕ). MakeInTurn n calls last) (sym (none_last last call.kind none.0))
      (none_in_turn last calls none.1),
)

-- ---- settling makes none

syncs_none : (size : ℕ) (segments : List ℕ) → MakeNone (sync_calls size segments)
syncs_none size [] = tt
syncs_none size (segment ∷ segments) = (tt, syncs_none size segments)

clears_none : (size segment page from : ℕ) (o : Option (List ℕ))
    → MakeNone (clear_calls size segment page from o)
clears_none size segment page from None = tt
clears_none size segment page from (Some bytes) =
    by_test (list_any (λ b. not (b == 0)) (drop from bytes))
  where
    by_test : (b : Bool) → MakeNone (if b
        then write_call size segment page (cleared from bytes) ∷ [] else [])
    by_test true = (tt, tt)
    by_test false = tt

each_none : (calls : ℕ → List Call) → ((n : ℕ) → MakeNone (calls n)) → (ns : List ℕ)
    → MakeNone (flat_map calls ns)
each_none calls none [] = tt
each_none calls none (n ∷ ns) =
    none_both (calls n) (flat_map calls ns) (none n) (each_none calls none ns)

module _ (size end : ℕ) (state : DiskState) where
  segment_none : (segment : ℕ) → MakeNone (segment_clears size end state segment)
  segment_none segment = each_none
      (λ page. clear_calls size segment page (clear_from (kept_of size end segment) page)
      (page_of_segment (state segment) page))
      (λ page. clears_none size segment page (clear_from (kept_of size end segment) page)
      (page_of_segment (state segment) page)) _

  pub settle_none : (count : ℕ) → MakeNone (settle_calls size end count state)
  settle_none count =
      none_both (sync_calls size (range_with_len 1 count))
      (flat_map (segment_clears size end state) (range_with_len 1 count)
      ++ sync_calls size (segments_cleared size end state count))
      (syncs_none size (range_with_len 1 count))
      (none_both (flat_map (segment_clears size end state) (range_with_len 1 count))
      (sync_calls size (segments_cleared size end state count))
      (each_none (segment_clears size end state) segment_none (range_with_len 1 count))
      (syncs_none size (segments_cleared size end state count)))

-- ---- lists in turn

pub turn_on : (from mid last : ℕ) (xs ys : List Call) → MakeInTurn from xs mid
    → MakeInTurn mid ys last → MakeInTurn from (xs ++ ys) last
turn_on from mid last [] ys first second =
    subst (λ (n : ℕ). MakeInTurn n ys last) (sym first) second
turn_on from mid last (x ∷ xs) ys first second =
    (first.0, turn_on (last_behind from x.kind) mid last xs ys first.1 second)

step_rises : (last : ℕ) (kind : CallKind) → last ≤ last_behind last kind
step_rises last (Create true) = omega arith
step_rises last (Create false) = omega arith
step_rises last (Write page bytes) = omega arith
step_rises last Sync = omega arith

turn_rises : (from last : ℕ) (calls : List Call) → MakeInTurn from calls last → from ≤ last
turn_rises from last [] same = omega (arith, same)
turn_rises from last (call ∷ calls) turn =
    omega (
      arith,
      step_rises from call.kind,
      turn_rises (last_behind from call.kind) last calls turn.1,
    )

-- a front of such a list, and the call behind it
record HasFront (from upto : ℕ) (front : List Call) (next : Call) : Type 0 where
  last : ℕ
  turn : MakeInTurn from front last
  makes : MakesNext last next.segment next.kind
  low : last ≤ upto

front_in_turn : (from upto : ℕ) (front : List Call) (next : Call) (others : List Call)
    → MakeInTurn from (front ++ next ∷ others) upto → HasFront from upto front next
front_in_turn from upto [] next others turn = record {
  last = from;
  turn = refl;
  makes = turn.0;
  low = turn_rises from upto (next ∷ others) turn;
}
front_in_turn from upto (call ∷ front) next others turn =
    let rest = front_in_turn (last_behind from call.kind) upto front next others turn.1 in
    record {
      last = rest.last;
      turn = (turn.0, rest.turn);
      makes = rest.makes;
      low = rest.low;
    }

-- ---- a call that failed

module _ (size segment : ℕ) (done made : Bool) where
  abbrev failed_of : CallKind → Call
  failed_of kind = failed_call made
      (record { geometry = size; segment = segment; kind = kind; done = done })

  failed_none : (kind : CallKind) → MakesNone kind → MakesNone (failed_of kind).kind
  failed_none (Create any) none = absurd none
  failed_none (Write page bytes) none = tt
  failed_none Sync none = tt

  failed_next : (last : ℕ) (kind : CallKind) → MakesNext last segment kind
      → MakesNext last segment (failed_of kind).kind
  failed_next last (Create any) next = next
  failed_next last (Write page bytes) next = tt
  failed_next last Sync next = tt

one_more : (last : ℕ) (kind : CallKind) → last_behind last kind ≤ last + 1
one_more last (Create true) = omega arith
one_more last (Create false) = omega arith
one_more last (Write page bytes) = omega arith
one_more last Sync = omega arith

-- ---- a tape with more calls in turn, up to a segment at most

pub record GrowsInTurn (from upto : ℕ) (old new : Option Tape) : Type 0 where
  pub more : List Call
  pub grown : new ≡ with_calls old more
  pub last : ℕ
  pub turn : MakeInTurn from more last
  pub low : last ≤ upto

pub broken_in_turn : (from upto : ℕ) (old new : Option Tape) (old_moment new_moment : ℕ)
    (calls : List Call) → MakeInTurn from calls upto
    → BreaksOff old new old_moment new_moment calls → GrowsInTurn from (upto + 1) old new
broken_in_turn from upto old new old_moment new_moment calls turn broken =
    let front = front_in_turn from upto broken.front broken.next broken.others
    (subst (λ (cs : List Call). MakeInTurn from cs upto) broken.are turn) in
    let next = broken.next in
    elim broken.fails [
      | inl failed ↦
          (let last = failed_call failed.0 next in
          record {
            more = broken.front ++ last ∷ [];
            grown = failed.1.tape ∙ sym (with_calls-append old broken.front (last ∷ []));
            last = last_behind front.last last.kind;
            turn = turn_on from front.last (last_behind front.last last.kind) broken.front
                (last ∷ []) front.turn (
                  failed_next next.geometry next.segment next.done failed.0 front.last next.kind
                      front.makes,
                  refl,
                );
            low = omega (arith, one_more front.last last.kind, front.low);
          })
      | inr not_made ↦ record {
        more = broken.front;
        grown = not_made.same_tape;
        last = front.last;
        turn = front.turn;
        low = omega (arith, front.low);
      }
    ]

-- calls that make none, of which a front was made, or one failed behind it
pub stopped_in_turn : (last : ℕ) (old new : Option Tape) (old_moment new_moment : ℕ)
    (front others : List Call) → MakeNone (front ++ others)
    → AreMade old new old_moment new_moment front
    ⊎ NextFails (with_calls old front) new (old_moment + length front) new_moment others
    → GrowsInTurn last last old new
stopped_in_turn last old new old_moment new_moment front others none (inl made) = record {
  more = front;
  grown = made.tape;
  last = last;
  turn = none_in_turn last front (none_front front others none);
  low = omega arith;
}
stopped_in_turn last old new old_moment new_moment front [] none (inr fails) = absurd fails
stopped_in_turn last old new old_moment new_moment front (next ∷ others) none (inr (inl failed)) =
    let call = failed_call failed.0 next in
    let behind = none_behind front (next ∷ others) none in
    record {
      more = front ++ call ∷ [];
      grown = failed.1.tape ∙ sym (with_calls-append old front (call ∷ []));
      last = last;
      turn = none_in_turn last (front ++ call ∷ [])
          (none_both front (call ∷ []) (none_front front (next ∷ others) none)
          (failed_none next.geometry next.segment next.done failed.0 next.kind behind.0, tt));
      low = omega arith;
    }
stopped_in_turn last old new old_moment new_moment front (next ∷ others) none (inr (inr same)) =
    record {
      more = front;
      grown = same.same_tape;
      last = last;
      turn = none_in_turn last front (none_front front (next ∷ others) none);
      low = omega arith;
    }

-- what is told of a tape, told of it with more calls
pub grown_told : (old new : Option Tape) (more : List Call) (P Q : Tape → Type 0)
    → new ≡ with_calls old more
    → ((t : Tape) → P t → Q (record t { calls = t.calls ++ more })) → IfSome old P → IfSome new Q
grown_told None new more P Q is step told =
    subst (λ (o : Option Tape). IfSome o Q) (sym (is ∙ with_calls-none more)) tt
grown_told (Some t) new more P Q is step told =
    subst (λ (o : Option Tape). IfSome o Q) (sym (is ∙ with_calls-some t more)) (step t told)

-- ---- a page

module _ (size made segment page : ℕ) (bytes : List ℕ) where
  new_in_turn : (is_full : Bool) → segment ≡ made + 1
      → MakeInTurn made (store_calls size segment page true is_full bytes) segment
  new_in_turn true next = (next, (tt, (tt, sym next)))
  new_in_turn false next = (next, (tt, sym next))

  there_in_turn : (is_full : Bool)
      → MakeInTurn made (store_calls size segment page false is_full bytes) made
  there_in_turn true = (tt, (tt, refl))
  there_in_turn false = (tt, refl)

-- the calls that put a page of the segment behind the last one, or of one that is there
pub put_in_turn : (size made page upto : ℕ) (bytes : List ℕ) → page / pages_of size ≤ made + 1
    → MakeInTurn made (put_calls size made page upto bytes) (max made (page / pages_of size))
put_in_turn size made page upto bytes near =
    let segment = page / pages_of size in
    let at = page % pages_of size in
    let is_full = upto % size == 0 in
    let stored : Bool → ℕ → Type 0 =
    λ b last. MakeInTurn made (store_calls size segment at b is_full bytes) last in
    elim (cases_lt made segment) [
      | inl new ↦
          (let low : made ≤ segment = omega (arith, new) in
          let last : segment ≡ max made segment = sym (max-eq_right low) in
          subst (λ (b : Bool). stored b (max made segment)) (sym (lt-ltb made segment new))
          (subst (stored true) last
          (new_in_turn size made segment at bytes is_full (omega (arith, new, near)))))
      | inr there ↦
          (let low : segment ≤ made = omega (arith, there) in
          let last : made ≡ max made segment = sym (max-eq_left low) in
          subst (λ (b : Bool). stored b (max made segment)) (sym (le-ltb made segment low))
          (subst (stored false) last (there_in_turn size made segment at bytes is_full)))
    ]

pub max_within : (one other most : ℕ) → one ≤ most → other ≤ most → max one other ≤ most
max_within one other most first second = elim (cases_lt one other) [
  | inl less ↦
      (let low : one ≤ other = omega (arith, less) in
      let is : other ≡ max one other = sym (max-eq_right low) in
      subst (λ (n : ℕ). n ≤ most) is second)
  | inr more ↦
      (let low : other ≤ one = omega (arith, more) in
      let is : one ≡ max one other = sym (max-eq_left low) in
      subst (λ (n : ℕ). n ≤ most) is first)
]

-- the page in which all ends that is written lies so
pub near_made : (size made written page : ℕ) → IsSegmentSize size → written ≤ made * size + size
    → page ≡ written / 8192 → page / pages_of size ≤ made + 1
near_made size made written page valid reached ends =
    let pages = segment_size_in_pages size valid in
    let whole : (made + 1) * size ≡ 8192 * ((made + 1) * pages_of size) =
    ap (λ (n : ℕ). (made + 1) * n) pages.0 ∙ swapped (made + 1) (pages_of size) in
    let low : page < (made + 2) * pages_of size = omega (arith, whole, reached, ends, pages.1) in
    omega (arith, div_below page (pages_of size) (made + 2) (omega (arith, pages.1)) low)
  where
    swapped : (a b : ℕ) → a * (8192 * b) ≡ 8192 * (a * b)
    swapped a b = omega arith

-- ---- since a moment

pub begun_in_turn : (count : ℕ) (t : Tape) → AreThere (state_now t) count
    → AreOnly count (state_now t) → AreMadeInTurn (length t.calls) count t
begun_in_turn count t there only =
    let same : state_at t (length t.calls) ≡ state_now t =
    ap (after_calls t.at_first) (take-length t.calls) in
    record {
      within = omega arith;
      first = count;
      there = subst (λ (state : DiskState). AreThere state count) (sym same) there;
      only = subst (AreOnly count) (sym same) only;
      in_turn = subst (λ (calls : List Call). MakeInTurn count calls count)
          (sym (drop_all (length t.calls) t.calls (omega arith))) refl;
    }

pub grown_in_turn : (since last upto : ℕ) (t : Tape) (more : List Call)
    → AreMadeInTurn since last t → MakeInTurn last more upto
    → AreMadeInTurn since upto (record t { calls = t.calls ++ more })
grown_in_turn since last upto t more made turn =
    let grown : Tape = record t { calls = t.calls ++ more } in
    let same : state_at grown since ≡ state_at t since =
    ap (after_calls t.at_first) (take-before t.calls more since made.within) in
    record {
      within = omega (arith, made.within, length-append t.calls more);
      first = made.first;
      there = subst (λ (state : DiskState). AreThere state made.first) (sym same) made.there;
      only = subst (AreOnly made.first) (sym same) made.only;
      in_turn = subst (λ (calls : List Call). MakeInTurn made.first calls upto)
          (sym (drop-append-le since t.calls more made.within))
          (turn_on made.first last upto (drop since t.calls) more made.in_turn turn);
    }

-- so few segments end far below the last address that is read
pub few_are_low : (size last : ℕ) → IsSegmentSize size → last ≤ 4097
    → last + 1 < 2 ^ 60 / size
few_are_low size last valid few =
    let tests = segment_size_tests size valid in
    let some : 0 < size = omega (arith, tests.1) in
    let more : last + 2 ≤ 4099 = omega (arith, few) in
    let scaled : (last + 2) * size ≤ 4099 * size = mul-le-mul_right size more in
    let far : (last + 2) * size ≤ 2 ^ 60 = omega (arith, scaled, tests.2) in
    let counted : last + 2 ≤ 2 ^ 60 / size = (le-div_iff_mul-le some).1 far in
    omega (arith, counted)

-- ---- which segments are there behind such calls

abbrev AreFirstOn : ℕ → DiskState → Type 0
AreFirstOn count state = AreFirst count (λ segment. is_some (state segment))

module _ (count : ℕ) (state : DiskState) (first : AreFirstOn count state) where
  kept_first : (call : Call) → ((s : Option Segment)
      → is_some (segment_after call.kind call.geometry call.done s) ≡ is_some s)
      → AreFirstOn count (after_call state call)
  kept_first call keeps =
      let same : (segment : ℕ) → is_some (after_call state call segment) ≡ is_some (state segment) =
      λ segment. after_each state call
      (λ (o : Option Segment). is_some o ≡ is_some (state segment)) segment
      (λ _. keeps (state segment)) (λ _. refl) in
      record {
        there = λ segment among. same segment ∙ first.there segment among;
        only = λ segment apart. same segment ∙ first.only segment apart;
      }

  module _ (size segment : ℕ) (done : Bool) where
    abbrev call_of : CallKind → Call
    call_of kind = record { geometry = size; segment = segment; kind = kind; done = done }

    called_first : (kind : CallKind) → MakesNext count segment kind
        → AreFirstOn (last_behind count kind) (after_call state (call_of kind))
    called_first (Create true) next = record {
      there = λ n among. after_each state (call_of (Create true))
          (λ (o : Option Segment). is_some o ≡ true) n (λ _. refl)
          (λ other. first.there n (among.0, omega (arith, among.1, next, other)));
      only = λ n apart. after_each state (call_of (Create true))
          (λ (o : Option Segment). is_some o ≡ false) n
          (λ same. absurd (apart (omega (arith, same, next), omega (arith, same, next))))
          (λ _. first.only n (λ among. apart (among.0, omega (arith, among.1))));
    }
    called_first (Create false) next = kept_first (call_of (Create false)) (λ _. refl)
    called_first (Write page bytes) next = kept_first (call_of (Write page bytes))
        (is_some-kept (Write page bytes) tt size done)
    called_first Sync next = kept_first (call_of Sync) (is_some-kept Sync tt size done)

all_first : (calls : List Call) (count last : ℕ) (state : DiskState) → AreFirstOn count state
    → MakeInTurn count calls last → AreFirstOn last (after_calls state calls)
all_first [] count last state first turn =
    subst (λ (n : ℕ). AreFirstOn n state) turn first
all_first (call ∷ calls) count last state first turn =
    all_first calls (last_behind count call.kind) last (after_call state call)
    (called_first count state first call.geometry call.segment call.done call.kind turn.0) turn.1

is_some_there : (s : Option Segment) → IsSome (page_of_segment s 0) → is_some s ≡ true
is_some_there None there = absurd (cc there)
is_some_there (Some s) there = refl

pub first_behind : (since last : ℕ) (t : Tape) → AreMadeInTurn since last t
    → AreFirst last (λ segment. is_some (state_now t segment))
first_behind since last t made =
    let state = state_at t since in
    let first : AreFirstOn made.first (state_at t since) = record {
      there = λ segment among. is_some_there (state segment) (made.there segment among);
      only = λ segment apart. ap is_some (made.only segment apart);
    } in
    subst (λ (calls : List Call). AreFirstOn last (after_calls t.at_first calls))
    (take-append-drop since t.calls)
    (subst (AreFirstOn last)
    (sym (after_calls-append t.at_first (take since t.calls) (drop since t.calls)))
    (all_first (drop since t.calls) made.first last state first made.in_turn))

-- ---- where a process is killed

turn_taken : (n : ℕ) (calls : List Call) (from upto : ℕ) → MakeInTurn from calls upto
    → (mid : ℕ) × (mid ≤ upto) × MakeInTurn from (take n calls) mid
turn_taken zero calls from upto turn = (from, turn_rises from upto calls turn, refl)
turn_taken (suc n) [] from upto turn = (from, omega (arith, turn), refl)
turn_taken (suc n) (call ∷ calls) from upto turn =
    let rest = turn_taken n calls (last_behind from call.kind) upto turn.1 in
    (rest.0, rest.1, (turn.0, rest.2))

turns_until : (since at last : ℕ) (t : Tape) → since ≤ at → AreMadeInTurn since last t
    → (mid : ℕ) × (mid ≤ last) × AreMadeInTurn since mid (tape_until at t)
turns_until since at last t low made =
    let taken = turn_taken (at - since) (drop since t.calls) made.first last made.in_turn in
    let same : state_at (tape_until at t) since ≡ state_at t since =
    ap (after_calls t.at_first) (take-take since at t.calls low) in (
      taken.0,
      taken.1,
      record {
        within = omega (arith, low, made.within, length-take at t.calls);
        first = made.first;
        there = subst (λ (state : DiskState). AreThere state made.first) (sym same) made.there;
        only = subst (AreOnly made.first) (sym same) made.only;
        in_turn = subst (λ (calls : List Call). MakeInTurn made.first calls taken.0)
            (sym (drop_taken t.calls since at low)) taken.2;
      },
    )

pub stopped_turns : (since at last : ℕ) (t stopped : Tape) → since ≤ at → StopsAt t at stopped
    → AreMadeInTurn since last t
    → (mid : ℕ) × (mid ≤ last) × AreMadeInTurn since mid stopped
stopped_turns since at last t stopped low (inl same) made =
    let until = turns_until since at last t low made in
    (until.0, until.1, subst (AreMadeInTurn since until.0) (sym same) until.2)
stopped_turns since at last t stopped low (inr c) made =
    let until = turns_until since at last t low made in
    let cut = write_to c.geometry c.segment c.page c.mix c.done in (
      until.0,
      until.1,
      subst (AreMadeInTurn since until.0) (sym c.stopped_is)
          (grown_in_turn since until.0 until.0 (tape_until at t) (cut ∷ []) until.2 (tt, refl)),
    )
