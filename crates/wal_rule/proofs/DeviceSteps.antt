-- A call of the device is a step of the table: what a seat knows of its writer, told of the call,
-- is the machine's writer behind it.
use Rattle.std.specs.Prelude.{IfErr, IfSome, IsSome, Result, MatchResult, if◌then◌else◌}
use Rattle.std.proofs.Common.{get_or, ◌≡◌, ℕ, ◌+◌, ◌*◌, ◌/◌, ◌^◌, ◌≤◌, ◌<◌, inl, inr, Bool, true, false, List, [], ◌∷◌, ◌++◌, append_assoc, set, slice_index, Err, Ok, Some, None, arith, refl, sym, ap, ◌∙◌, subst}
use mathlib.Core.Option.{Option, none, some, some-injective, some-ne-none}
use Rattle.atomic_table.specs.Table.{Allows, State, keeps, rest}
use Rattle.byte_position.specs.Geometry.{pages_of}
use Rattle.segment_disk.specs.declared.disk.Call.{Call}
use Rattle.segment_disk.specs.Cause.{Rose}
use Rattle.segment_disk.specs.Tape.{DiskState, Tape, create_call, failed_call, sync_call, write_call}
use Rattle.flush_core.specs.declared.writer.DiskFault.{DiskFault}
use Rattle.machine_state.specs.Words.{Opening, write_turn_number}
use Rattle.machine_state.specs.Views.{Hold, Idle, Lent, Out, Plain, Turned, View}
use Rattle.machine_state.specs.Suited.{tape_from}
use Rattle.machine_state.specs.Moves.{one_call_more, Done, Failed, CallOutcome, is_counted, is_done, with_hold, with_outcome}
use Rattle.machine_state.specs.Steps.{IsCallFault, MayStep, StepKind, create, sync, write, home_behind, value_behind, view_behind, with_call_on, word_of_step}
use Rattle.wal_rule.specs.declared.writer.LogWriter.{LogWriter}
use Rattle.wal_rule.specs.Called.{DeviceCall, DeviceCallEnds, IsCalled, IsWriteLow, creates, step_of_call, syncs, writer_behind, writes}
use Rattle.machine_state.specs.Suited.{tape_from}
use Rattle.wal_rule.specs.Slotted.{CallEnds, EndsAs, GoesOnFrom, IsOfLog, first_on, slot_disk, slot_plain, slot_segment_size, calls_of}
use Rattle.wal_rule.specs.Stepping.{Stands}
use Rattle.wal_rule.specs.Ruled.{HasInHand, IsRuled, home_of}
use Rattle.wal_rule.proofs.SlotTapes.{own_tape}
use Rattle.wal_rule.proofs.Allowed.{SoundAndRises, stands_in, stepped}
use Rattle.wal_rule.proofs.Addresses.{starts_in_pages}

-- ---- the tape behind a call

-- what holds of a tape, and of each with one call more, still holds behind a call of the writer,
-- whose disk held this at first
module _ (first : DiskState) (P : Tape → Type 0)
    (more : (t : Tape) (call : Call) → P t → P (record t { calls = t.calls ++ call ∷ [] })) where
  kept_call : (calls : Rattle.std.specs.Prelude.Option (List Call)) (call : Call)
      → IfSome (tape_from first calls) P → IfSome (tape_from first (one_call_more call calls)) P
  kept_call None call is = tt
  kept_call (Some calls) call is = more (record { at_first = first; calls = calls }) call is

  outcome_keeps : (call : Call) (outcome : CallOutcome) (p : Plain)
      → IfSome (tape_from first p.calls) P
      → IfSome (tape_from first (with_outcome call outcome p).calls) P
  outcome_keeps call Done p is = kept_call p.calls call is
  outcome_keeps call (Failed faults none) p is = is
  outcome_keeps call (Failed faults (some made)) p is =
      kept_call p.calls (failed_call made call) is

  pub writer_keeps : (size : ℕ) (call : DeviceCall) (outcome : CallOutcome) (p : Plain)
      → IfSome (tape_from first p.calls) P
      → IfSome (tape_from first (writer_behind size call outcome p).calls) P
  writer_keeps size (creates segment) outcome p is =
      outcome_keeps (create_call size segment) outcome p is
  writer_keeps size (writes segment page upto bytes) outcome p is =
      outcome_keeps (write_call size segment page bytes) outcome p is
  writer_keeps size (syncs segment) outcome p is =
      outcome_keeps (sync_call size segment) outcome p is

-- a tape with one call more goes on too
goes_further : (began : Rattle.std.specs.Prelude.Option Tape) (t : Tape) (call : Call)
    → GoesOnFrom began t → GoesOnFrom began (record t { calls = t.calls ++ call ∷ [] })
goes_further None t call is = is
goes_further (Some b) t call is = (
  is.0 ++ call ∷ [],
  ap (λ (cs : List Call). cs ++ call ∷ []) is.1 ∙ append_assoc b.calls is.0 (call ∷ []),
)

-- calls that are told are told behind a call, and so is their tape
told_call : (calls : Rattle.std.specs.Prelude.Option (List Call)) (call : Call) → IsSome calls
    → IsSome (one_call_more call calls)
told_call None call is = is
told_call (Some calls) call is = is

told_outcome : (call : Call) (outcome : CallOutcome) (p : Plain) → IsSome p.calls
    → IsSome (with_outcome call outcome p).calls
told_outcome call Done p is = told_call p.calls call is
told_outcome call (Failed faults none) p is = is
told_outcome call (Failed faults (some made)) p is = told_call p.calls (failed_call made call) is

told_on : (size : ℕ) (call : DeviceCall) (outcome : CallOutcome) (p : Plain) → IsSome p.calls
    → IsSome (writer_behind size call outcome p).calls
told_on size (creates segment) outcome p is =
    told_outcome (create_call size segment) outcome p is
told_on size (writes segment page upto bytes) outcome p is =
    told_outcome (write_call size segment page bytes) outcome p is
told_on size (syncs segment) outcome p is = told_outcome (sync_call size segment) outcome p is

told_calls : (t : Rattle.std.specs.Prelude.Option Tape) → IsSome t → IsSome (calls_of t)
told_calls None is = is
told_calls (Some t) is = is

told_tape : (first : DiskState) (calls : Rattle.std.specs.Prelude.Option (List Call))
    → IsSome calls → IsSome (tape_from first calls)
told_tape first None is = is
told_tape first (Some calls) is = is

-- the segment that waits behind a call waited before, or is the one written to
outcome_waits : (call : Call) (outcome : CallOutcome) (p : Plain)
    → (with_outcome call outcome p).waiting ≡ p.waiting
outcome_waits call Done p = refl
outcome_waits call (Failed faults none) p = refl
outcome_waits call (Failed faults (some made)) p = refl

either_waits : (P : ℕ → Type 0) (b : Bool) (x y : Option ℕ)
    → ((n : ℕ) → x ≡ some n → P n) → ((n : ℕ) → y ≡ some n → P n)
    → (n : ℕ) → (if b then x else y) ≡ some n → P n
either_waits P true x y left right = left
either_waits P false x y left right = right

writer_waits : (size : ℕ) (call : DeviceCall) (outcome : CallOutcome) (p : Plain)
    → IsWriteLow size call
    → ((segment : ℕ) → p.waiting ≡ some segment → segment < 2 ^ 64 / size)
    → (segment : ℕ) → (writer_behind size call outcome p).waiting ≡ some segment
    → segment < 2 ^ 64 / size
writer_waits size (creates segment) outcome p low was n is =
    was n (sym (outcome_waits (create_call size segment) outcome p) ∙ is)
writer_waits size (writes segment page upto bytes) outcome p low was n is =
    either_waits (λ (m : ℕ). m < 2 ^ 64 / size) (is_counted outcome) (some segment) p.waiting
    (λ m at. subst (λ (o : ℕ). o < 2 ^ 64 / size) (some-injective segment m at) low) was n is
writer_waits size (syncs segment) outcome p low was n is =
    either_waits (λ (m : ℕ). m < 2 ^ 64 / size) (is_done outcome) none p.waiting
    (λ m at. absurd (some-ne-none m (sym at))) was n is

-- what a writer keeps of a fault behind a call
fault_done : (size : ℕ) (call : DeviceCall) (p : Plain)
    → (writer_behind size call Done p).fault ≡ p.fault
fault_done size (creates segment) p = refl
fault_done size (writes segment page upto bytes) p = refl
fault_done size (syncs segment) p = refl

outcome_fault : (call : Call) (told : ℕ) (counted : Option Bool) (p : Plain)
    → (with_outcome call (Failed told counted) p).fault ≡ some told
outcome_fault call told none p = refl
outcome_fault call told (some made) p = refl

fault_failed : (size : ℕ) (call : DeviceCall) (told : ℕ) (counted : Option Bool) (p : Plain)
    → (writer_behind size call (Failed told counted) p).fault ≡ some told
fault_failed size (creates segment) told counted p =
    outcome_fault (create_call size segment) told counted p
fault_failed size (writes segment page upto bytes) told counted p =
    outcome_fault (write_call size segment page bytes) told counted p
fault_failed size (syncs segment) told counted p =
    outcome_fault (sync_call size segment) told counted p

-- a call by a writer that keeps no fault: it keeps none where the count of faults is as before, and
-- else that count
abbrev CountsOn : Result Unit DiskFault → ℕ → ℕ → Type 0
CountsOn result old new =
    MatchResult result (λ _. new ≡ old) (λ (e : DiskFault). e.faults ≡ new)

module _ (size : ℕ) (call : DeviceCall) (p : Plain) (old new : ℕ) (kept : Option ℕ) where
  up_behind : (result : Result Unit DiskFault) (outcome : CallOutcome) → EndsAs result outcome
      → CountsOn result old new → (writer_behind size call outcome p).fault ≡ kept
      → kept ≡ none → new ≡ old
  up_behind (Ok done) outcome ends counts is none_kept = counts
  up_behind (Err e) outcome ends counts is none_kept = absurd (some-ne-none e.faults
      (sym (fault_failed size call e.faults ends.0 p)
      ∙ ap (λ (o : CallOutcome). (writer_behind size call o p).fault) (sym ends.1)
      ∙ is ∙ none_kept))

  down_behind : p.fault ≡ none → (result : Result Unit DiskFault) (outcome : CallOutcome)
      → EndsAs result outcome → CountsOn result old new
      → (writer_behind size call outcome p).fault ≡ kept
      → (f : ℕ) → kept ≡ some f → f ≡ new
  down_behind up (Ok done) outcome ends counts is f fault_kept = absurd (some-ne-none f
      (sym fault_kept ∙ sym is
      ∙ ap (λ (o : CallOutcome). (writer_behind size call o p).fault) ends
      ∙ fault_done size call p ∙ up))
  down_behind up (Err e) outcome ends counts is f fault_kept = some-injective f e.faults
      (sym fault_kept ∙ sym is
      ∙ ap (λ (o : CallOutcome). (writer_behind size call o p).fault) ends.1
      ∙ fault_failed size call e.faults ends.0 p)
      ∙ counts

-- ---- the view behind a call

-- with this of the writer in hand
abbrev lent_behind : ℕ → DeviceCall → CallOutcome → Lent → Lent
lent_behind size call outcome l = record l {
  writer = writer_behind size call outcome l.writer;
}

abbrev holding : Hold → View → View
holding hold v = with_hold hold v

abbrev size_of : View → ℕ
size_of v = ((v.opening).setup).seg_size

held_behind : (call : DeviceCall) (outcome : CallOutcome) (v : View) (l : Lent)
    → view_behind (holding (Out l) v) (step_of_call call outcome) 0 none
    ≡ holding (Out (lent_behind (size_of v) call outcome l)) v
held_behind (creates segment) outcome v l = refl
held_behind (writes segment page upto bytes) outcome v l = refl
held_behind (syncs segment) outcome v l = refl

-- wherever the writer is, and whatever number was met
call_view : (call : DeviceCall) (outcome : CallOutcome) (v : View) (met : ℕ) (home : Option Plain)
    → view_behind v (step_of_call call outcome) 0 none
    ≡ view_behind v (step_of_call call outcome) met home
call_view (creates segment) outcome v met home = refl
call_view (writes segment page upto bytes) outcome v met home = refl
call_view (syncs segment) outcome v met home = refl

-- no call changes what is fixed of its pass's log, whether the pass is live, or its number
abbrev IsSteady : View → View → Type 0
IsSteady v w = (w.opening ≡ v.opening) × ((w.reserving).live ≡ (v.reserving).live)
    × ((w.reserving).number ≡ (v.reserving).number)

steady_called : (v : View) (f : Plain → Plain) (h : Hold) → IsSteady v (with_call_on v f h)
steady_called v f Idle = (refl, refl, refl)
steady_called v f Turned = (refl, refl, refl)
steady_called v f (Out l) = (refl, refl, refl)

pub call_steady : (call : DeviceCall) (outcome : CallOutcome) (v : View)
    → ((view_behind v (step_of_call call outcome) 0 none).opening ≡ v.opening)
    × (((view_behind v (step_of_call call outcome) 0 none).reserving).live ≡ (v.reserving).live)
    × (((view_behind v (step_of_call call outcome) 0 none).reserving).number
    ≡ (v.reserving).number)
call_steady (creates segment) outcome v =
    steady_called v _ v.writing.hold
call_steady (writes segment page upto bytes) outcome v =
    steady_called v _ v.writing.hold
call_steady (syncs segment) outcome v =
    steady_called v _ v.writing.hold

-- ---- what a call rests on

rose_since : (low old new : ℕ) → low ≤ old → Rose old new → Rose low new
rose_since low old new below (inl more) = inl (omega (arith, below, more))
rose_since low old new below (inr top) = inr top

call_fault : (v : View) (old : ℕ) (result : Result Unit DiskFault) (outcome : CallOutcome)
    → (v.opening).faults ≤ old → EndsAs result outcome
    → IfErr result (λ (e : DiskFault). Rose old e.faults) → IsCallFault v outcome
call_fault v old (Ok done) outcome below ends rose =
    subst (IsCallFault v) (sym ends) tt
call_fault v old (Err e) outcome below ends rose =
    subst (IsCallFault v) (sym ends.1) (rose_since (v.opening).faults old e.faults below rose)

may_call : (v : View) (call : DeviceCall) (outcome : CallOutcome)
    → MayStep v (step_of_call call Done) → IsCallFault v outcome
    → MayStep v (step_of_call call outcome)
may_call v (creates segment) outcome may fault = (may.0, fault)
may_call v (writes segment page upto bytes) outcome may fault = (may.0, fault)
may_call v (syncs segment) outcome may fault = (may.0, fault)

-- ---- the step

word_called : (v : View) (call : DeviceCall) (outcome : CallOutcome)
    → word_of_step v (step_of_call call outcome) ≡ write_turn_number
word_called v (creates segment) outcome = refl
word_called v (writes segment page upto bytes) outcome = refl
word_called v (syncs segment) outcome = refl

value_called : (v : View) (call : DeviceCall) (outcome : CallOutcome) (met : ℕ)
    → value_behind v (step_of_call call outcome) met ≡ met
value_called v (creates segment) outcome met = refl
value_called v (writes segment page upto bytes) outcome met = refl
value_called v (syncs segment) outcome met = refl

home_called : (v : View) (call : DeviceCall) (outcome : CallOutcome) (home : Option Plain)
    → home ≡ home_behind v (step_of_call call outcome) home
home_called v (creates segment) outcome home = refl
home_called v (writes segment page upto bytes) outcome home = refl
home_called v (syncs segment) outcome home = refl

-- what is written, what waits, and which fault is kept, of a writer in hand
abbrev written_of_hold : Hold → ℕ
written_of_hold Idle = 0
written_of_hold Turned = 0
written_of_hold (Out l) = (l.writer).written

abbrev waiting_of_hold : Hold → Option ℕ
waiting_of_hold Idle = none
waiting_of_hold Turned = none
waiting_of_hold (Out l) = (l.writer).waiting

abbrev fault_of_hold : Hold → Option ℕ
fault_of_hold Idle = none
fault_of_hold Turned = none
fault_of_hold (Out l) = (l.writer).fault

-- a call is made only while no fault is kept
up_lent : (v : View) (call : DeviceCall) → MayStep v (step_of_call call Done)
    → fault_of_hold v.writing.hold ≡ none
up_lent v (creates segment) may = ap fault_of_hold (may.0).1 ∙ ((may.0).2).up
up_lent v (writes segment page upto bytes) may = ap fault_of_hold (may.0).1 ∙ ((may.0).2).up
up_lent v (syncs segment) may = ap fault_of_hold (may.0).1 ∙ ((may.0).2).up

module _ {D : Type 0} (tape : D → Rattle.std.specs.Prelude.Option Tape) (moment faults : D → ℕ)
    (opening : Opening) (began : Rattle.std.specs.Prelude.Option Tape) where
  abbrev first : DiskState
  first = first_on began

  abbrev Held : State (LogWriter D) View → Type 0
  Held s = IsRuled tape moment faults opening began s.words s.homes s.views

  of_log_behind : (call : DeviceCall) (result : Result Unit DiskFault) (before now : LogWriter D)
      → IsOfLog tape faults began opening before → IsWriteLow (opening.setup).seg_size call
      → (slot_plain tape moment before).fault ≡ none
      → CallEnds tape moment faults before now result
      (writer_behind (opening.setup).seg_size call)
      → IsOfLog tape faults began opening now
  of_log_behind call result before now was low up ends =
      let size : ℕ = (opening.setup).seg_size in
      let rises = ends.rises in
      let failed = was.failed in
      let old : Plain = slot_plain tape moment before in
      let then_first : DiskState = first_on (tape (slot_disk before)) in
      let own : tape_from then_first old.calls ≡ tape (slot_disk before) =
      own_tape (tape (slot_disk before)) in
      let tape_is : tape_from then_first (writer_behind size call ends.outcome old).calls
      ≡ tape (slot_disk now) =
      ap (tape_from then_first) (sym (ap (λ (p : Plain). p.calls) ends.plain_is))
      ∙ sym ends.tape_is in
      let fault_is = sym (ap (λ (p : Plain). p.fault) ends.plain_is) in
      record {
        size_is = ends.same_size ∙ was.size_is;
        on_first = subst (λ (t : Rattle.std.specs.Prelude.Option Tape).
            IfSome t (λ (x : Tape). x.at_first ≡ first)) tape_is
            (writer_keeps then_first (λ (x : Tape). x.at_first ≡ first) (λ t call is. is) size call
            ends.outcome old (subst (λ (t : Rattle.std.specs.Prelude.Option Tape).
            IfSome t (λ (x : Tape). x.at_first ≡ first)) (sym own) was.on_first));
        goes_on = subst (λ (t : Rattle.std.specs.Prelude.Option Tape).
            IfSome t (GoesOnFrom began)) tape_is
            (writer_keeps then_first (GoesOnFrom began) (goes_further began) size call ends.outcome
            old (subst (λ (t : Rattle.std.specs.Prelude.Option Tape). IfSome t (GoesOnFrom began))
            (sym own) was.goes_on));
        told = λ some. subst (λ (t : Rattle.std.specs.Prelude.Option Tape). IsSome t) tape_is
            (told_tape then_first _
            (told_on size call ends.outcome old (told_calls _ (was.told some))));
        failed = omega (arith, rises, failed);
        up = λ none_kept. up_behind size call old (faults (slot_disk before))
            (faults (slot_disk now)) (slot_plain tape moment now).fault result ends.outcome
            ends.ends ends.counts fault_is none_kept ∙ was.up up;
        down = down_behind size call old (faults (slot_disk before)) (faults (slot_disk now))
            (slot_plain tape moment now).fault up result ends.outcome ends.ends ends.counts
            fault_is;
        waits_low = λ segment is. writer_waits size call ends.outcome
            (slot_plain tape moment before) low was.waits_low segment
            (sym (ap (λ (p : Plain). p.waiting) ends.plain_is) ∙ is);
      }

  -- the seat behind the call
  module _ (call : DeviceCall) (result : Result Unit DiskFault)
      (me : View × List (ℕ × LogWriter D)) (own : (me.0).opening ≡ opening)
      (called : IsCalled tape moment faults began opening call result me) where
    abbrev made : StepKind
    made = step_of_call call (called.ends).outcome

    abbrev told : View
    told = view_behind me.0 made 0 none

    own_size : (opening.setup).seg_size ≡ size_of me.0
    own_size = ap (λ (o : Opening). (o.setup).seg_size) (sym own)

    told_hold : told ≡ holding (Out (lent_behind (opening.setup).seg_size call
        (called.ends).outcome called.lent)) me.0
    told_hold = ap (λ (h : Hold). view_behind (holding h me.0) made 0 none) (called.had).hold
        ∙ held_behind call (called.ends).outcome me.0 called.lent
        ∙ ap (λ (n : ℕ). holding (Out (lent_behind n call (called.ends).outcome
        called.lent)) me.0) (sym own_size)

    told_view : (met : ℕ) (home : Option Plain) → told ≡ view_behind me.0 made met home
    told_view met home = call_view call (called.ends).outcome me.0 met home

    -- the writer had met no fault before the call
    up_before : MayStep me.0 (step_of_call call Done)
        → (slot_plain tape moment called.before).fault ≡ none
    up_before may = sym (ap (λ (w : Plain). w.fault) (called.had).kept)
        ∙ ap fault_of_hold (sym (called.had).hold)
        ∙ up_lent me.0 call may

    pub call_ended : MayStep me.0 (step_of_call call Done)
        → DeviceCallEnds tape moment faults began opening call result me.0 (told, me.1)
    call_ended may =
        let size : ℕ = (opening.setup).seg_size in
        let outcome : CallOutcome = (called.ends).outcome in
        record {
          outcome = outcome;
          ends = (called.ends).ends;
          view_is = refl;
          lent = lent_behind size call outcome called.lent;
          writer = called.writer;
          in_hand = record {
            hold = ap (λ (v : View). v.writing.hold) told_hold;
            slot = called.slot;
            kept = ap (writer_behind size call outcome) (called.had).kept
                ∙ sym (called.ends).plain_is;
            of_log = of_log_behind call result called.before called.writer (called.had).of_log
                called.low (up_before may) called.ends;
          };
        }

    may_made : MayStep me.0 (step_of_call call Done) → MayStep me.0 made
    may_made may = may_call me.0 call (called.ends).outcome may
        (call_fault me.0 (faults (slot_disk called.before)) result
        (called.ends).outcome
        (subst (λ (o : Opening). o.faults ≤ faults (slot_disk called.before)) (sym own)
        ((called.had).of_log).failed)
        (called.ends).ends (called.ends).fault)

    pub catches_up : (slots id : ℕ) → ((me.0).reserving).live ≡ true
        → MayStep me.0 (step_of_call call Done) → (told_began : Rattle.std.specs.Prelude.Option Tape) → told_began ≡ began
        → (of : Opening) → of ≡ opening → Allows Held slots id me write_turn_number (λ n. n)
        (λ r n. DeviceCallEnds tape moment faults told_began of call result me.0 n × Stands n.0)
    catches_up slots id live may told_began began_is of of_is s k _ here _ =
        let v : View = me.0 in
        let home : Option Plain = home_of tape moment faults s.homes in
        let word : ℕ = word_of_step v made in
        let after : List View = set s.views id told in
        let kept : SoundAndRises first opening (set s.words word (slice_index s.words word)) home
        after = subst
        (λ (n : ℕ). SoundAndRises first opening (set s.words word n) home after)
        (value_called v call (called.ends).outcome (slice_index s.words word))
        (stepped tape moment faults opening began slots id me live made
        (may_made may) s k here home told (home_called v call (called.ends).outcome home)
        (told_view (slice_index s.words word) home)) in
        let left : SoundAndRises first opening (set s.words write_turn_number (slice_index s.words write_turn_number)) home
        after = subst (λ (i : ℕ).
        SoundAndRises first opening (set s.words i (slice_index s.words i)) home
        after) (word_called v call (called.ends).outcome) kept in (
          told,
          keeps,
          tt,
          record {
            one = k.one;
            of_log = k.of_log;
            sound = left.0;
            rises = left.1;
          },
          (
            subst (λ (o : Opening).
                DeviceCallEnds tape moment faults told_began o call result me.0 (told, me.1))
                (sym of_is) (subst (λ (d : Rattle.std.specs.Prelude.Option Tape).
                DeviceCallEnds tape moment faults d opening call result me.0 (told, me.1))
                (sym began_is) (call_ended may)),
            stands_in tape moment faults opening began slots id me live s k here _ home told
                (call_steady call (called.ends).outcome me.0).0 left.0,
          ),
        )

  -- ---- the writer is lent from its slot

  pub lends : (me : View × List (ℕ × LogWriter D)) (l : Lent) (w : LogWriter D)
      → HasInHand tape moment faults began opening me l w → me.1 ≡ (0, w) ∷ rest me.1
  lends me l w has =
      has.slot ∙ ap (λ (c : List (ℕ × LogWriter D)). (0, w) ∷ rest c) (sym has.slot)

  module _ (me : View × List (ℕ × LogWriter D)) (l : Lent) (w held : LogWriter D)
      (has : HasInHand tape moment faults began opening me l w)
      (lent_is : me.1 ≡ (0, held) ∷ rest me.1) where
    pub lent_writer : w ≡ held
    lent_writer = ap (λ (c : List (ℕ × LogWriter D)). (get_or c 0 (0, w)).1)
        (sym has.slot ∙ lent_is)

    pub lent_size : (opening.setup).seg_size ≡ slot_segment_size held
    lent_size = sym (has.of_log).size_is ∙ ap (λ (x : LogWriter D). slot_segment_size x) lent_writer

    pub is_called : (call : DeviceCall) (result : Result Unit DiskFault) (now : LogWriter D)
        → IsWriteLow (slot_segment_size held) call
        → CallEnds tape moment faults held now result
        (writer_behind (slot_segment_size held) call)
        → IsCalled tape moment faults began opening call result (me.0, (0, now) ∷ rest me.1)
    is_called call result now low ends = record {
      lent = l;
      before = w;
      writer = now;
      had = record { hold = has.hold; slot = refl; kept = has.kept; of_log = has.of_log };
      slot = ap (λ (c : List (ℕ × LogWriter D)). (0, now) ∷ rest c) has.slot;
      ends = subst (λ (n : ℕ). CallEnds tape moment faults w now result (writer_behind n call))
          (sym lent_size) (subst (λ (x : LogWriter D). CallEnds tape moment faults x now result
          (writer_behind (slot_segment_size held) call)) (sym lent_writer) ends);
      low = subst (λ (n : ℕ). IsWriteLow n call) (sym lent_size) low;
    }

    -- ---- the segment called for has an address

    own_held : (me.0).opening ≡ opening → size_of me.0 ≡ slot_segment_size held
    own_held own = ap (λ (o : Opening). (o.setup).seg_size) own ∙ lent_size

    written_held : (lent : Lent) → (me.0).writing.hold ≡ Out lent
        → (lent.writer).written ≡ held.written
    written_held lent out = ap written_of_hold (sym out ∙ has.hold)
        ∙ ap (λ (w : Plain). w.written) has.kept
        ∙ ap (λ (x : LogWriter D). (slot_plain tape moment x).written) lent_writer

    waiting_held : (lent : Lent) → (me.0).writing.hold ≡ Out lent
        → (lent.writer).waiting ≡ (slot_plain tape moment w).waiting
    waiting_held lent out = ap waiting_of_hold (sym out ∙ has.hold)
        ∙ ap (λ (w : Plain). w.waiting) has.kept

    pub create_reaches : (me.0).opening ≡ opening → (segment : ℕ)
        → MayStep me.0 (create segment Done)
        → segment * pages_of (slot_segment_size held) ≤ (slot_plain tape moment held).written / 8192
    create_reaches own segment may =
        let next = (may.0).2 in
        starts_in_pages (slot_segment_size held) (slot_plain tape moment held).written segment
        (subst (λ (n : ℕ). segment * n ≤ (slot_plain tape moment held).written) (own_held own)
        (subst (λ (n : ℕ). segment * size_of me.0 ≤ n) (written_held (may.0).0 (may.0).1)
        next.behind))

    pub write_reaches : (me.0).opening ≡ opening → (segment page upto : ℕ) (bytes : List ℕ)
        → MayStep me.0 (write segment page upto bytes Done)
        → (segment * pages_of (slot_segment_size held)
        ≤ (slot_plain tape moment held).written / 8192)
        × (page < pages_of (slot_segment_size held))
    write_reaches own segment page upto bytes may =
        let next = (may.0).2 in
        let size_is = own_held own in
        let at : segment * pages_of (size_of me.0) + page
        ≡ (slot_plain tape moment held).written / 8192 = next.page_is
        ∙ ap (λ (n : ℕ). n / 8192) (written_held (may.0).0 (may.0).1) in
        subst (λ (n : ℕ). (segment * pages_of n ≤ (slot_plain tape moment held).written / 8192)
        × (page < pages_of n)) size_is (omega (arith, at), next.on_segment)

    pub sync_low : (segment : ℕ) → MayStep me.0 (sync segment Done)
        → segment < 2 ^ 64 / slot_segment_size held
    sync_low segment may =
        let next = (may.0).2 in
        subst (λ (n : ℕ). segment < 2 ^ 64 / n) lent_size ((has.of_log).waits_low segment
        (sym (waiting_held (may.0).0 (may.0).1) ∙ next.waits))
