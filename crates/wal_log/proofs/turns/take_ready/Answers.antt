use Rattle.std.proofs.Common.{◌≡◌, ◌≢◌, [], ℕ, sym, ap, ◌∙◌, subst}
use Rattle.std.specs.Prelude.{Some}
use mathlib.Core.Option.{none, some}
use Rattle.machine_state.specs.Moves.{after_slot_out, copied_below, fault_number}
use Rattle.machine_state.specs.Steps.{load_down, take_write_turn}
use Rattle.machine_state.specs.Views.{Watching, Turned, Idle, Plain, View}
use Rattle.wal_rule.specs.declared.seated.SeatedPass.{SeatedPass}
use Rattle.wal_rule.specs.Downs.{KnowsDown}
use Rattle.wal_rule.specs.SeatedPasses.{Steps, hand_of, view_of}
use Rattle.wal_rule.specs.Slotted.{slot_plain}
use Rattle.flush_core.specs.Calls.{maybe}
use Rattle.wal_rule.specs.Stepping.{Meets}
use Rattle.word_ring.specs.InHand.{HasHand, known_copied, writer_in}
use Rattle.word_ring.proofs.HandLaws.{same_hand}
use Rattle.wal_log.specs.Downs.{KnowsNoFault}
use Rattle.wal_log.specs.PassLogs.{log_of_pass}
use Rattle.wal_log.specs.Standing.{AddsNothing}
use Rattle.wal_log.proofs.InHandLaws.{fault_is_some, hand_taken, may_put_met, view_taken}
use Rattle.wal_log.proofs.AddingNothing.{adds_on, as_before, held_else, taken_out}
use Rattle.wal_log.proofs.Keeping.{down_met_keeps, none_loaded, taken_met, taken_up}
use Rattle.wal_log.proofs.Plain.{turn_had, turn_taken}
use Rattle.wal_log.proofs.Seated.{hand_is, view_is, was_read}
use Rattle.wal_log.proofs.turns.take_ready.Given.{Over}
use Rattle.wal_log.proofs.turns.take_ready.Goals as goal
use Rattle.wal_log.proofs.turns.take_ready.Goals.{After-slot_out, After-writer_now}

-- ---- the turn, and the down value with it

-- behind both, no more has changed of a pass than the turn and the down value
record HasTried {D : Type 0} (met : ℕ) (old now : SeatedPass D) : Type 0 where
  adds : AddsNothing old now
  up : met ≡ 0 → KnowsNoFault (view_of now)
  same_hand : hand_of now ≡ hand_of old
  same_watching : (view_of now).watching ≡ (view_of old).watching

module _ {D : Type 0} (old one : SeatedPass D) (turn : ℕ)
    (by_turn : Steps take_write_turn turn old one) where
  in_vain : turn ≢ 0 → AddsNothing old one
  in_vain other = as_before old one by_turn.same_table
      (view_is by_turn ∙ turn_taken turn (view_of old) other)

  has_tried : turn ≡ 0 → (met : ℕ) (two : SeatedPass D) → Steps load_down met one two
      → ((faults : ℕ) → KnowsDown faults (view_of one) → met ≡ faults) → HasTried met old two
  has_tried free met two by_load known =
      let had = view_is by_turn ∙ turn_had turn (view_of old) free in
      let loaded = view_is by_load in
      record {
        adds = adds_on old one two (held_else old one Turned by_turn.same_table had) (record {
          works = record {
            same_table = by_load.same_table;
            work = down_met_keeps (view_of one) met (view_of two) loaded known;
          };
          log = ap (λ (v : View). log_of_pass v) loaded;
          flushed = ap (λ (v : View). v.writing.flushed) loaded;
        });
        up = none_loaded (view_of one) met (view_of two) loaded known;
        same_hand = hand_is by_load ∙ hand_is by_turn;
        same_watching = ap (λ (x : View). x.watching) loaded
            ∙ ap (λ (x : View). x.watching) had;
      }

pub returns-then-turn-ne0-clause-ready : goal.returns-then-turn-ne0-clause-ready
returns-then-turn-ne0-clause-ready g c =
    let turn = c.take_write_turn-turn in
    let same = view_is turn.ensures.steps
    ∙ turn_taken turn.result (view_of c.args.seated.now) c.if-turn-ne0.true in (
      (
        record {
          met = subst (λ (v : View). Meets v take_write_turn turn.result) (sym same)
              turn.ensures.met;
          taken = c.if-turn-ne0.true;
        },
        same,
        subst KnowsNoFault (sym same) c.requires.up,
      ),
      record {
        idle = ap (λ (v : View). v.writing.hold) same ∙ c.requires.rests.idle;
        empty = hand_is turn.ensures.steps ∙ c.requires.rests.empty;
      },
    )

pub returns-then-turn-ne0-clause-adds_nothing : goal.returns-then-turn-ne0-clause-adds_nothing
returns-then-turn-ne0-clause-adds_nothing g c =
    in_vain c.args.seated.now c.take_write_turn-turn.new.self c.take_write_turn-turn.result
    c.take_write_turn-turn.ensures.steps c.if-turn-ne0.true

pub returns-then-faults-ne0-clause-adds_nothing : goal.returns-then-faults-ne0-clause-adds_nothing
returns-then-faults-ne0-clause-adds_nothing g c =
    let tried = has_tried c.args.seated.now c.take_write_turn-turn.new.self
    c.take_write_turn-turn.result c.take_write_turn-turn.ensures.steps c.if-turn-ne0.false
    c.load_down-faults.result c.load_down-faults.new.self c.load_down-faults.ensures.steps
    c.load_down-faults.ensures.known in
    adds_on c.args.seated.now c.load_down-faults.new.self c.release_write_turn.new.self tried.adds
    (held_else c.load_down-faults.new.self c.release_write_turn.new.self Idle
    c.release_write_turn.ensures.steps.same_table (view_is c.release_write_turn.ensures.steps))

-- ---- the writer

module _ (g : Over) (c : After-slot_out g) where
  tried : HasTried c.load_down-faults.result c.args.seated.now c.load_down-faults.new.self
  tried = has_tried c.args.seated.now c.take_write_turn-turn.new.self
      c.take_write_turn-turn.result c.take_write_turn-turn.ensures.steps c.if-turn-ne0.false
      c.load_down-faults.result c.load_down-faults.new.self c.load_down-faults.ensures.steps
      c.load_down-faults.ensures.known

  empty : hand_of c.load_down-faults.new.self ≡ []
  empty = tried.same_hand ∙ c.requires.rests.empty

  hand : HasHand g.D.Disk.tape g.D.Disk.moment g.D.Disk.faults c.slot_out.new.self
  hand =
      let out = c.slot_out.ensures.out in
      hand_taken g.D.Disk.tape g.D.Disk.moment g.D.Disk.faults c.load_down-faults.new.self
      c.slot_out.new.self empty out.0 out.1 out.2 c.slot_out.ensures.table

  abbrev plain : Plain
  plain = slot_plain g.D.Disk.tape g.D.Disk.moment c.slot_out.ensures.out.1

  loaded_up : KnowsNoFault (view_of c.load_down-faults.new.self)
  loaded_up = tried.up c.if-faults-ne0.false

  view : view_of c.slot_out.new.self ≡ after_slot_out plain (view_of c.load_down-faults.new.self)
  view =
      let out = c.slot_out.ensures.out in
      view_taken g.D.Disk.tape g.D.Disk.moment g.D.Disk.faults c.load_down-faults.new.self
      c.slot_out.new.self empty out.0 out.1 out.2

  adds : AddsNothing c.args.seated.now c.slot_out.new.self
  adds = adds_on c.args.seated.now c.load_down-faults.new.self c.slot_out.new.self tried.adds
      (taken_out c.load_down-faults.new.self c.slot_out.new.self plain loaded_up
      c.slot_out.ensures.table view)

  up : plain.fault ≡ none → KnowsNoFault (view_of c.slot_out.new.self)
  up = taken_up (view_of c.load_down-faults.new.self) (view_of c.slot_out.new.self) plain loaded_up
      view

  met : (view_of c.slot_out.new.self).writing.down_met ≡ fault_number plain.fault
  met = taken_met (view_of c.load_down-faults.new.self) (view_of c.slot_out.new.self) plain
      loaded_up view

  set_none : (view_of c.slot_out.new.self).writing.down_set ≡ 0
  set_none = ap (λ (v : View). v.writing.down_set) view ∙ loaded_up.set

  known : known_copied (view_of c.slot_out.new.self)
      ≡ copied_below (view_of c.args.seated.now).watching
  known = ap (λ (v : View). known_copied v) view
      ∙ ap (λ (x : Watching). copied_below x) tried.same_watching

module _ (g : Over) (c : After-writer_now g) where
  read_view : view_of c.writer_now.new.seated ≡ view_of c.slot_out.new.self
  read_view = view_is (was_read c.writer_now.ensures.same)

  read_hand : HasHand g.D.Disk.tape g.D.Disk.moment g.D.Disk.faults c.slot_out.new.self
      → HasHand g.D.Disk.tape g.D.Disk.moment g.D.Disk.faults c.writer_now.new.seated
  read_hand = same_hand g.D.Disk.tape g.D.Disk.moment g.D.Disk.faults c.slot_out.new.self
      c.writer_now.new.seated c.writer_now.ensures.same

  read_adds : AddsNothing c.args.seated.now c.slot_out.new.self
      → AddsNothing c.args.seated.now c.writer_now.new.seated
  read_adds before = adds_on c.args.seated.now c.slot_out.new.self c.writer_now.new.seated before
      (as_before c.slot_out.new.self c.writer_now.new.seated
      c.writer_now.ensures.same.same_table read_view)

  read_up : KnowsNoFault (view_of c.slot_out.new.self)
      → KnowsNoFault (view_of c.writer_now.new.seated)
  read_up before = subst KnowsNoFault (sym read_view) before

  -- what was read of the writer's fault is so
  read_fault : view_of c.slot_out.new.self
      ≡ after_slot_out (slot_plain g.D.Disk.tape g.D.Disk.moment c.slot_out.ensures.out.1)
      (view_of c.load_down-faults.new.self)
      → (slot_plain g.D.Disk.tape g.D.Disk.moment c.slot_out.ensures.out.1).fault
      ≡ maybe c.writer_now.result.fault
  read_fault view = ap (λ (v : View). (writer_in v).fault) (sym view)
      ∙ sym c.writer_now.ensures.read.fault

pub writer_now-requires : goal.writer_now-requires
writer_now-requires g c = record {
  hand = hand g (goal.at.writer_now-requires g c).After-slot_out;
}

pub returns-in-None-clause-ready : goal.returns-in-None-clause-ready
returns-in-None-clause-ready g c =
    let path = goal.at.returns-in-None-clause-ready g c in
    let at = path.After-writer_now in
    let out = path.After-slot_out in (
      record {
        hand = read_hand g at (hand g out);
        up = ap (λ (v : View). (writer_in v).fault) (read_view g at)
            ∙ sym c.writer_now.ensures.read.fault
            ∙ ap (λ (f : Rattle.std.specs.Prelude.Option ℕ). maybe f) c.in-None.is;
      },
      ap (λ (v : View). known_copied v) (read_view g at) ∙ known g out,
      read_up g at (up g out (read_fault g at (view g out)
          ∙ ap (λ (f : Rattle.std.specs.Prelude.Option ℕ). maybe f) c.in-None.is)),
    )

pub returns-in-None-clause-adds_nothing : goal.returns-in-None-clause-adds_nothing
returns-in-None-clause-adds_nothing g c =
    let path = goal.at.returns-in-None-clause-adds_nothing g c in
    read_adds g path.After-writer_now
    (adds g path.After-slot_out)

-- ---- the writer had failed

module _ (g : Over) (c : After-writer_now g) (faults : ℕ)
    (is : c.writer_now.result.fault ≡ Some faults) where
  read : maybe c.writer_now.result.fault ≡ some faults
  read = ap (λ (f : Rattle.std.specs.Prelude.Option ℕ). maybe f) is

  some_failed : HasHand g.D.Disk.tape g.D.Disk.moment g.D.Disk.faults c.slot_out.new.self
      → faults ≢ 0
  some_failed before =
      let hand = read_hand g c before in
      fault_is_some (view_of c.writer_now.new.seated) (hand.0, hand.2.hold) faults
      (ap (λ (v : View). (writer_in v).fault) (read_view g c)
      ∙ sym c.writer_now.ensures.read.fault ∙ read) c.writer_now.new.seated.seated.stands

  read_met : view_of c.slot_out.new.self
      ≡ after_slot_out (slot_plain g.D.Disk.tape g.D.Disk.moment c.slot_out.ensures.out.1)
      (view_of c.load_down-faults.new.self)
      → (view_of c.slot_out.new.self).writing.down_met
      ≡ fault_number
      (slot_plain g.D.Disk.tape g.D.Disk.moment c.slot_out.ensures.out.1).fault
      → (view_of c.writer_now.new.seated).writing.down_met ≡ faults
  read_met view met = ap (λ (v : View). v.writing.down_met) (read_view g c)
      ∙ met ∙ ap fault_number (read_fault g c view ∙ read)

pub give_back-requires-clause-hand : goal.give_back-requires-clause-hand
give_back-requires-clause-hand g c =
    let path = goal.at.give_back-requires-clause-hand g c in
    read_hand g path.After-writer_now (hand g path.After-slot_out)

pub give_back-requires-clause-may : goal.give_back-requires-clause-may
give_back-requires-clause-may g c =
    let path = goal.at.give_back-requires-clause-may g c in
    let at = path.After-writer_now in
    let out = path.After-slot_out in
    let has = read_hand g at (hand g out) in
    may_put_met (view_of c.writer_now.new.seated) (has.0, has.2.hold)
    (λ zero. some_failed g at c.in-Some.faults c.in-Some.is (hand g out)
    (sym (read_met g at c.in-Some.faults c.in-Some.is (view g out) (met g out)) ∙ zero))

pub returns-in-Some-clause-ready : goal.returns-in-Some-clause-ready
returns-in-Some-clause-ready g c =
    let path = goal.at.returns-in-Some-clause-ready g c in
    let at = path.After-writer_now in
    let out = path.After-slot_out in
    let back = c.give_back.ensures.view in (
      record {
        met = ap (λ m. m.0.writing.down_met) back
            ∙ read_met g at c.in-Some.faults c.in-Some.is (view g out) (met g out);
        some = some_failed g at c.in-Some.faults c.in-Some.is (hand g out);
        set_none = ap (λ m. m.0.writing.down_set) back
            ∙ ap (λ (v : View). v.writing.down_set) (read_view g at) ∙ set_none g out
            ∙ sym c.requires.up.set;
      },
      record {
        idle = ap (λ m. m.0.writing.hold) back;
        empty = ap (λ m. m.1) back;
      },
    )

pub returns-in-Some-clause-adds_nothing : goal.returns-in-Some-clause-adds_nothing
returns-in-Some-clause-adds_nothing g c =
    let path = goal.at.returns-in-Some-clause-adds_nothing g c in
    adds_on c.args.seated.now c.writer_now.new.seated c.give_back.new.seated
    (read_adds g path.After-writer_now (adds g path.After-slot_out))
    (held_else c.writer_now.new.seated c.give_back.new.seated Idle
    c.give_back.ensures.same_table (ap (λ m. m.0) c.give_back.ensures.view))
