-- What is assured of a run whose log was closed: the laws of closed logs, for the order that the
-- lines were told.
use Rattle.std.specs.Prelude.{IfSome, IsSome, None}
use Rattle.std.proofs.lemmas.Bool.{true≢false}
use Rattle.std.proofs.Common.{◌≡◌, [], ◌++◌, inl, inr, ℕ, ◌+◌, ◌-◌, ◌^◌, ◌<◌, ◌≤◌, List, Option, Some, length, refl, sym, ap, ◌∙◌, subst, arith}
use mathlib.Core.Option.{Option as Maybe, none, some}
use Rattle.segment_disk.specs.Cause.{Rose}
use Rattle.segment_disk.specs.Assured.{SegmentAssures}
use Rattle.segment_disk.specs.Tape.{DiskState, Tape}
use Rattle.segment_disk.specs.declared.disk.Call.{Call}
use Rattle.flush_core.specs.Pages.{HoldsNothing}
use Rattle.wal_page.specs.Order.{Entry, IsChained, rooms_of}
use Rattle.run_script.specs.Asked.{AskedLine}
use Rattle.run_laws.specs.declared.told.Told.{Told}
use Rattle.run_laws.specs.Told.{IsFullAnswer, IsRefused, SomeTold, TellsAll, order_from}
use Rattle.run_laws.specs.Crash.{EachIsTimely, KeepsFound, SurvivesCrashes}
use Rattle.run_laws.specs.WholeOrders.{IsWhole}
use Rattle.machine_state.specs.Suited.{BeganSuited, IsLogAt, tape_from}
use Rattle.machine_state.specs.Views.{View}
use Rattle.machine_state.specs.Words.{GoesOnAtPlace, Opening, found_position, order_end}
use Rattle.machine_state.proofs.Tapes.{at_told, told_as}
use Rattle.machine_laws.specs.Crashes.{LeavesLawful}
use Rattle.machine_laws.specs.WholeOrders.{LiesBehind}
use Rattle.run_laws.specs.Closed.{IsClosedOn}
use Rattle.run_laws.proofs.ClosedDisk.{crashes}
use Rattle.run_laws.proofs.FoundKept.{keep}
use Rattle.run_laws.proofs.Fronts.{no_other_words}
use Rattle.wal_rule.specs.Slotted.{GoesOnFrom, first_on, slot_disk, slot_plain}
use Rattle.wal_rule.specs.declared.writer.LogWriter.{LogWriter}
use Rattle.wal_rule.proofs.SlotTapes.{tape_on_first}
use Rattle.wal_rule.proofs.OpeningTold.{found_suited}
use Rattle.run_laws.specs.Counted.{all_reserved_count}
use Rattle.run_laws.specs.Ended.{IsClosedLog, logged_at_end}
use Rattle.run_laws.proofs.Counting.{own_counted}
use Rattle.run_laws.proofs.WholeOrders.{chained_whole}
use Rattle.run_laws.proofs.FullScripts.{too_much_asked}
use Rattle.run_laws.proofs.LastFlush.{left_whole}
use Rattle.run_laws.proofs.LineFaults.{run_stays_down}
use Rattle.run_laws.proofs.CatchingUp.{run_catches_up}
use Rattle.run_laws.proofs.MomentsTold.{run_rises}
use Rattle.run_laws.proofs.OneFault.{told_once}
use Rattle.run_laws.proofs.RefusedLines.{refused_for_want_of_room}
use Rattle.run_laws.proofs.MachineRuns.{keeps_words}
use Rattle.run_laws.proofs.RunCrashes.{told_survive, told_timely}
use Rattle.run_laws.proofs.RunOrder.{told_order, told_rise}
use Rattle.run_laws.proofs.RunTells.{run_tells}
use Rattle.run_laws.specs.Assured.{AssuresBehind, HoldsSuited, IsMachineRun, KeepsToldWords, LeavesLogWords, RunAssures, TapeGoesOn, order_told}
use Rattle.run_laws.specs.ClosedRuns.{HasFlushedAll, IsRunClosed}
use Rattle.run_laws.proofs.ClosedLogs.{closed_on, fault_rose, knows_no_fault, none_is_later, rooms_are_low}

-- a disk without a segment is one that a log may go on on which found none
pub empty_suited : (opening : Opening) (began : Option Tape) → opening.made ≡ 0
    → HoldsNothing began → HoldsSuited opening began
empty_suited opening None none_made nothing = tt
empty_suited opening (Some b) none_made nothing = λ segment. subst
    (SegmentAssures (opening.setup).seg_size
    (λ segment. (1 ≤ segment) × (segment ≤ opening.made)) (IsLogAt opening [])
    segment) (sym (nothing segment)) (λ made. omega (arith, none_made, made.0, made.1))

-- a tape goes on from the one of the opening
tape_goes_on : (began now : Option Tape) → (IsSome began → IsSome now)
    → IfSome now (λ t. t.at_first ≡ first_on began) → IfSome now (GoesOnFrom began)
    → TapeGoesOn began now
tape_goes_on None None told on_first goes_on = refl
tape_goes_on None (Some t) told on_first goes_on = absurd goes_on
tape_goes_on (Some b) None told on_first goes_on = absurd (true≢false (sym (told refl)))
tape_goes_on (Some b) (Some t) told on_first goes_on = (
  goes_on.0,
  ap (λ (s : DiskState). Some (record { at_first = s; calls = t.calls })) on_first
      ∙ ap (λ (calls : List Call). Some (record b { calls = calls })) goes_on.1,
)

-- a number that may be missing is missing where it can be none
none_unless : (fault : Maybe ℕ) → ((faults : ℕ) → fault ≡ some faults → ⊥) → fault ≡ none
none_unless none never = refl
none_unless (some faults) never = absurd (never faults refl)

module _ {D : Type 0} (tape : D → Option Tape) (moment faults : D → ℕ) (began : Option Tape)
    (opening : Opening) (v : View) (w : LogWriter D) (position : ℕ)
    (script : List (List AskedLine)) (lists : List (List Told))
    (r : IsRunClosed tape moment faults began opening v w position script lists) where
  abbrev size : ℕ
  size = (opening.setup).seg_size

  abbrev last_view : View
  last_view = v

  abbrev order : List Entry
  order = ((r.closes).sound).order

  abbrev closed : IsClosedLog opening ((r.closes).sound).order v
  closed = record {
    first = first_on began;
    words = (r.closes).words;
    writer = slot_plain tape moment w;
    views = (r.closes).views;
    id = (r.closes).id;
    sound = (r.closes).sound;
    order_is = refl;
    here = (r.closes).here;
    closed = (r.closes).closed;
  }

  -- the state's order is the one that the lines were told
  order_is : ((r.closes).sound).order ≡ order_from (opening.setup).seg_size 1 script lists
  order_is = sym (told_order opening order last_view closed script lists r.taken)

  tells : TellsAll (logged_at_end opening order (faults (slot_disk w))) 1 script lists
  tells = run_tells opening order last_view closed script lists r.taken (faults (slot_disk w))
      (λ count is. let counted = ((r.closes).of_log).down count is in omega (arith, counted))

  -- ---- on a disk that held what the log may go on on

  -- the disk's tape, by what it held at first
  own : tape_from (first_on began) (slot_plain tape moment w).calls ≡ tape (slot_disk w)
  own = tape_on_first (first_on began) (tape (slot_disk w)) ((r.closes).of_log).on_first

  began_on : HoldsSuited opening began → IfSome (tape (slot_disk w)) (BeganSuited opening)
  began_on suited = found_suited opening began (tape (slot_disk w)) suited r.counted
      ((r.closes).of_log).on_first ((r.closes).of_log).goes_on

  closed_there : HoldsSuited opening began → (t : Tape) → tape (slot_disk w) ≡ Some t
      → IsClosedOn opening order t last_view
  closed_there suited t is = closed_on opening order last_view closed r.narrow t (own ∙ is)
      (at_told (BeganSuited opening) (tape (slot_disk w)) t is (began_on suited))

  only : HoldsSuited opening began → IfSome (tape (slot_disk w))
      (LeavesLawful opening order 0 opening.moment)
  only suited = told_as (tape (slot_disk w)) (λ t is.
      (crashes opening order t last_view (closed_there suited t is)).only)

  timely : HoldsSuited opening began → IfSome (tape (slot_disk w))
      (λ t. EachIsTimely (opening.setup).seg_size opening.moment order t 1 script lists)
  timely suited = told_as (tape (slot_disk w)) (λ t is.
      told_timely opening order t last_view (closed_there suited t is) order script lists r.taken)

  -- ---- what is assured

  machine : IsMachineRun opening (tape (slot_disk w)) (moment (slot_disk w)) script lists
  machine = record {
    first = first_on began;
    words = (r.closes).words;
    writer = slot_plain tape moment w;
    views = (r.closes).views;
    id = (r.closes).id;
    view = v;
    sound = (r.closes).sound;
    order_is = order_is;
    tape_is = own;
    moment_is = refl;
    here = (r.closes).here;
    taken = r.taken;
  }

  firm : HoldsSuited opening began → IfSome (tape (slot_disk w))
      (KeepsToldWords opening (order_from (opening.setup).seg_size 1 script lists) lists)
  firm suited = told_as (tape (slot_disk w)) (λ t is.
      keeps_words opening t (moment (slot_disk w)) script lists
      (subst (λ (o : Option Tape). IsMachineRun opening o (moment (slot_disk w)) script lists) is
      machine) (at_told (BeganSuited opening) (tape (slot_disk w)) t is (began_on suited)))

  pub run_assures : RunAssures opening began (tape (slot_disk w)) (moment (slot_disk w))
      (faults (slot_disk w)) script lists
  run_assures = record {
    machine = machine;
    told = subst (λ (es : List Entry).
        TellsAll (logged_at_end opening es (faults (slot_disk w))) 1 script lists) order_is tells;
    stays_down = run_stays_down opening last_view script lists r.taken;
    one_fault = told_once opening order last_view closed script lists r.taken;
    gapless = subst (GoesOnAtPlace opening) order_is (((r.closes).closed).accounted).chained;
    in_line_order = told_rise opening order last_view closed script lists r.taken;
    caught_up = run_catches_up opening last_view script lists r.taken;
    moments = run_rises opening last_view script lists r.taken (r.closes).in_order
        (moment (slot_disk w)) (none_is_later opening order last_view closed);
    goes_on = tape_goes_on began (tape (slot_disk w)) ((r.closes).of_log).told
        ((r.closes).of_log).on_first ((r.closes).of_log).goes_on;
    firm = firm;
    only_log = subst (λ (es : List Entry). HoldsSuited opening began → IfSome (tape (slot_disk w))
        (LeavesLawful opening es 0 opening.moment)) order_is only;
    no_late_receipt = subst (λ (es : List Entry). HoldsSuited opening began
        → IfSome (tape (slot_disk w))
        (λ t. EachIsTimely size opening.moment es t 1 script lists)) order_is timely;
    full = too_much_asked opening order last_view closed script lists r.taken;
  }

  -- ---- with entries that lie below the place

  module _ (front : List Entry) (lies : LiesBehind opening front) where
    abbrev whole : List Entry
    whole = front ++ order

    whole_is : front ++ ((r.closes).sound).order
        ≡ order_told front (opening.setup).seg_size script lists
    whole_is = ap (λ (es : List Entry). front ++ es) order_is

    words : HoldsSuited opening began → IfSome (tape (slot_disk w))
        (LeavesLogWords (opening.setup).seg_size (opening.setup).sysid whole opening.moment)
    words suited = told_as (tape (slot_disk w)) (λ t is moment image from left k.
        (no_other_words opening order t last_view (closed_there suited t is) front lies
        moment image from left).words k)

    crash : HoldsSuited opening began → IfSome (tape (slot_disk w))
        (SurvivesCrashes (opening.setup).seg_size opening.moment whole lists)
    crash suited = told_as (tape (slot_disk w)) (λ t is.
        told_survive opening order t last_view (closed_there suited t is) front lies script lists
        r.taken)

    keeps : HoldsSuited opening began → IfSome (tape (slot_disk w))
        (KeepsFound (opening.setup).seg_size opening.moment whole front)
    keeps suited = told_as (tape (slot_disk w)) (λ t is.
        keep opening order t last_view (closed_there suited t is) front lies)

    pub run_assures_behind : AssuresBehind opening front began (tape (slot_disk w)) script lists
    run_assures_behind = record {
      gapless = subst (IsChained size) whole_is
          (chained_whole opening front lies order (((r.closes).closed).accounted).chained);
      words = subst (λ (es : List Entry). HoldsSuited opening began → IfSome (tape (slot_disk w))
          (LeavesLogWords size (opening.setup).sysid es opening.moment)) whole_is words;
      crash = subst (λ (es : List Entry). HoldsSuited opening began → IfSome (tape (slot_disk w))
          (SurvivesCrashes size opening.moment es lists)) whole_is crash;
      keeps_found = subst (λ (es : List Entry). HoldsSuited opening began
          → IfSome (tape (slot_disk w)) (KeepsFound size opening.moment es front)) whole_is keeps;
    }

  -- ---- faults

  pub counted_up : (slot_plain tape moment w).fault ≡ none
      → (faults (slot_disk w) ≡ opening.faults)
      × (SomeTold IsRefused lists → SomeTold IsFullAnswer lists)
  counted_up up = (
    ((r.closes).of_log).up up,
    refused_for_want_of_room opening order last_view closed script lists r.taken up,
  )

  pub counted_down : (count : ℕ) → (slot_plain tape moment w).fault ≡ some count
      → Rose opening.faults (faults (slot_disk w))
  counted_down count is = subst (Rose opening.faults) (((r.closes).of_log).down count is)
      (fault_rose opening order last_view closed count is)

  -- ---- the disk in the end

  none_met : faults (slot_disk w) ≡ opening.faults → opening.faults < 2 ^ 64 - 1
      → (slot_plain tape moment w).fault ≡ none
  none_met same low = none_unless (slot_plain tape moment w).fault (λ count is.
      elim (counted_down count is) [
        | inl more ↦ omega (arith, more, same)
        | inr top ↦ omega (arith, top, same, low)
      ])

  all_there : (slot_plain tape moment w).fault ≡ none → HoldsSuited opening began
      → HasFlushedAll (opening.setup).seg_size lists v
      → (front : List Entry) → LiesBehind opening front
      → IsWhole (opening.setup).seg_size (tape (slot_disk w)) (front ++ order)
  all_there up suited (inl p) front lies =
      subst (λ (t : Option Tape). IsWhole size t (front ++ order)) own
      (left_whole opening order last_view closed front lies script lists r.taken up p.0 p.1 p.2
      r.narrow
      (subst (λ (t : Option Tape). IfSome t (BeganSuited opening)) (sym own) (began_on suited)))
  all_there up suited (inr f) front lies =
      absurd (knows_no_fault opening order last_view closed up f.0 f.1)

  pub flushed_whole : HasFlushedAll (opening.setup).seg_size lists v
      → faults (slot_disk w) ≡ opening.faults → opening.faults < 2 ^ 64 - 1
      → HoldsSuited opening began → (front : List Entry) → LiesBehind opening front
      → IsWhole (opening.setup).seg_size (tape (slot_disk w))
      (order_told front (opening.setup).seg_size script lists)
  flushed_whole flushed same low suited front lies =
      subst (IsWhole size (tape (slot_disk w))) (whole_is front lies)
      (all_there (none_met same low) suited flushed front lies)

  -- ---- the order in numbers

  pub records_counted : length (order_from (opening.setup).seg_size 1 script lists)
      ≡ all_reserved_count lists
  records_counted = own_counted opening last_view script lists r.taken

  pub bytes_told : position ≡ found_position opening + rooms_of (opening.setup).seg_size
      (order_from (opening.setup).seg_size 1 script lists)
  bytes_told = (r.closes).position_is ∙ (((r.closes).closed).free).position
      ∙ ap (order_end opening) order_is

  pub rooms_within : rooms_of (opening.setup).seg_size
      (order_from (opening.setup).seg_size 1 script lists) ≤ 2 ^ 42
  rooms_within = subst (λ (es : List Entry). rooms_of size es ≤ 2 ^ 42) order_is
      (rooms_are_low opening order last_view closed)
