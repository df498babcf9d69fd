-- What is assured of a run, by what its lines were told.
use Rattle.std.specs.Prelude.{◌≡◌, ℕ, ◌+◌, ◌*◌, ◌<◌, ◌≤◌, List, ◌++◌, IfSome, Option, None, Some}
use mathlib.Core.Option.{some}
use Rattle.segment_disk.specs.declared.disk.Call.{Call}
use Rattle.segment_disk.specs.DiskImage.{DiskImage, LeftAt}
use Rattle.segment_disk.specs.ImageWords.{image_word}
use Rattle.segment_disk.specs.Tape.{DiskState, Tape, state_now}
use Rattle.wal_page.specs.Log.{IsLawfulWord}
use Rattle.wal_page.specs.Order.{Entry, IsChained}
use Rattle.machine_state.specs.Durable.{IsFirm}
use Rattle.machine_state.specs.Sound.{IsSound}
use Rattle.machine_state.specs.Suited.{IsSuited, tape_from}
use Rattle.machine_state.specs.Views.{HasAt, Plain, View}
use Rattle.machine_state.specs.Words.{GoesOnAtPlace, Opening, found_end, found_position, log_limit}
use Rattle.machine_laws.specs.Crashes.{LeavesLawful}
use Rattle.run_script.specs.Asked.{AskedLine}
use Rattle.run_laws.specs.declared.told.Told.{Told}
use Rattle.run_laws.specs.Told.{EachStaysDown, IsFullAnswer, RiseInLineOrder, SomeTold, TellsAll, order_from}
use Rattle.run_laws.specs.Counts.{TellsOneFault}
use Rattle.run_laws.specs.Moments.{EachRises}
use Rattle.run_laws.specs.CatchingUp.{EachCatchesUp}
use Rattle.run_laws.specs.Crash.{EachIsTimely, KeepsFound, SaysDurable, SurvivesCrashes}
use Rattle.run_laws.specs.Rooms.{all_rooms_asked}
use Rattle.run_laws.specs.Ended.{HasTakenIn, logged_at_end}

-- the whole order, where what lies below the opening's place is known entry by entry: these, and
-- behind them what the lines were told; backend b has pass b + 1
abbrev pub order_told : List Entry → ℕ → List (List AskedLine) → List (List Told) → List Entry
order_told front size script lists = front ++ order_from size 1 script lists

-- the disk held at the opening what the log may go on on, where it tells what it holds
abbrev pub HoldsSuited : Opening → Option Tape → Type 0
HoldsSuited opening began = IfSome began (λ t. IsSuited opening (state_now t))

-- a disk tells what it holds where it told it before: what it held at first is as it was, and its
-- calls are those before and some behind them
abbrev pub TapeGoesOn : Option Tape → Option Tape → Type 0
TapeGoesOn None after = after ≡ None
TapeGoesOn (Some before) after =
    (later : List Call) × (after ≡ Some (record before { calls = before.calls ++ later }))

-- each image that a crash leaves from a moment on has no words but 0 and those of the log that an
-- order and a system id give
abbrev pub LeavesLogWords : (size sysid : ℕ) → List Entry → ℕ → Tape → Type 0
LeavesLogWords size sysid order from t =
    (moment : ℕ) (image : DiskImage) → from ≤ moment → LeftAt t moment image
    → (k : ℕ) → IsLawfulWord size sysid order (8 * k) (image_word size image (8 * k))

-- whatever a crash leaves is the log of an order word by word, in segments that are there: from the
-- opening on up to where what was found ends, and from each moment on by which a line says that all
-- below an address is durable, up to that address
pub record KeepsToldWords (opening : Opening) (order : List Entry) (lists : List (List Told))
    (t : Tape) : Type 0 where
  pub found : IsFirm opening order (found_end opening) opening.moment t
  pub told : (moment address : ℕ) → SomeTold (SaysDurable moment address) lists
      → IsFirm opening order address moment t

-- the run was one of the machine, with a log that was opened so: in a state that the machine's
-- invariant allows, its order is what the lines were told, the writer at home made the disk's
-- calls, and a pass took in those of all backends, each of which played its lines and was told
-- these answers
pub record IsMachineRun (opening : Opening) (now : Option Tape) (moment : ℕ)
    (script : List (List AskedLine)) (lists : List (List Told)) : Type 0 where
  pub first : DiskState
  pub words : List ℕ
  pub writer : Plain
  pub views : List View
  pub id : ℕ
  pub view : View
  pub sound : IsSound first opening words (some writer) views
  pub order_is : sound.order ≡ order_from (opening.setup).seg_size 1 script lists
  pub tape_is : tape_from first writer.calls ≡ now
  pub moment_is : writer.moment ≡ moment
  pub here : HasAt views id view
  pub taken : HasTakenIn opening view script lists

-- the run was such a one, on a disk that had the tape `began` at the opening and has the tape `now`
-- in the end; its lines are told of no moment before the opening's
pub record IsRunOn (opening : Opening) (began now : Option Tape) (moment : ℕ)
    (script : List (List AskedLine)) (lists : List (List Told)) : Type 0 where
  pub machine : IsMachineRun opening now moment script lists
  pub goes_on : TapeGoesOn began now
  pub moments : EachRises opening.moment script lists moment

-- the log was opened on a disk that had the tape `began` then, and has the tape `now`, this moment
-- and this count of faults in the end; whatever lies below the opening's place
pub record RunAssures (opening : Opening) (began now : Option Tape) (moment faults : ℕ)
    (script : List (List AskedLine)) (lists : List (List Told)) : Type 0 where
  pub machine : IsMachineRun opening now moment script lists
  pub told : TellsAll (logged_at_end opening
      (order_from (opening.setup).seg_size 1 script lists) faults) 1 script lists
  pub stays_down : EachStaysDown lists
  pub one_fault : TellsOneFault lists
  pub gapless : GoesOnAtPlace opening (order_from (opening.setup).seg_size 1 script lists)
  pub in_line_order : RiseInLineOrder (opening.setup).seg_size 1 script lists
  pub caught_up : EachCatchesUp script lists
  pub moments : EachRises opening.moment script lists moment
  pub goes_on : TapeGoesOn began now
  pub firm : HoldsSuited opening began → IfSome now (KeepsToldWords opening
      (order_from (opening.setup).seg_size 1 script lists) lists)
  pub only_log : HoldsSuited opening began → IfSome now (LeavesLawful opening
      (order_from (opening.setup).seg_size 1 script lists) 0 opening.moment)
  pub no_late_receipt : HoldsSuited opening began → IfSome now
      (λ t. EachIsTimely (opening.setup).seg_size opening.moment
      (order_from (opening.setup).seg_size 1 script lists) t 1 script lists)
  pub full : SomeTold IsFullAnswer lists → log_limit opening.setup
      < found_position opening + all_rooms_asked (opening.setup).seg_size script

-- .. and besides, where these entries lie below the place: what crashes leave of the whole order
pub record AssuresBehind (opening : Opening) (front : List Entry) (began now : Option Tape)
    (script : List (List AskedLine)) (lists : List (List Told)) : Type 0 where
  pub gapless : IsChained (opening.setup).seg_size
      (order_told front (opening.setup).seg_size script lists)
  pub words : HoldsSuited opening began → IfSome now (LeavesLogWords (opening.setup).seg_size
      (opening.setup).sysid (order_told front (opening.setup).seg_size script lists)
      opening.moment)
  pub crash : HoldsSuited opening began → IfSome now (SurvivesCrashes (opening.setup).seg_size
      opening.moment (order_told front (opening.setup).seg_size script lists) lists)
  pub keeps_found : HoldsSuited opening began → IfSome now (KeepsFound
      (opening.setup).seg_size opening.moment
      (order_told front (opening.setup).seg_size script lists) front)
