-- What a run promises.
use Rattle.std.specs.Prelude.{◌≡◌, ℕ, ◌+◌, ◌-◌, ◌^◌, ◌<◌, List, [], ◌∷◌, length, None, Ok, Option, Err, IfSome, IsSome}
use Rattle.segment_disk.specs.Tape.{state_now, page_of_segment}
use Rattle.flush_core.specs.Pages.{HoldsNothing}
use Rattle.run_script.specs.Asked.{AskedLine}
use Rattle.backend_cli.specs.declared.outcome.Outcome.{Outcome}
use Rattle.backend_cli.specs.declared.outcome.Outcome.TheVariants.{Done, OutOfMemory, SourceFault, ScriptRefused, NotEmpty, DiskFault, LogFull, SinkFault}
use Rattle.run_laws.specs.declared.told.Told.{Told}
use Rattle.run_laws.specs.Told.{TellsAll, EachStaysDown, order_from, IsFullAnswer, IsRefused, SomeTold}
use Rattle.run_laws.specs.CatchingUp.{EachCatchesUp}
use Rattle.run_laws.specs.Counts.{TellsOneFault}
use Rattle.run_laws.specs.Moments.{EachRises}
use Rattle.run_laws.specs.Crash.{EachIsTimely}
use Rattle.run_laws.specs.Rooms.{all_rooms_asked}
use Rattle.cli_line.specs.declared.commands.GenOptions.{GenOptions}
use Rattle.cli_line.specs.declared.commands.RunOptions.{RunOptions}
use Rattle.cli_line.specs.declared.commands.ScriptRunOptions.{ScriptRunOptions}
use Rattle.run_script.specs.Generated.{generated_script}
use Rattle.run_laws.specs.WholeOrders.{IsWhole}
use Rattle.byte_position.specs.Position.{first_position}
use Rattle.wal_page.specs.Order.{Entry}
use Rattle.machine_state.specs.Words.{Opening, found_position, log_limit}
use Rattle.machine_laws.specs.Crashes.{LeavesLawful}
use Rattle.wal_rule.specs.Founded.{empty_log_opening}
use Rattle.run_laws.specs.Assured.{IsMachineRun, KeepsToldWords, LeavesLogWords, TapeGoesOn, order_told}
use Rattle.run_laws.specs.Ended.{logged_at_end}
use Rattle.backend_cli.specs.Headline.{Headline}
use Rattle.backend_cli.specs.Setups.{run_setup}
use Rattle.backend_cli.specs.Texts.{run_text}
use Rattle.backend_cli.specs.Reading.{ScriptMeans}
use Rattle.segment_disk.specs.Cause.{Rose, RoseByOne}
use Rattle.backend_cli.specs.Outside.{Outside, Took, IsUntouched}

-- the script that the source handed out means some lines, with the run's writer
abbrev pub MeansSome : Option ℕ → Outside → Type 0
MeansSome writer outside =
    (script : List (List AskedLine))
    × ScriptMeans writer outside.source_before outside.source_after (Ok script)

-- how a run ends that did not open the log, and why; it ends in no other way
abbrev pub EndsUnopened : Option ℕ → Outside → Outcome → Type 0
EndsUnopened writer outside OutOfMemory =
    (outside.source_after.faults ≡ outside.source_before.faults)
    × (outside.disk_after ≡ outside.disk_before)
EndsUnopened writer outside SourceFault =
    RoseByOne outside.source_before.faults outside.source_after.faults
    × (outside.disk_after ≡ outside.disk_before)
EndsUnopened writer outside (ScriptRefused refusal) =
    ScriptMeans writer outside.source_before outside.source_after (Err refusal)
    × (outside.disk_after ≡ outside.disk_before)
EndsUnopened writer outside NotEmpty =
    MeansSome writer outside
    × IfSome outside.tape_before (λ t. IsSome (page_of_segment (state_now t 1) 0))
    × (outside.disk_after ≡ outside.disk_before)
EndsUnopened writer outside DiskFault =
    MeansSome writer outside × RoseByOne outside.disk_before outside.disk_after
EndsUnopened writer outside others = ⊥

-- the same of a run whose script is known
abbrev pub EndsUnplayed : Outside → Outcome → Type 0
EndsUnplayed outside OutOfMemory = outside.disk_after ≡ outside.disk_before
EndsUnplayed outside NotEmpty =
    IfSome outside.tape_before (λ t. IsSome (page_of_segment (state_now t 1) 0))
    × (outside.disk_after ≡ outside.disk_before)
EndsUnplayed outside DiskFault = RoseByOne outside.disk_before outside.disk_after
EndsUnplayed outside others = ⊥

-- how a run ends that opened the log: a disk's fault, else a full log, else a sink's fault, else
-- all is done
abbrev pub EndsOpened : Outside → List (List Told) → Outcome → Type 0
EndsOpened outside told Done =
    (outside.disk_after ≡ outside.disk_before) × (SomeTold IsRefused told → ⊥)
    × (outside.sink_after ≡ outside.sink_before)
EndsOpened outside told DiskFault = Rose outside.disk_before outside.disk_after
EndsOpened outside told LogFull =
    (outside.disk_after ≡ outside.disk_before) × SomeTold IsFullAnswer told
EndsOpened outside told SinkFault =
    (outside.disk_after ≡ outside.disk_before) × (SomeTold IsFullAnswer told → ⊥)
    × Rose outside.sink_before outside.sink_after
EndsOpened outside told others = ⊥

-- what a run told and made of its script's lines since the opening of its log, whatever lies below
-- its place; `held` says what the disk held before the call
pub record HoldsSince (opening : Opening) (held : Type 0) (outside : Outside) (outcome : Outcome)
    (script : List (List AskedLine)) (lists : List (List Told)) : Type 0 where
  pub machine : IsMachineRun opening outside.tape_after outside.moment_after script lists
  pub told : TellsAll (logged_at_end opening
      (order_from (opening.setup).seg_size 1 script lists) outside.disk_after) 1 script lists
  pub stays_down : EachStaysDown lists
  pub one_fault : TellsOneFault lists
  pub goes_on : TapeGoesOn outside.tape_before outside.tape_after
  pub firm : held → IfSome outside.tape_after
      (KeepsToldWords opening (order_from (opening.setup).seg_size 1 script lists) lists)
  pub only_log : held → IfSome outside.tape_after (LeavesLawful opening
      (order_from (opening.setup).seg_size 1 script lists) 0 opening.moment)
  pub caught_up : EachCatchesUp script lists
  pub moments : EachRises opening.moment script lists outside.moment_after
  pub no_late_receipt : held → IfSome outside.tape_after
      (λ t. EachIsTimely (opening.setup).seg_size opening.moment
      (order_from (opening.setup).seg_size 1 script lists) t 1 script lists)
  pub ends : EndsOpened outside lists outcome
  pub full : SomeTold IsFullAnswer lists → log_limit opening.setup
      < found_position opening + all_rooms_asked (opening.setup).seg_size script

-- .. and of the whole order, where the entries of `front` lie below the place
pub record HoldsBehind (opening : Opening) (front : List Entry) (held : Type 0) (outside : Outside)
    (script : List (List AskedLine)) (lists : List (List Told)) : Type 0 where
  pub words : held → IfSome outside.tape_after (LeavesLogWords (opening.setup).seg_size
      (opening.setup).sysid (order_told front (opening.setup).seg_size script lists)
      opening.moment)
  pub whole : outside.disk_after ≡ outside.disk_before → outside.disk_before < 2 ^ 64 - 1 → held
      → IsWhole (opening.setup).seg_size outside.tape_after
      (order_told front (opening.setup).seg_size script lists)

-- a run that began the log, of the script with these lines, on a disk that held nothing where that
-- is told
pub record HoldsOpened (outside : Outside) (options : RunOptions) (outcome : Outcome)
    (script : List (List AskedLine)) (lists : List (List Told)) : Type 0 where
  pub empty : IfSome outside.tape_before (λ t. page_of_segment (state_now t 1) 0 ≡ None)
  pub headline : Headline options.geometry outside.moment_before script lists outside.tape_before
      outside.tape_after
  pub since : HoldsSince (empty_log_opening (run_setup options (length script))
      outside.moment_before outside.disk_before) (HoldsNothing outside.tape_before) outside outcome
      script lists
  pub behind : HoldsBehind (empty_log_opening (run_setup options (length script))
      outside.moment_before outside.disk_before) [] (HoldsNothing outside.tape_before) outside
      script lists
  pub printed : Took outside.taken_before outside.taken_after outside.sink_before outside.sink_after
      (run_text options.geometry options.list (first_position options.geometry) script lists
      (order_from options.geometry 1 script lists))

-- the run of a script that is known: without told lists the log was not opened, and nothing was
-- touched
abbrev pub PlayHolds : Outside → RunOptions → Outcome → List (List AskedLine) → List (List Told)
    → Type 0
PlayHolds outside options outcome script [] = EndsUnplayed outside outcome × IsUntouched outside
PlayHolds outside options outcome script (told ∷ others) =
    HoldsOpened outside options outcome script (told ∷ others)

-- the same of the script that the source handed out, with the run's writer
abbrev pub RunHolds : Outside → ScriptRunOptions → Outcome → List (List Told) → Type 0
RunHolds outside options outcome [] =
    EndsUnopened options.writer outside outcome × IsUntouched outside
RunHolds outside options outcome (told ∷ others) =
    (script : List (List AskedLine))
    × ScriptMeans options.writer outside.source_before outside.source_after (Ok script)
    × HoldsOpened outside options.run outcome script (told ∷ others)

-- the run of lines that are made: no script is read
pub record GenHolds (outside : Outside) (options : GenOptions) (outcome : Outcome)
    (lists : List (List Told)) : Type 0 where
  pub unread : outside.source_after ≡ outside.source_before
  pub plays : PlayHolds outside options.run outcome (generated_script options.lines) lists
