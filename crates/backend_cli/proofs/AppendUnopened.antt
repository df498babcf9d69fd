-- What a run has to show that was to go on with a log which was not opened.
use Rattle.std.proofs.Common.{◌≡◌, ℕ, ◌+◌, ◌≤◌, List, [], ◌++◌, length, Ok, Option, Some, None, refl, subst, sym, inl, inr}
use Rattle.std.specs.Prelude.{IfSome, IsSome}
use Rattle.byte_position.specs.Geometry.{IsSegmentSize}
use Rattle.segment_disk.specs.DiskImage.{DiskImage, LeftAt}
use Rattle.segment_disk.specs.Tape.{IsUncalled, Tape, page_of_segment, state_now}
use Rattle.flush_core.specs.Settled.{AreAllThere}
use Rattle.wal_reader.specs.declared.found.Answer.{Answer}
use Rattle.wal_reader.specs.declared.found.FoundRecord.{FoundRecord}
use Rattle.wal_reader.specs.Decodes.{Decodes}
use Rattle.wal_reader.specs.Pages.{pages_in}
use Rattle.wal_reader.proofs.FindsLaws.{finding_is_decoding}
use Rattle.written_log_laws.specs.Torn.{NoTornPass}
use Rattle.found_log.specs.Found.{HasBegunToSettle, RefusesLog}
use Rattle.found_log.specs.declared.fault.FindFault.TheVariants as finding
use Rattle.machine_state.specs.Sound.{IsSetup}
use Rattle.wal_log.specs.Reopening.{TellsReopenFault}
use Rattle.wal_log.specs.declared.opening.OpenFaultKind.{OpenFaultKind}
use Rattle.wal_log.specs.declared.opening.OpenFaultKind.TheVariants as kinds
use Rattle.run_script.specs.Asked.{AskedLine}
use Rattle.cli_line.specs.declared.commands.ScriptRunOptions.{ScriptRunOptions}
use Rattle.reopened_log_laws.specs.WasLeft.{WasLeft}
use Rattle.reopened_log_laws.proofs.StoppedCrashes.{stopped_settlings_survive_crashes}
use Rattle.backend_cli.specs.Appending.{AppendHolds, CrashSinceHanded, PrintsNothing, StopsSettling}
use Rattle.backend_cli.specs.Outcome.{outcome_unopened}
use Rattle.backend_cli.specs.Outside.{IsUntouched, Outside, SourceView, outside_of}
use Rattle.backend_cli.specs.Prepared.{IsUnprepared}
use Rattle.backend_cli.specs.Reading.{ScriptMeans}
use Rattle.backend_cli.specs.Setups.{run_setup, system_id}
use Rattle.backend_cli.specs.declared.outcome.Outcome.{Outcome}
use Rattle.backend_cli.specs.declared.outcome.Outcome.TheVariants.{Diverged, TooManyFrames, Done, OutOfMemory, Usage, SourceFault, ScriptRefused, NotEmpty, BeyondCap, DiskFault, Stopped, LogFull, SinkFault}

-- a segment behind the last one allowed is there
beyond_there : (size cap segment : ℕ) (tape : Option Tape)
    → IfSome tape (RefusesLog size cap (finding.Beyond segment))
    → IfSome tape (λ t. IsSome (page_of_segment (state_now t (cap + 1)) 0))
beyond_there size cap segment None refuses = refuses
beyond_there size cap segment (Some t) refuses =
    subst (λ (n : ℕ). IsSome (page_of_segment (state_now t n) 0)) refuses.0 refuses.1

-- ---- a settling that the disk failed, on a disk that tells

module _ (size sysid cap handed last : ℕ) (t now : Tape) (found : List FoundRecord)
    (left : WasLeft size sysid t found) (moment : ℕ) (image : DiskImage)
    (told : List FoundRecord) where
  -- what an image decodes to, where so many of the calls were made
  abbrev Survives : (made : ℕ) → Type 0
  Survives made = ((behind : List FoundRecord) × (found ≡ told ++ behind))
      × ((segments : ℕ) → AreAllThere size (state_now t) segments → segments ≤ made
      → handed + segments ≤ moment → told ≡ found)

  abbrev SurviveAll : (before after : Option Tape) → Type 0
  SurviveAll before after = (begun : HasBegunToSettle size cap before after handed last)
      → Survives (length (begun.stopped.calls).front)

  survives_told : (before after : Option Tape) → before ≡ Some t → after ≡ Some now
      → handed ≡ length t.calls → handed ≤ moment → LeftAt now moment image
      → NoTornPass size (pages_in size image) left.order → (answer : Answer)
      → Decodes size (pages_in size image) size None told answer → SurviveAll before after
  survives_told before after told_before tells counted since leaves none_torn answer decodes =
      subst (λ (o : Option Tape). SurviveAll o after) (sym told_before)
      (subst (λ (o : Option Tape). SurviveAll (Some t) o) (sym tells)
      (λ begun. stopped_settlings_survive_crashes size sysid cap handed last t now found left
      counted begun moment image since leaves none_torn told answer decodes))

module _ {D : Type 0} (tape : D → Option Tape) (moment faults : D → ℕ)
    (options : ScriptRunOptions) (passes : ℕ) (can_be : IsSetup (run_setup options.run passes))
    (disk now : D) (counts : IfSome (tape disk) (λ t. moment disk ≡ length t.calls))
    {O : Type 0} (sunk : O → Option (List ℕ)) (sink_faults : O → ℕ) (out : O)
    (before after : SourceView) (script : List (List AskedLine))
    (means : ScriptMeans options.writer before after (Ok script)) where
  -- the outside of a run that played nothing
  abbrev unplayed : Outside
  unplayed = outside_of before after tape moment faults disk now sunk sink_faults out out

  untouched : IsUncalled tape moment disk now → IsUntouched unplayed
  untouched uncalled = record {
    tape_same = uncalled.same_tape;
    moment_same = uncalled.same_moment;
    nothing_printed = refl;
    sink_faults_same = refl;
  }

  prints_nothing : PrintsNothing unplayed
  prints_nothing = record { nothing_printed = refl; sink_faults_same = refl }

  abbrev size : ℕ
  size = options.run.geometry

  -- what the reader finds behind a crash since the disk was handed in
  survives : (m : ℕ) (records : List FoundRecord)
      → (c : CrashSinceHanded size (moment disk) [] (tape disk) (tape now) m records)
      → SurviveAll size system_id options.run.cap_segments (moment disk) (moment now) c.old c.tape
      c.found_before c.was_left m c.image records (tape disk) (tape now)
  survives m records c =
      let valid : IsSegmentSize size = can_be.size in
      let decodes = (finding_is_decoding size c.image size valid records).0 c.finds in
      survives_told size system_id options.run.cap_segments (moment disk) (moment now) c.old c.tape
      c.found_before c.was_left m c.image records (tape disk) (tape now) c.told_before c.disk_tells
      (subst (λ (o : Option Tape). IfSome o (λ t. moment disk ≡ length t.calls)) c.told_before
      counts) c.since_handed c.left c.no_torn_pass_before decodes.0 decodes.1

  stops_settling : HasBegunToSettle size options.run.cap_segments (tape disk) (tape now)
      (moment disk) (moment now) → StopsSettling size options.run.cap_segments unplayed
  stops_settling begun = record {
    begun = begun;
    crash = λ m records c. (survives m records c begun).0;
    keeps_found = λ m records c. (survives m records c begun).1;
  }

  pub unappended_holds : (kind : OpenFaultKind)
      → TellsReopenFault tape moment faults (run_setup options.run passes) disk now kind
      → AppendHolds unplayed options (outcome_unopened kind) []
  unappended_holds kinds.BadSetup tells = absurd (tells.0 can_be)
  unappended_holds kinds.Memory (is_setup, uncalled, same) =
      ((means.1).faults_same, same, untouched uncalled)
  unappended_holds (kinds.Disk told) (is_setup, told_is, rose, inl uncalled) =
      ((script, means), rose, inl (untouched uncalled))
  unappended_holds (kinds.Disk told) (is_setup, told_is, rose, inr begun) =
      ((script, means), rose, inr (prints_nothing, stops_settling begun))
  unappended_holds kinds.NotEmpty tells = absurd tells
  unappended_holds (kinds.Beyond segment) (is_setup, uncalled, same, refuses) = (
    (script, means),
    beyond_there options.run.geometry options.run.cap_segments segment (tape disk) refuses,
    same,
    untouched uncalled,
  )
  unappended_holds (kinds.Foreign stop) (is_setup, uncalled, same, refuses) =
      ((script, means), refuses, same, untouched uncalled)

-- a run for which nothing was made ready touched nothing but its source
pub unprepared_holds : (options : ScriptRunOptions) (outside : Outside) (outcome : Outcome)
    → IsUnprepared options.writer outside.source_before outside.source_after outcome
    → outside.disk_after ≡ outside.disk_before → IsUntouched outside
    → AppendHolds outside options outcome []
unprepared_holds options outside OutOfMemory why same untouched = (why, same, untouched)
unprepared_holds options outside SourceFault why same untouched = (why, same, untouched)
unprepared_holds options outside (ScriptRefused refusal) why same untouched =
    (why, same, untouched)
unprepared_holds options outside Done why same untouched = absurd why
unprepared_holds options outside Usage why same untouched = absurd why
unprepared_holds options outside NotEmpty why same untouched = absurd why
unprepared_holds options outside BeyondCap why same untouched = absurd why
unprepared_holds options outside DiskFault why same untouched = absurd why
unprepared_holds options outside (Stopped stop) why same untouched = absurd why
unprepared_holds options outside (Diverged at) why same untouched = absurd why
unprepared_holds options outside TooManyFrames why same untouched = absurd why
unprepared_holds options outside LogFull why same untouched = absurd why
unprepared_holds options outside SinkFault why same untouched = absurd why
