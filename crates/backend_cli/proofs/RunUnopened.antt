-- What a run has to show whose log was not opened.
use Rattle.std.proofs.Common.{◌≡◌, ℕ, List, [], ◌∷◌, Option, Ok, refl, ap}
use Rattle.segment_disk.specs.Tape.{IsUncalled, Tape}
use Rattle.machine_state.specs.Sound.{IsSetup}
use Rattle.machine_state.specs.declared.setup.Setup.{Setup}
use Rattle.wal_log.specs.Opening.{TellsOpenFault}
use Rattle.wal_log.specs.declared.opening.OpenFaultKind.{OpenFaultKind}
use Rattle.wal_log.specs.declared.opening.OpenFaultKind.TheVariants as kinds
use Rattle.run_script.specs.Asked.{AskedLine}
use Rattle.cli_line.specs.declared.commands.RunOptions.{RunOptions}
use Rattle.cli_line.specs.declared.commands.ScriptRunOptions.{ScriptRunOptions}
use Rattle.backend_cli.specs.Outcome.{outcome_unopened}
use Rattle.backend_cli.specs.Outside.{IsUntouched, Outside, SourceView, outside_of}
use Rattle.backend_cli.specs.Reading.{ScriptMeans}
use Rattle.backend_cli.specs.Run.{PlayHolds, RunHolds}
use Rattle.run_laws.specs.declared.told.Told.{Told}
use Rattle.backend_cli.specs.declared.outcome.Outcome.{Outcome}
use Rattle.backend_cli.specs.declared.outcome.Outcome.TheVariants.{Diverged, TooManyFrames, Done, OutOfMemory, Usage, SourceFault, ScriptRefused, NotEmpty, BeyondCap, DiskFault, Stopped, LogFull, SinkFault}

module _ {D : Type 0} (tape : D → Option Tape) (moment faults : D → ℕ) (setup : Setup)
    (can_be : IsSetup setup) (disk now : D) where
  -- a run that ends for want of memory hands the very disk back
  pub same_without_memory : (kind : OpenFaultKind)
      → TellsOpenFault tape moment faults setup disk now kind
      → outcome_unopened kind ≡ OutOfMemory → now ≡ disk
  same_without_memory kinds.BadSetup tells is = tells.1
  same_without_memory kinds.Memory tells is = tells.1
  same_without_memory (kinds.Disk told) tells is = cc
  same_without_memory kinds.NotEmpty tells is = cc
  same_without_memory (kinds.Beyond segment) tells is = absurd tells
  same_without_memory (kinds.Foreign stop) tells is = absurd tells

  module _ {O : Type 0} (sunk : O → Option (List ℕ)) (sink_faults : O → ℕ) (out : O)
      (before after : SourceView) (script : List (List AskedLine)) (options : RunOptions) where
    -- the outside of a run that played nothing
    abbrev unplayed : Outside
    unplayed = outside_of before after tape moment faults disk now sunk sink_faults out out

    untouched : IsUncalled tape moment disk now → IsUntouched unplayed
    untouched uncalled = record {
      tape_same = uncalled.same_tape;
      moment_same = uncalled.same_moment;
      nothing_printed = refl;
      sink_faults_same = refl;
    }

    pub unopened_holds : (kind : OpenFaultKind)
        → TellsOpenFault tape moment faults setup disk now kind
        → PlayHolds unplayed options (outcome_unopened kind) script []
    unopened_holds kinds.BadSetup tells = absurd (tells.0 can_be)
    unopened_holds kinds.Memory tells =
        let same = tells.1 in (
          ap faults same,
          record {
            tape_same = ap tape same;
            moment_same = ap moment same;
            nothing_printed = refl;
            sink_faults_same = refl;
          },
        )
    unopened_holds (kinds.Disk told) tells = (tells.2, untouched tells.1)
    unopened_holds kinds.NotEmpty tells = ((tells.3, tells.2), untouched tells.1)
    unopened_holds (kinds.Beyond segment) tells = absurd tells
    unopened_holds (kinds.Foreign stop) tells = absurd tells

-- the run of a script that the source handed out
pub run_of_play : (outside : Outside) (options : ScriptRunOptions) (outcome : Outcome)
    (script : List (List AskedLine)) (lists : List (List Told))
    → ScriptMeans options.writer outside.source_before outside.source_after (Ok script)
    → PlayHolds outside options.run outcome script lists
    → RunHolds outside options outcome lists
run_of_play outside options outcome script (told ∷ others) means holds =
    (script, means, holds)
run_of_play outside options Done script [] means holds = absurd holds.0
run_of_play outside options OutOfMemory script [] means holds =
    (((means.1).faults_same, holds.0), holds.1)
run_of_play outside options Usage script [] means holds = absurd holds.0
run_of_play outside options SourceFault script [] means holds = absurd holds.0
run_of_play outside options (ScriptRefused refusal) script [] means holds =
    absurd holds.0
run_of_play outside options NotEmpty script [] means holds =
    (((script, means), (holds.0).0, (holds.0).1), holds.1)
run_of_play outside options DiskFault script [] means holds =
    (((script, means), holds.0), holds.1)
run_of_play outside options BeyondCap script [] means holds = absurd holds.0
run_of_play outside options (Diverged at) script [] means holds = absurd holds.0
run_of_play outside options TooManyFrames script [] means holds = absurd holds.0
run_of_play outside options (Stopped stop) script [] means holds = absurd holds.0
run_of_play outside options LogFull script [] means holds = absurd holds.0
run_of_play outside options SinkFault script [] means holds = absurd holds.0
