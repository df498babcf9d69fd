-- Over all lives of a log what was told durable is kept.
use Rattle.std.proofs.Common.{◌≡◌, ℕ, All, List, [], ◌∷◌, ◌++◌, Option, Some, IfSome, subst, arith}
use Rattle.std.proofs.lemmas.List.Elements.{All-nil}
use Rattle.segment_disk.specs.Tape.{Tape, state_now}
use Rattle.wal_page.specs.Order.{Entry}
use Rattle.wal_reader.specs.declared.found.FoundRecord.{FoundRecord}
use Rattle.wal_reader.specs.declared.found.Stopped.{Stopped as LogStop}
use Rattle.wal_reader.specs.Cache.{log_of}
use Rattle.wal_reader.specs.Finds.{FindsRecords}
use Rattle.found_log.specs.Found.{RefusesLog}
use Rattle.found_log.specs.declared.fault.FindFault.TheVariants.{Foreign}
use Rattle.run_laws.specs.declared.told.Told.{Told}
use Rattle.reopened_log_laws.specs.Lives.{IsFrontWith}
use Rattle.reopened_log_laws.specs.WasLeft.{WasLeft}
use Rattle.reopened_log_laws.proofs.EmptyDisks.{empty_disks_were_left}
use Rattle.reopened_log_laws.proofs.FoundPlaces.{found_entries_are_there}
use Rattle.reopened_log_laws.proofs.KeptFronts.{sure_crash, sure_reads}
use Rattle.reopened_log_laws.proofs.KeptLives.{KeepsSure, with_left}
use Rattle.reopened_log_laws.proofs.KeptRecords.{IsSureRecord}
use Rattle.reopened_log_laws.proofs.OwnAnswers.{left_logs_are_not_foreign}
use Rattle.cli_line.specs.declared.commands.ScriptRunOptions.{ScriptRunOptions}
use Rattle.backend_cli.specs.declared.outcome.Outcome.{Outcome}
use Rattle.backend_cli.specs.declared.outcome.Outcome.TheVariants.{Stopped}
use Rattle.backend_cli.specs.Appending.{AppendHolds}
use Rattle.backend_cli.specs.Outside.{Outside}
use Rattle.backend_cli.specs.Setups.{system_id}
use Rattle.log_lives_laws.specs.History.{History, begins, ends_settling, fails_to_open, generates, continues, holds_nothing, rests}
use Rattle.log_lives_laws.specs.Lives.{KeepsAllHard, ThreeLivesKeepAll, ToldRecordsStay}
use Rattle.log_lives_laws.proofs.Calls.{begins_keeps, ends_settling_keeps, fails_to_open_keeps, generates_keeps, continues_keeps, rests_keeps}

-- ---- from life to life

keeps : {size : ℕ} {t : Tape} {order : List Entry} {hard : List FoundRecord}
    → History size t order hard → KeepsSure size system_id t order hard
keeps {size} {t} (holds_nothing sized nothing) = record {
  found = [];
  left = empty_disks_were_left size system_id t sized (omega arith) (omega arith) nothing;
  kept = All-nil (IsSureRecord size system_id [] (state_now t));
}
keeps {size} (begins {t} {next} {before} {order} {hard} {more} history life) =
    begins_keeps size t next order more life before hard (keeps history)
keeps {size} (generates {t} {next} {before} {order} {hard} {more} history life) =
    generates_keeps size t next order more life before hard (keeps history)
keeps {size} (continues {t} {next} {before} {order} {hard} {more} history life) =
    continues_keeps size t next before order hard more life (keeps history)
keeps {size} (ends_settling {t} {next} {order} {hard} history life) =
    ends_settling_keeps size t next order hard life (keeps history)
keeps {size} (fails_to_open {t} {next} {order} {hard} history life) =
    fails_to_open_keeps size t next order hard life (keeps history)
keeps {size} (rests {t} {next} {order} {hard} history ends) =
    rests_keeps size t next order hard ends (keeps history)

-- ---- what is read

module _ (size : ℕ) (t : Tape) (found : List FoundRecord)
    (left : WasLeft size system_id t found) (hard : List FoundRecord)
    (kept : All (IsSureRecord size system_id left.order (state_now t)) hard) where
  -- ---- how it is gone on with

  refused_at : (options : ScriptRunOptions) (outside : Outside) (stop : LogStop)
      → (options.run).geometry ≡ size → outside.tape_before ≡ Some t
      → AppendHolds outside options (Stopped stop) [] → ⊥
  refused_at options outside stop sized before holds =
      left_logs_are_not_foreign size system_id (options.run).cap_segments t found stop left
      (subst (λ (n : ℕ). RefusesLog n (options.run).cap_segments (Foreign stop) t) sized
      (subst (λ (o : Option Tape). IfSome o (RefusesLog (options.run).geometry
      (options.run).cap_segments (Foreign stop))) before holds.1))

  finds_at : (options : ScriptRunOptions) (outside : Outside) (outcome : Outcome) (told : List Told)
      (others : List (List Told)) → (options.run).geometry ≡ size
      → outside.tape_before ≡ Some t
      → (holds : AppendHolds outside options outcome (told ∷ others))
      → IsFrontWith size left.order hard (holds.2).headline.found
  finds_at options outside outcome told others sized before holds =
      sure_reads size system_id t found left hard kept (holds.2).headline.found
      (subst (λ (n : ℕ). FindsRecords n (log_of t n) n (holds.2).headline.found) sized
      (subst (λ (o : Option Tape). IfSome o (λ t. FindsRecords (options.run).geometry
      (log_of t (options.run).geometry) (options.run).geometry (holds.2).headline.found)) before
      (holds.2).headline.read))

  keeps_hard : KeepsAllHard size t left.order hard
  keeps_hard = record {
    reads = sure_reads size system_id t found left hard kept;
    crash = sure_crash size system_id t found left hard kept;
    entries = found_entries_are_there size system_id t found left;
    not_refused = λ options outside now stop called holds.
        refused_at options outside stop called.sized called.before holds;
    finds = λ options outside outcome now told others called holds.
        finds_at options outside outcome told others called.sized called.before holds;
    was_left = (found, left);
  }

pub told_records_stay : ToldRecordsStay
told_records_stay size t order hard history =
    with_left size system_id t order hard (λ (o : List Entry). KeepsAllHard size t o hard)
    (keeps history) (λ found left kept. keeps_hard size t found left hard kept)

pub three_lives_keep_all : ThreeLivesKeepAll
three_lives_keep_all size a b c d first second third one two three records sized nothing begun more
    last finds =
    (told_records_stay size d third ((one ++ two) ++ three)
    (continues (continues (begins (holds_nothing sized nothing) begun) more) last)).reads records finds
