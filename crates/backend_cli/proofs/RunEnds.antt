-- How a run ends: what it printed, and its outcome, by what its parts say.
use Rattle.std.proofs.Common.{◌≡◌, ℕ, Bool, true, false, List, ◌++◌, Option, Some, None, Ok, Err, Result, refl, sym, subst, inl, inr, arith}
use Rattle.std.specs.Prelude.{is_ok, not}
use mathlib.Core.Option.{Option as Maybe, none, some}
use Rattle.segment_disk.specs.Cause.{Rose, RoseByOne}
use Rattle.flush_core.specs.Calls.{maybe}
use Rattle.waldump_text.specs.Put.{Puts}
use Rattle.waldump_text.specs.declared.putting.SinkFault.{SinkFault}
use Rattle.run_laws.specs.Told.{IsFullAnswer, IsRefused, SomeTold}
use Rattle.run_laws.specs.declared.told.Told.{Told}
use Rattle.segment_disk.specs.Tape.{Tape}
use Rattle.wal_log.specs.declared.wal.Wal.{Wal}
use Rattle.run_script.specs.Asked.{AskedLine}
use Rattle.run_backends.specs.Backends.{lists_of}
use Rattle.run_backends.specs.declared.backend.AnsweredLines.{AnsweredLines}
use Rattle.cli_line.specs.declared.commands.RunOptions.{RunOptions}
use Rattle.backend_cli.specs.Concluding.{Concludes, HasPlayedOut, IsConcluded}
use Rattle.backend_cli.specs.Outside.{Outside, Took}
use Rattle.backend_cli.specs.Printing.{Summarizes, printed_text}
use Rattle.backend_cli.specs.Run.{EndsOpened}
use Rattle.backend_cli.specs.declared.printing.Summary.{Summary}
use Rattle.backend_cli.specs.declared.outcome.Outcome.{Outcome}
use Rattle.backend_cli.specs.declared.outcome.Outcome.TheVariants.{OutOfMemory}

-- ---- what was put

-- a count that rose by one, or stands at its last value, rose
rose : (old new : ℕ) → RoseByOne old new → Rose old new
rose old new (inl more) = inl (omega (arith, more))
rose old new (inr last) = inr last.1

module _ (old new : Option (List ℕ)) (before after : ℕ) (text : List ℕ) where
  -- what was put was taken
  pub took : (result : Result (Unit {0}) SinkFault) → Puts old new before after text result
      → Took old new before after text
  took (Ok done) puts = inl puts.0
  took (Err fault) puts = inr (rose before after puts.1, puts.0)

  pub quiet_where_printed : (result : Result (Unit {0}) SinkFault)
      → Puts old new before after text result → not (is_ok result) ≡ false → after ≡ before
  quiet_where_printed (Ok done) puts is = puts.1
  quiet_where_printed (Err fault) puts is = cc

  pub risen_where_not_printed : (result : Result (Unit {0}) SinkFault)
      → Puts old new before after text result → not (is_ok result) ≡ true → Rose before after
  risen_where_not_printed (Ok done) puts is = cc
  risen_where_not_printed (Err fault) puts is = rose before after puts.1

-- ---- the outcome

-- where the writer met no fault the disk's count of faults is as it was, and a line is refused only
-- where some line found the log full; where it met one the count rose
pub record CountsFaults (before after : ℕ) (lists : List (List Told)) (fault : Maybe ℕ)
    : Type 0 where
  pub up : fault ≡ none
      → (after ≡ before) × (SomeTold IsRefused lists → SomeTold IsFullAnswer lists)
  pub down : (count : ℕ) → fault ≡ some count → Rose before after

pub ends_opened : (outside : Outside) (lists : List (List Told)) (down : Option ℕ) (failed : Bool)
    (outcome : Outcome) → Concludes down lists failed outcome
    → CountsFaults outside.disk_before outside.disk_after lists (maybe down)
    → (failed ≡ false → outside.sink_after ≡ outside.sink_before)
    → (failed ≡ true → Rose outside.sink_before outside.sink_after)
    → EndsOpened outside lists outcome
ends_opened outside lists (Some count) failed outcome concludes counts printed unprinted =
    subst (EndsOpened outside lists) (sym concludes) (counts.down count refl)
ends_opened outside lists None failed outcome (inl found) counts printed unprinted =
    subst (EndsOpened outside lists) (sym found.1) ((counts.up refl).0, found.0)
ends_opened outside lists None true outcome (inr room) counts printed unprinted =
    subst (EndsOpened outside lists) (sym room.1)
    ((counts.up refl).0, room.0, unprinted refl)
ends_opened outside lists None false outcome (inr room) counts printed unprinted =
    subst (EndsOpened outside lists) (sym room.1)
    ((counts.up refl).0, (λ refused. room.0 ((counts.up refl).1 refused)), printed refl)

-- a run that opened the log does not end for want of memory
pub no_memory : (lists : List (List Told)) (down : Option ℕ) (failed : Bool) (outcome : Outcome)
    → Concludes down lists failed outcome → outcome ≡ OutOfMemory → ⊥
no_memory lists (Some count) failed outcome concludes is = cc
no_memory lists None failed outcome (inl found) is = let e = found.1 in cc
no_memory lists None true outcome (inr room) is = let e = room.1 in cc
no_memory lists None false outcome (inr room) is = let e = room.1 in cc

-- how a run concludes, where its parts were handed these backends
pub concluded_of : (size place used : ℕ) (list : Bool) (text : List ℕ)
    (items summed put judged : List AnsweredLines) (down : Option ℕ)
    (taken taken_now : Option (List ℕ)) (faults faults_now : ℕ) (outcome : Outcome)
    (summary : Summary) (printed : Result (Unit {0}) SinkFault) (ok : Bool) → summed ≡ items
    → put ≡ items → judged ≡ items → ok ≡ is_ok printed
    → Summarizes size place used (lists_of summed) summary
    → Puts taken taken_now faults faults_now (text ++ printed_text list put summary) printed
    → Concludes down (lists_of judged) (not ok) outcome
    → IsConcluded size place used list text items down taken taken_now faults faults_now outcome
concluded_of size place used list text items summed put judged down taken taken_now faults
    faults_now outcome summary printed ok are_summed are_put are_judged is summarizes puts
    concludes = record {
      summary = summary;
      summarizes = subst (λ (l : List AnsweredLines). Summarizes size place used (lists_of l)
          summary) are_summed summarizes;
      printed = printed;
      puts = subst (λ (l : List AnsweredLines). Puts taken taken_now faults faults_now
          (text ++ printed_text list l summary) printed) are_put puts;
      concludes = subst (λ (b : Bool). Concludes down (lists_of items) (not b) outcome) is
          (subst (λ (l : List AnsweredLines). Concludes down (lists_of l) (not ok) outcome)
          are_judged concludes);
    }

-- so does none that played its lines out
pub ended_for_want : {D : Type 0} {tape : D → Option Tape} {moment faults : D → ℕ} {log : Wal D}
    {options : RunOptions} {script : List (List AskedLine)} {begun : Result (Unit {0}) SinkFault}
    {taken_between taken_after : Option (List ℕ)} {sink_between sink_after : ℕ} {outcome : Outcome}
    {disk : D} {lists : List (List Told)} (text : List ℕ) (taken : Option (List ℕ)) (sink : ℕ)
    → Puts taken taken_between sink sink_between text begun
    → HasPlayedOut tape moment faults log options script begun taken_between taken_after
    sink_between sink_after outcome disk lists → outcome ≡ OutOfMemory → ⊥
ended_for_want text taken sink puts out is =
    no_memory _ _ _ _ (out.concluded taken sink text puts).concludes is
