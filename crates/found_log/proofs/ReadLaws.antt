-- What the steps of a reader say of a log, as they are judged.
use Rattle.std.proofs.Common.{◌≡◌, ℕ, Bool, true, false, List, Option, Some, None, Result, Ok, Err, inl, refl, sym, ap, subst, ◌∙◌}
use Rattle.std.specs.Prelude.{if◌then◌else◌}
use Rattle.segment_disk.specs.Tape.{Tape}
use Rattle.wal_reader.specs.SoFar.{LogDecodes, SaysOfLog}
use Rattle.wal_reader.specs.Standings.{found_as, given_as}
use Rattle.wal_reader.specs.declared.found.Answer.TheVariants as answers
use Rattle.wal_reader.specs.declared.found.FoundRecord.{FoundRecord}
use Rattle.wal_reader.specs.declared.found.Stopped.{Stopped as LogStop}
use Rattle.wal_reader.specs.declared.standing.ReadErr.{ReadErr}
use Rattle.wal_reader.specs.declared.standing.ReadErr.TheVariants.{Memory, Disk, Stopped}
use Rattle.wal_reader.specs.declared.standing.Step.{Step}
use Rattle.wal_reader.specs.declared.standing.Step.TheVariants as steps
use Rattle.found_log.specs.declared.fault.FindFault.{FindFault}
use Rattle.found_log.specs.declared.fault.FindFault.TheVariants as faults
use Rattle.found_log.specs.Foreign.{is_foreign_stop}
use Rattle.found_log.specs.Found.{EndsWell, judged}
use Rattle.found_log.specs.Reading.{IsUnread}

-- ---- what a step says

abbrev pub judged_as : FoundRecord → Result (Option FoundRecord) FindFault
judged_as r = Ok (Some r)

abbrev pub ended_as : Result (Option (FoundRecord)) FindFault
ended_as = Ok None

abbrev pub refused_as : FindFault → Result (Option (FoundRecord)) FindFault
refused_as fault = Err fault

abbrev pub step_to : FoundRecord → Result Step ReadErr
step_to found = Ok (given_as found)

abbrev ok_of : Option FoundRecord → Result (Option FoundRecord) FindFault
ok_of read = Ok read

pub said_as : (step : Result Step ReadErr) (said : Result (Option FoundRecord) FindFault) (read : Option FoundRecord) (f : FoundRecord) → said ≡ judged step → said ≡ ok_of read → read ≡ Some f → judged step ≡ judged_as f
said_as step said read f is ok some = sym is ∙ ok ∙ ap ok_of some

same_said : (r s : FoundRecord) → judged_as r ≡ judged_as s → r ≡ s
same_said r s is = cc

same_fault : (fault other : FindFault) → refused_as fault ≡ refused_as other → fault ≡ other
same_fault fault other is = cc

ended_is_not : (r : FoundRecord) → ended_as ≡ judged_as r → ⊥
ended_is_not r is = cc

refused_is_not : (fault : FindFault) (r : Option (FoundRecord)) → refused_as fault ≡ Ok r → ⊥
refused_is_not fault r is = cc

-- what a stop is told as
abbrev stop_as : LogStop → Bool → Result (Option (FoundRecord)) FindFault
stop_as stop is = if is then Err (faults.Foreign stop) else Ok None

stop_is_not : (stop : LogStop) (is : Bool) (r : FoundRecord) → stop_as stop is ≡ judged_as r → ⊥
stop_is_not stop true r said = refused_is_not (faults.Foreign stop) (Some r) said
stop_is_not stop false r said = ended_is_not r said

pub gives_record : (step : Result Step ReadErr) (found : FoundRecord) → judged step ≡ judged_as found → step ≡ Ok (given_as found)
gives_record (Ok (steps.Record s e prev total value)) found said = ap (λ (f : FoundRecord). step_to f) (same_said (found_as s e prev total value) found said)
gives_record (Ok (steps.End at)) found said = absurd (ended_is_not found said)
gives_record (Err Memory) found said = absurd (refused_is_not faults.Memory (Some found) said)
gives_record (Err (Disk count)) found said = absurd (refused_is_not (faults.Disk count) (Some found) said)
gives_record (Err (Stopped stop)) found said = absurd (stop_is_not stop (is_foreign_stop stop) found said)

own_stop : (stop : LogStop) (is : Bool) → is_foreign_stop stop ≡ is → stop_as stop is ≡ ended_as → is_foreign_stop stop ≡ false
own_stop stop true is said = absurd (refused_is_not (faults.Foreign stop) None said)
own_stop stop false is said = is

-- ---- what it says of the log

-- the log ends, and a crash may have left it so
pub ends_well : (size : ℕ) (records : List FoundRecord) (step : Result Step ReadErr)
    → judged step ≡ ended_as → (t : Tape) → SaysOfLog size size None records step t
    → EndsWell size records t
ends_well size records (Ok (steps.Record s e prev total value)) said t says =
    absurd (ended_is_not (found_as s e prev total value) (sym said))
ends_well size records (Ok (steps.End at)) said t says =
    record { answer = answers.End at; decodes = says; is_own = refl }
ends_well size records (Err Memory) said t says =
    absurd (refused_is_not faults.Memory None said)
ends_well size records (Err (Disk count)) said t says =
    absurd (refused_is_not (faults.Disk count) None said)
ends_well size records (Err (Stopped stop)) said t says = record {
  answer = answers.Stopped stop;
  decodes = says;
  is_own = own_stop stop (is_foreign_stop stop) refl said;
}

stops_foreign : (size made : ℕ) (records : List FoundRecord) (stop : LogStop) (is : Bool)
    (fault : FindFault) → is_foreign_stop stop ≡ is → stop_as stop is ≡ refused_as fault → (t : Tape)
    → LogDecodes size size None records (answers.Stopped stop) t → IsUnread size made fault t
stops_foreign size made records stop true fault is said t decodes =
    subst (λ (fault : FindFault). IsUnread size made fault t)
    (same_fault (faults.Foreign stop) fault said)
    (inl (record { records = records; decodes = decodes; foreign = is }))
stops_foreign size made records stop false fault is said t decodes =
    absurd (refused_is_not fault None (sym said))

-- it is not gone on with
pub says_unread : (size made : ℕ) (records : List FoundRecord) (step : Result Step ReadErr)
    (fault : FindFault) → judged step ≡ refused_as fault → (t : Tape)
    → SaysOfLog size size None records step t → IsUnread size made fault t
says_unread size made records (Ok (steps.Record s e prev total value)) fault said t says =
    absurd (refused_is_not fault (Some (found_as s e prev total value)) (sym said))
says_unread size made records (Ok (steps.End at)) fault said t says =
    absurd (refused_is_not fault None (sym said))
says_unread size made records (Err Memory) fault said t says =
    subst (λ (fault : FindFault). IsUnread size made fault t) (same_fault faults.Memory fault said)
    tt
says_unread size made records (Err (Disk count)) fault said t says =
    subst (λ (fault : FindFault). IsUnread size made fault t)
    (same_fault (faults.Disk count) fault said) tt
says_unread size made records (Err (Stopped stop)) fault said t says =
    stops_foreign size made records stop (is_foreign_stop stop) fault refl said t says
