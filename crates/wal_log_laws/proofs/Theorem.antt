-- Over all lives of a log what was promised to be durable is kept.
use Rattle.std.proofs.Common.{◌≡◌, ℕ, All, List, [], ◌++◌, length, Option, IfSome, sym, ap, subst, ◌∙◌, arith}
use Rattle.std.specs.Prelude.{IsSome}
use Rattle.std.proofs.lemmas.List.Elements.{All-nil}
use Rattle.segment_disk.specs.Tape.{Tape, state_now}
use Rattle.byte_position.specs.Position.{first_position}
use Rattle.wal_page.specs.Order.{Entry}
use Rattle.wal_reader.specs.declared.found.FoundRecord.{FoundRecord}
use Rattle.wal_reader.specs.declared.found.Stopped.{Stopped}
use Rattle.written_log_laws.specs.Written.{found_of}
use Rattle.written_log_laws.proofs.LawfulLaws.{length-found_from}
use Rattle.found_log.specs.Found.{RefusesLog}
use Rattle.found_log.specs.declared.fault.FindFault.TheVariants as finding
use Rattle.machine_state.specs.declared.setup.Setup.{Setup}
use Rattle.machine_laws.specs.WholeOrders.{IsWholeOrder, LiesBehind}
use Rattle.machine_laws.proofs.WholeOrders.{whole_order}
use Rattle.wal_rule.specs.declared.pass.Pass.{Pass}
use Rattle.wal_log.specs.declared.closing.Closed.{Closed}
use Rattle.wal_log.specs.declared.opening.OpenFaultKind.TheVariants.{Foreign}
use Rattle.wal_log.specs.declared.reopening.Found.{Found}
use Rattle.wal_log.specs.declared.wal.Wal.{Wal}
use Rattle.wal_log.specs.Closing.{ClosesLog}
use Rattle.wal_log.specs.Logs.{opening_of_log}
use Rattle.wal_log.specs.Reopening.{IsReopened, TellsReopenFault}
use Rattle.reopened_log_laws.specs.FoundFirst.{AreFoundEntries}
use Rattle.reopened_log_laws.specs.Lives.{IsFrontWith}
use Rattle.reopened_log_laws.specs.WasLeft.{WasLeft, WasLeftOf}
use Rattle.reopened_log_laws.proofs.EmptyDisks.{empty_disks_were_left}
use Rattle.reopened_log_laws.proofs.KeptFronts.{sure_crash, sure_reads}
use Rattle.reopened_log_laws.proofs.KeptLives.{KeepsSure, with_left}
use Rattle.reopened_log_laws.proofs.KeptRecords.{IsSureRecord}
use Rattle.reopened_log_laws.proofs.OwnAnswers.{left_logs_are_not_foreign}
use Rattle.wal_log_laws.specs.History.{WalHistory, IsHandedIn, opens, reopens, ends_reopening, fails_to_reopen, handed_anew, starts_empty, order_of, rests}
use Rattle.wal_log_laws.specs.Lives.{KeepsPromised, PromisedRecordsStay, ThreeLivesKeepPromised}
use Rattle.wal_log_laws.proofs.LoneOrders.{starts_rise}
use Rattle.wal_log_laws.proofs.Lives.{at_some, begins_keeps, continues_keeps, ends_reopening_keeps, fails_to_reopen_keeps, lies_as_asked, place_as_asked, rests_keeps}

-- what holds of a disk goes by how it stands, and not by which calls brought it there
left_anew : (size sysid : ℕ) (order : List Entry) (t : Tape) (found : List FoundRecord)
    → WasLeftOf size sysid order t found
    → WasLeftOf size sysid order (record { at_first = state_now t; calls = [] }) found
left_anew size sysid order t found (left, order_is) = (
  record {
    order = left.order;
    count = left.count;
    has_found = left.has_found;
    only = left.only;
    never_whole = left.never_whole;
    whole = left.whole;
    low = left.low;
  },
  order_is,
)

module _ {D : Type 0} (tape : D → Option Tape) (moment faults : D → ℕ)
    (counts : (disk : D) → IfSome (tape disk) (λ t. moment disk ≡ length t.calls)) where
  -- ---- from life to life

  keeps : {size sysid : ℕ} {t : Tape} {order : List Entry} {hard : List FoundRecord}
      → WalHistory tape moment faults size sysid t order hard → KeepsSure size sysid t order hard
  keeps {size} {sysid} {t} (starts_empty sized known narrow nothing) = record {
    found = [];
    left = empty_disks_were_left size sysid t sized known narrow nothing;
    kept = All-nil (IsSureRecord size sysid [] (state_now t));
  }
  keeps {size} {sysid} (opens {t} {next} {before} {order} {hard} {more} history life) =
      let k = keeps history in
      begins_keeps tape moment faults counts size sysid t next order more life
      k.left.0.has_found.may.narrow before hard k
  keeps {size} {sysid} (reopens {t} {next} {before} {order} {hard} {more} history life) =
      continues_keeps tape moment faults counts size sysid t next before order hard more life
      (keeps history)
  keeps {size} {sysid} (ends_reopening {t} {next} {order} {hard} history life) =
      ends_reopening_keeps tape moment faults counts size sysid t next order hard life
      (keeps history)
  keeps {size} {sysid} (fails_to_reopen {t} {next} {order} {hard} history life) =
      fails_to_reopen_keeps tape moment faults counts size sysid t next order hard life
      (keeps history)
  keeps {size} {sysid} (rests {t} {next} {order} {hard} history ends) =
      rests_keeps tape moment faults counts size sysid t next order hard ends (keeps history)
  keeps {size} {sysid} (handed_anew {t} {order} {hard} history) =
      let k = keeps history in
      record {
        found = k.found;
        left = left_anew size sysid order t k.found k.left;
        kept = k.kept;
      }

  -- ---- how it is gone on with

  module _ (size sysid : ℕ) (t : Tape) (found : List FoundRecord)
      (left : WasLeft size sysid t found) (hard : List FoundRecord)
      (kept : All (IsSureRecord size sysid left.order (state_now t)) hard) where
    refused_at : (setup : Setup) (disk new : D) (stop : Stopped)
        → IsHandedIn tape moment faults size sysid t setup disk
        → TellsReopenFault tape moment faults setup disk new (Foreign stop) → ⊥
    refused_at setup disk new stop handed tells =
        let refuses = at_some (RefusesLog setup.seg_size setup.cap_segments
        (finding.Foreign stop)) (tape disk) t handed.before tells.3 in
        left_logs_are_not_foreign size sysid setup.cap_segments t found stop left
        (subst (λ (n : ℕ). RefusesLog n setup.cap_segments (finding.Foreign stop) t)
        handed.sized refuses)

    finds_at : (setup : Setup) (disk : D) (wal : Wal D) (first : Pass) (told : Found)
        → IsHandedIn tape moment faults size sysid t setup disk
        → IsReopened tape moment faults setup disk wal first told
        → (front : List Entry) × AreFoundEntries size t front
        × LiesBehind (opening_of_log wal) front × (told.count ≡ length front)
        × IsFrontWith size left.order hard (found_of size front)
    finds_at setup disk wal first told handed r =
        let place = place_as_asked tape moment faults counts size sysid t setup disk wal first told
        handed r found left in
        let front = place.0 in (
          front,
          place.1,
          place.2,
          r.count_is ∙ ap (λ (l : List FoundRecord). length l) (place.4 ∙ sym place.3)
              ∙ length-found_from size 0 front,
          sure_reads size sysid t found left hard kept (found_of size front) place.1.finds,
        )

    goes_on_at : (setup : Setup) (disk : D) (wal : Wal D) (first pass : Pass) (told : Found)
        (closed : Closed D) (front : List Entry)
        → IsHandedIn tape moment faults size sysid t setup disk
        → IsReopened tape moment faults setup disk wal first told
        → AreFoundEntries size t front → (c : ClosesLog tape moment faults wal pass closed)
        → IsWholeOrder (opening_of_log wal) (order_of tape moment faults wal pass closed c)
        (front ++ order_of tape moment faults wal pass closed c)
        × All (λ e. IsSome e.pass) (order_of tape moment faults wal pass closed c)
    goes_on_at setup disk wal first pass told closed front handed r below c =
        let sound = (c.closes).sound in
        let lies = lies_as_asked tape moment faults counts size sysid t setup disk wal first told
        handed r found left front below in (
          whole_order (opening_of_log wal) sound.setup_is.size front lies sound.order
              sound.reserved.chained,
          sound.reserved.owned,
        )

    keeps_hard : KeepsPromised tape moment faults size sysid t left.order hard
    keeps_hard = record {
      apart = starts_rise size 0 (first_position size) 0 left.order left.has_found.may.valid
          left.has_found.may.chained (omega arith);
      reads = sure_reads size sysid t found left hard kept;
      crash = sure_crash size sysid t found left hard kept;
      not_foreign = refused_at;
      finds = finds_at;
      goes_on = goes_on_at;
    }

  pub promised_records_stay : PromisedRecordsStay tape moment faults
  promised_records_stay size sysid t order hard history =
      with_left size sysid t order hard
      (λ (o : List Entry). KeepsPromised tape moment faults size sysid t o hard) (keeps history)
      (λ found left kept. keeps_hard size sysid t found left hard kept)

  pub three_lives_keep_promised : ThreeLivesKeepPromised tape moment faults
  three_lives_keep_promised size sysid a b c d first second third one two three records sized known
      narrow nothing begun more last finds =
      (promised_records_stay size sysid d third ((one ++ two) ++ three)
      (reopens (reopens (opens (starts_empty sized known narrow nothing) begun) more)
      last)).reads records finds
