-- What a crash leaves of a run is a disk that this program left.
use Rattle.std.proofs.Common.{◌≡◌, ◌<◌, ℕ, ◌≤◌, List, ◌++◌, length, take, Some, inl, inr, sym, ap, subst, ◌∙◌, arith}
use Rattle.std.proofs.lemmas.Bool.{cases_lt}
use Rattle.std.proofs.Math.Seq.{take-append_seam}
use mathlib.Core.Option.{some}
use Rattle.segment_disk.specs.declared.disk.Call.{Call}
use Rattle.segment_disk.specs.DiskImage.{image_as_read}
use Rattle.segment_disk.specs.Tape.{Tape, after_calls, state_at, state_now}
use Rattle.wal_page.specs.Order.{Entry}
use Rattle.flush_core.specs.Settled.{HaveWholePages}
use Rattle.flush_core.specs.SettledLog.{AreOnly}
use Rattle.machine_state.specs.Suited.{BeganSuited, IsSuited}
use Rattle.machine_state.specs.Words.{Opening}
use Rattle.machine_laws.specs.WholeOrders.{LiesBehind}
use Rattle.run_script.specs.Asked.{AskedLine}
use Rattle.run_laws.specs.declared.told.Told.{Told}
use Rattle.run_laws.specs.Told.{order_from}
use Rattle.run_laws.specs.Assured.{IsRunOn, TapeGoesOn, order_told}
use Rattle.run_laws.proofs.MachineRuns.{writer_tape}
use Rattle.reopened_log_laws.specs.Again.{CrashedReopenedRunsWereLeft, CrashedRunsWereLeft, IsOrderAt}
use Rattle.reopened_log_laws.proofs.CrashedSettlings.{crashed_reopened_settlings_were_left}
use Rattle.reopened_log_laws.proofs.SuitedDisks.{only_began, reopened_logs_are_suited}
use Rattle.reopened_log_laws.proofs.Surviving.{calls_counted, early_leaves, some_tape}
use Rattle.reopened_log_laws.proofs.WrittenLogs.{IsWrittenLog, crashed_written}

-- ---- what the disk held at the opening

module _ (opening : Opening) (began now : Tape) (goes_on : TapeGoesOn (Some began) (Some now)) (counted : opening.moment ≡ length began.calls) where
  pub state_then : state_at now opening.moment ≡ state_now began
  state_then =
      let is : now ≡ record began { calls = began.calls ++ goes_on.0 } = some_tape now (record began { calls = began.calls ++ goes_on.0 }) goes_on.1 in
      ap (λ (t : Tape). state_at t opening.moment) is
      ∙ ap (λ (n : ℕ). after_calls began.at_first (take n (began.calls ++ goes_on.0))) counted
      ∙ ap (λ (calls : List Call). after_calls began.at_first calls) (take-append_seam began.calls goes_on.0)

  pub began_suited : IsSuited opening (state_now began) → BeganSuited opening now
  began_suited suited = subst (IsSuited opening) (sym state_then) suited

  pub only_then : AreOnly opening.made (state_now began) → AreOnly opening.made (state_at now opening.moment)
  only_then only = subst (AreOnly opening.made) (sym state_then) only

  pub whole_then : HaveWholePages (opening.setup).seg_size (state_now began) → HaveWholePages (opening.setup).seg_size (state_at now opening.moment)
  whole_then whole = subst (HaveWholePages (opening.setup).seg_size) (sym state_then) whole

-- ---- a run

module _ (opening : Opening) (front : List Entry) (last : ℕ) (began now : Tape) (script : List (List AskedLine)) (lists : List (List Told)) (lies : LiesBehind opening front) (run : IsRunOn opening (Some began) (Some now) last script lists)
    (suited : IsSuited opening (state_now began)) (counted : opening.moment ≡ length began.calls) where
  pub run_written : IsWrittenLog opening front (order_from (opening.setup).seg_size 1 script lists) now
  run_written = record {
    first = run.machine.first;
    words = run.machine.words;
    home = some run.machine.writer;
    views = run.machine.views;
    sound = run.machine.sound;
    order_is = run.machine.order_is;
    tape_is = writer_tape opening now last script lists run.machine;
    suited = began_suited opening began now run.goes_on counted suited;
    lies = lies;
  }

pub crashed_runs_were_left : CrashedRunsWereLeft
crashed_runs_were_left opening front moment last began now crashed script lists lies run suited only few counted narrow since crash none_torn =
    crashed_written opening front (order_from (opening.setup).seg_size 1 script lists) now
    (run_written opening front last began now script lists lies run suited counted)
    (only_then opening began now run.goes_on counted only) few narrow moment since crashed crash none_torn

-- ---- of which order

module _ (opening : Opening) (moment : ℕ) (handed_in of_run order : List Entry) where
  pub order_before : moment < opening.moment → order ≡ handed_in
      → IsOrderAt opening moment handed_in of_run order
  order_before early is = record {
    early = λ _. is;
    later = λ later. absurd (omega (arith, early, later));
  }

  pub order_since : opening.moment ≤ moment → order ≡ of_run
      → IsOrderAt opening moment handed_in of_run order
  order_since later is = record {
    early = λ early. absurd (omega (arith, early, later));
    later = λ _. is;
  }

pub crashed_reopened_runs_were_left : CrashedReopenedRunsWereLeft
crashed_reopened_runs_were_left opening front handed moment last t began now crashed found script lists r run since crash old_torn none_torn =
    let es = order_told front (opening.setup).seg_size script lists in
    elim (cases_lt moment opening.moment) [
      | inl early ↦
          (let leaves = early_leaves opening front handed t began found r now run.goes_on moment
          (image_as_read (state_now crashed)) crash.leaves early in
          let was = crashed_reopened_settlings_were_left opening front handed moment t began crashed found
          r since (record { quiet = crash.quiet; leaves = leaves }) old_torn in (
            was.0,
            was.1.0,
            order_before opening moment r.left.order es was.1.0.order early was.1.1,
          ))
      | inr later ↦
          (let was = crashed_runs_were_left opening front moment last began now crashed script
          lists r.lies run (reopened_logs_are_suited opening front handed t began found r)
          (only_began opening front handed t began found r) r.openable.made_within
          (calls_counted opening front handed t began found r) r.left.has_found.may.narrow later crash
          none_torn in (
            was.0,
            was.1.0,
            order_since opening moment r.left.order es was.1.0.order later was.1.1,
          ))
    ]
