-- A process that goes on with a log leaves its disk so that it is one that this program left, at each moment and with no crash of it.
use Rattle.std.proofs.Common.{◌≡◌, ℕ, ◌<◌, List, ◌++◌, length, Some, inl, inr, refl, sym, ap, ◌∙◌, arith, zero, suc, [], ◌∷◌, slice_get}
use Rattle.std.proofs.lemmas.Bool.{cases_lt}
use Rattle.std.proofs.lemmas.List.{take-append-le}
use Rattle.segment_disk.specs.declared.disk.Call.{Call}
use Rattle.segment_disk.specs.Tape.{Tape, state_now}
use Rattle.machine_state.specs.Words.{Opening}
use Rattle.run_laws.specs.Told.{order_from}
use Rattle.run_laws.specs.Assured.{TapeGoesOn, order_told}
use Rattle.reopened_log_laws.specs.Stopped.{StoppedReopenedRunsWereLeft, StoppedRunsWereLeft}
use Rattle.reopened_log_laws.specs.StopsAt.{StopsAt, tape_until, write_to}
use Rattle.reopened_log_laws.proofs.LeftRuns.{only_then, order_before, order_since, run_written, whole_then}
use Rattle.reopened_log_laws.proofs.StoppedSettlings.{began_whole, reopened_settlings_were_left}
use Rattle.reopened_log_laws.proofs.SuitedDisks.{only_began, reopened_logs_are_suited}
use Rattle.reopened_log_laws.proofs.Surviving.{calls_counted, some_tape}
use Rattle.reopened_log_laws.proofs.WrittenLogs.{stopped_written}

pub stopped_runs_were_left : StoppedRunsWereLeft
stopped_runs_were_left opening front moment last began now stopped script lists lies run suited only whole few counted narrow since stops none_torn =
    stopped_written opening front (order_from (opening.setup).seg_size 1 script lists) now
    (run_written opening front last began now script lists lies run suited counted)
    (only_then opening began now run.goes_on counted only) few narrow
    (whole_then opening began now run.goes_on counted whole) moment since stopped stops none_torn

-- ---- before the log was opened

get_before : (calls more : List Call) (m : ℕ) → m < length calls → slice_get (calls ++ more) m ≡ slice_get calls m
get_before [] more m within = absurd (omega (arith, within))
get_before (c ∷ calls) more zero within = refl
get_before (c ∷ calls) more (suc m) within = get_before calls more m (omega (arith, within))

-- the tape was that of the settling, and stops where that did
module _ (opening : Opening) (began now : Tape) (goes_on : TapeGoesOn (Some began) (Some now)) (counted : opening.moment ≡ length began.calls) (moment : ℕ) (early : moment < opening.moment) where
  now_is : now ≡ record began { calls = began.calls ++ goes_on.0 }
  now_is = some_tape now (record began { calls = began.calls ++ goes_on.0 }) goes_on.1

  until_opened : tape_until moment now ≡ tape_until moment began
  until_opened = ap (tape_until moment) now_is ∙ ap (λ (l : List Call). record began { calls = l }) (take-append-le moment began.calls goes_on.0 (omega (arith, early, counted)))

  pub stops_before : (stopped : Tape) → StopsAt now moment stopped → StopsAt began moment stopped
  stops_before stopped (inl same) = inl (same ∙ until_opened)
  stops_before stopped (inr c) =
      let last = write_to c.geometry c.segment c.page c.mix c.done in
      inr (record {
        geometry = c.geometry;
        segment = c.segment;
        page = c.page;
        bytes = c.bytes;
        done = c.done;
        next = sym (ap (λ (d : Tape). slice_get d.calls moment) now_is ∙ get_before began.calls goes_on.0 moment (omega (arith, early, counted))) ∙ c.next;
        there = c.there;
        is_there = sym (ap (λ (d : Tape). state_now d c.segment) until_opened) ∙ c.is_there;
        mix = c.mix;
        mixes = c.mixes;
        stopped_is = c.stopped_is ∙ ap (λ (d : Tape). record d { calls = d.calls ++ last ∷ [] }) until_opened;
      })

pub stopped_reopened_runs_were_left : StoppedReopenedRunsWereLeft
stopped_reopened_runs_were_left opening front handed moment last t began now stopped found script lists r run since stops old_torn none_torn =
    let counted = calls_counted opening front handed t began found r in
    let es = order_told front (opening.setup).seg_size script lists in
    elim (cases_lt moment opening.moment) [
      | inl early ↦
          (let was = reopened_settlings_were_left opening front handed moment t began stopped found r since (stops_before opening began now run.goes_on counted moment early stopped stops) old_torn in
          (found, was.0, order_before opening moment r.left.order es was.0.order early was.1))
      | inr later ↦
          (let was = stopped_runs_were_left opening front moment last began now stopped script lists r.lies run (reopened_logs_are_suited opening front handed t began found r) (only_began opening front handed t began found r) (began_whole opening front handed t began found r) r.openable.made_within counted r.left.has_found.may.narrow later stops none_torn in
          (was.0, was.1.0, order_since opening moment r.left.order es was.1.0.order later was.1.1))
    ]
