-- A log that was closed was written as the machine writes it, and what its passes were promised is
-- firm.
use Rattle.std.proofs.Common.{◌≡◌, ℕ, ◌^◌, ◌<◌, All, List, ◌++◌, length, Option, Some, ap, ◌∙◌, subst}
use Rattle.std.proofs.lemmas.List.Elements.{All-weaker}
use mathlib.Core.Option.{some}
use Rattle.segment_disk.specs.declared.disk.Call.{Call}
use Rattle.segment_disk.specs.Tape.{DiskState, Tape, state_now}
use Rattle.wal_page.specs.Order.{Entry}
use Rattle.wal_reader.specs.declared.found.FoundRecord.{FoundRecord}
use Rattle.machine_state.specs.Durable.{AreKept, IsFirm, IsPromiseKept}
use Rattle.machine_state.specs.Suited.{IsSuited}
use Rattle.machine_state.specs.Views.{FlushPromise, Joined, View}
use Rattle.machine_state.specs.Words.{Opening}
use Rattle.machine_state.proofs.Tapes.{at_suited, at_told}
use Rattle.machine_laws.specs.WholeOrders.{LiesBehind}
use Rattle.machine_laws.proofs.DurableGrowth.{IsFirm-lower}
use Rattle.wal_rule.specs.declared.pass.Pass.{Pass}
use Rattle.wal_rule.specs.Passes.{view_of_pass}
use Rattle.wal_rule.specs.Slotted.{GoesOnFrom, first_on, slot_disk}
use Rattle.wal_rule.specs.Tables.{began_of_table}
use Rattle.run_laws.specs.Closed.{IsClosedOn, WasPromised}
use Rattle.run_laws.proofs.ClosedDisk.{sound_tape}
use Rattle.run_laws.proofs.Promises.{of_promise, told_rightly}
use Rattle.wal_log.specs.declared.closing.Closed.{Closed}
use Rattle.wal_log.specs.declared.wal.Wal.{Wal}
use Rattle.wal_log.specs.Closing.{ClosesLog}
use Rattle.wal_log.specs.Logs.{opening_of_log, setup_of_log, table_of}
use Rattle.wal_log_laws.proofs.Closes.{closed_on, closed_tape}
use Rattle.run_laws.specs.Assured.{TapeGoesOn}
use Rattle.reopened_log_laws.proofs.KeptLives.{IsFirmRecord}
use Rattle.reopened_log_laws.proofs.LeftRuns.{began_suited}
use Rattle.reopened_log_laws.proofs.WrittenLogs.{IsWrittenLog}
use Rattle.wal_log_laws.specs.History.{IsPromisedDurable}

-- ---- a log that was closed on a disk on which it may go on

module _ (opening : Opening) (front order : List Entry) (t : Tape) (v : View)
    (c : IsClosedOn opening order t v) (lies : LiesBehind opening front) where
  pub closed_written : IsWrittenLog opening front order t
  closed_written = record {
    first = t.at_first;
    words = c.words;
    home = some c.writer;
    views = c.views;
    sound = c.sound;
    order_is = c.order_is;
    tape_is = sound_tape opening order t v c;
    suited = c.began;
    lies = lies;
  }

module _ (opening : Opening) (order : List Entry) (t : Tape) (v : View)
    (c : IsClosedOn opening order t v) where
  promise_kept : (entries : List Entry) (p : FlushPromise) → WasPromised v entries p
      → IsPromiseKept opening (c.sound).order t entries p
  promise_kept =
      let told = told_rightly opening c.words (some c.writer) c.views c.sound c.id v c.here in
      let tape_is = sound_tape opening order t v c in
      of_promise (IsPromiseKept opening (c.sound).order t) v
      (at_suited t.at_first opening (c.sound).writer
      (λ t. AreKept opening (c.sound).order t (v.reserving).entries (v.writing).promises) t tape_is
      c.began told.own)
      (at_suited t.at_first opening (c.sound).writer (λ t. All (λ (j : Joined).
      AreKept opening (c.sound).order t j.entries j.promises) (v.reserving).joined) t tape_is
      c.began told.joined)

  promise_firm : (entries : List Entry) (p : FlushPromise) → WasPromised v entries p
      → IsFirm opening order p.upto p.moment t
  promise_firm entries p was =
      subst (λ (es : List Entry). IsFirm opening es p.upto p.moment t) c.order_is
      (promise_kept entries p was).firm

  pub promised_firm : (front : List Entry) (moment : ℕ) (more : List FoundRecord)
      → All (IsPromisedDurable (opening.setup).seg_size moment (front ++ order) v) more
      → All (IsFirmRecord opening front order t moment) more
  promised_firm front moment more all =
      All-weaker (IsPromisedDurable (opening.setup).seg_size moment (front ++ order) v)
      (IsFirmRecord opening front order t moment)
      (λ r k. (
        k.0,
        (k.2).moment,
        k.4,
        IsFirm-lower opening order r.head.end.0 (k.2).upto (k.2).moment t k.5
            (promise_firm k.1 k.2 k.3),
      )) more all

-- ---- a log that was opened with a tape, and closed

gone_on : (b n : Tape) (later : List Call) → n.at_first ≡ b.at_first
    → n.calls ≡ b.calls ++ later → n ≡ record b { calls = b.calls ++ later }
gone_on b n later first calls =
    ap (λ (s : DiskState). let m : Tape = record { at_first = s; calls = n.calls } in m) first
    ∙ ap (λ (cs : List Call). let m : Tape = record { at_first = b.at_first; calls = cs } in m)
    calls

module _ {D : Type 0} (tape : D → Option Tape) (moment faults : D → ℕ) (wal : Wal D) (pass : Pass)
    (closed : Closed D) (closes : ClosesLog tape moment faults wal pass closed) (began now : Tape)
    (began_is : began_of_table tape (table_of wal) ≡ Some began)
    (after : tape closed.disk ≡ Some now) (narrow : (setup_of_log wal).sysid < 2 ^ 64) where
  pub goes_on : TapeGoesOn (Some began) (Some now)
  goes_on =
      let its_tape = closed_tape tape moment faults wal pass closed closes now after narrow in
      let of_log = (closes.closes).of_log in
      let first = subst (λ (o : Option Tape). now.at_first ≡ first_on o) began_is
      (at_told (λ (t : Tape). t.at_first ≡ first_on (began_of_table tape (table_of wal)))
      (tape (slot_disk closes.writer)) now its_tape of_log.on_first) in
      let goes = subst (λ (o : Option Tape). GoesOnFrom o now) began_is
      (at_told (GoesOnFrom (began_of_table tape (table_of wal))) (tape (slot_disk closes.writer))
      now its_tape of_log.goes_on) in
      (goes.0, ap (λ (t : Tape). Some t) (gone_on began now goes.0 first goes.1))

  module _ (counted : (opening_of_log wal).moment ≡ length began.calls)
      (suited : IsSuited (opening_of_log wal) (state_now began)) where
    pub closed_there : IsClosedOn (opening_of_log wal) (((closes.closes).sound).order) now
        (view_of_pass pass)
    closed_there = closed_on tape moment faults wal pass closed closes now after narrow
        (began_suited (opening_of_log wal) began now goes_on counted suited)
