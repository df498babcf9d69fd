-- A record that was told to be durable survives each crash from the moment told on.
use Rattle.std.proofs.Common.{◌≡◌, ℕ, ◌<◌, ◌≤◌, ◌^◌, List, Contains, refl, sym, subst}
use Rattle.std.specs.Prelude.{Option, Some}
use Rattle.std.proofs.lemmas.List.Elements.{Contains-append_left}
use Rattle.segment_disk.specs.Tape.{Tape, empty_state}
use Rattle.handed_pages.specs.Handed.{read_tape}
use Rattle.flush_core.specs.Pages.{HoldsNothing}
use Rattle.hosted_disk.specs.Hosted.{hosted_faults, hosted_moment, hosted_tape}
use Rattle.hosted_disk.specs.declared.disk.HostedDisk.{HostedDisk}
use Rattle.wal_spelling.specs.Spelling.{Assembled}
use Rattle.wal_page.specs.Order.{Entry, finish_of}
use Rattle.wal_types.specs.declared.answers.Hard.{Hard}
use Rattle.wal_types.specs.declared.answers.Receipt.{Receipt}
use Rattle.machine_state.specs.declared.setup.Setup.{Setup}
use Rattle.machine_state.specs.Views.{FlushPromise, View}
use Rattle.machine_state.specs.Words.{Opening}
use Rattle.wal_rule.specs.declared.pass.Pass.{Pass}
use Rattle.wal_rule.specs.Passes.{view_of_pass}
use Rattle.wal_log.specs.declared.closing.Closed.{Closed}
use Rattle.wal_log.specs.declared.wal.Wal.{Wal}
use Rattle.wal_log.specs.Logs.{opening_of_log}
use Rattle.wal_log.specs.Opening.{IsOpened}
use Rattle.wal_log_laws.specs.Keeping.{IsClosedFrom, KeepsPromises, LeavesOrder}
use Rattle.wal_log_laws.specs.Surviving.{Survives}
use Rattle.wal_log_laws.specs.Told.{HasEntry, HasPromise}
use Rattle.wal_log_laws.proofs.Promised.{reserved, still_entry, still_promise}
use Rattle.embedded_log.specs.Opened.{ClosesSession, OpensSession}
use Rattle.embedded_log.specs.Sessions.{setup_of_session, wal_of_session}
use Rattle.embedded_log.specs.Surviving.{ToldRecordsSurvive, WasTold}
use Rattle.embedded_log.specs.declared.session.LogSession.{LogSession}

holds_nothing : (disk : HostedDisk) → hosted_tape disk ≡ Some (read_tape empty_state)
    → HoldsNothing (hosted_tape disk)
holds_nothing disk nothing =
    subst (λ (tape : Option Tape). HoldsNothing tape) (sym nothing) (λ segment. refl)

-- the laws of a log that is closed, and of the entries that it keeps
abbrev LeavesOrders : Type 0
LeavesOrders = (setup : Setup) (disk : HostedDisk) (wal : Wal HostedDisk) (pass : Pass)
    (closed : Closed HostedDisk)
    → IsClosedFrom hosted_tape hosted_moment hosted_faults setup disk wal pass closed
    → setup.sysid < 2 ^ 64
    → (order : List Entry) × LeavesOrder hosted_tape disk wal pass closed order

abbrev KeepsEntries : Type 0
KeepsEntries = (opening : Opening) (order : List Entry) (t : Tape) (v : View)
    → KeepsPromises opening order t v → (e : Entry) (p : FlushPromise) → HasEntry e v
    → HasPromise (finish_of (opening.setup).seg_size e) p v
    → Survives (opening.setup).seg_size order t p.moment e

module _ (setup : Setup) (body : Assembled) (receipt : Receipt) (hard : Hard) (v : View)
    (told : WasTold setup body receipt hard v) where
  abbrev entry : Entry
  entry = (told.appended).entry

  abbrev promise : FlushPromise
  promise = (told.promised).promise

  pub has_entry : HasEntry entry v
  has_entry = still_entry told.log v entry
      (subst (λ (es : List Entry). Contains es entry) (sym ((told.since).entries).1)
      (Contains-append_left _ ((told.since).entries).0 entry
      (reserved setup body told.old told.new entry (told.appended).reserved))) told.had

  pub has_promise : HasPromise (finish_of setup.seg_size entry) promise v
  has_promise = still_promise told.log v (finish_of setup.seg_size entry) promise
      (record {
        in_log = (told.promised).in_log;
        reaches = subst (λ (n : ℕ). n ≤ promise.upto) (told.appended).end_is
            (subst (λ (n : ℕ). receipt.end.0 ≤ n) (sym (told.promised).upto_is) told.reached);
      }) told.had

module _ {H : Type 0} (setup : Setup) (first last : LogSession H) (closed : Closed HostedDisk)
    (opens : OpensSession setup first) (same : wal_of_session last ≡ wal_of_session first)
    (closes : ClosesSession last closed) where
  closed_from : IsClosedFrom hosted_tape hosted_moment hosted_faults setup opens.disk
      (wal_of_session last) closes.pass closed
  closed_from = record {
    first = opens.first;
    opened = subst (λ (w : Wal HostedDisk).
        IsOpened hosted_tape hosted_moment hosted_faults setup opens.disk w opens.first) (sym same)
        opens.opened;
    closes = closes.closes;
  }

pub survive : {H : Type 0} → LeavesOrders → KeepsEntries → ToldRecordsSurvive H
survive leaves_orders keeps_entries = λ setup first last closed opens narrow same closes t is.
    let wal = wal_of_session last in
    let v = view_of_pass closes.pass in
    let leaves = leaves_orders setup opens.disk wal closes.pass closed
    (closed_from setup first last closed opens same closes) narrow in
    let keeps = (leaves.1).keeps (holds_nothing opens.disk opens.nothing) t is in (
      leaves.0,
      λ body receipt hard told.
          let e = (told.appended).entry in let p = (told.promised).promise in
          let size = (setup_of_session last).seg_size in
          subst (λ (m : ℕ). Survives size leaves.0 t m e) (told.promised).moment_is
          (keeps_entries (opening_of_log wal) leaves.0 t v keeps e p
          (has_entry (setup_of_session last) body receipt hard v told)
          (has_promise (setup_of_session last) body receipt hard v told)),
    )
