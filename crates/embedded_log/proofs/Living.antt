-- A life of a log in its sessions is a life of its `Wal`.
use Rattle.std.proofs.Common.{◌≡◌, ℕ, All, Contains, List, [], ◌∷◌, ◌++◌, refl, sym, ap, ◌∙◌, subst, arith}
use Rattle.std.proofs.lemmas.List.Elements.{All-cons, All-nil, All-weaker, Contains-append_left, Contains-append_right, Contains-push}
use Rattle.segment_disk.specs.Tape.{Tape}
use Rattle.hosted_disk.specs.Hosted.{hosted_faults, hosted_moment, hosted_tape}
use Rattle.hosted_disk.specs.declared.disk.HostedDisk.{HostedDisk}
use Rattle.wal_spelling.specs.Spelling.{assembled}
use Rattle.wal_page.specs.Order.{Entry, finish_of}
use Rattle.wal_reader.specs.declared.found.FoundRecord.{FoundRecord}
use Rattle.written_log_laws.specs.Written.{found_entry, found_of}
use Rattle.machine_state.specs.declared.setup.Setup.{Setup}
use Rattle.machine_state.specs.Views.{FlushPromise, View}
use Rattle.machine_state.specs.Words.{Opening}
use Rattle.wal_rule.specs.Passes.{view_of_pass}
use Rattle.wal_log.specs.declared.wal.Wal.{Wal}
use Rattle.wal_log.specs.Logs.{opening_of_log}
use Rattle.wal_log.specs.Opening.{IsOpened}
use Rattle.wal_log.specs.Reopening.{IsReopened}
use Rattle.wal_log_laws.specs.History.{IsLived, IsPromisedDurable, order_of}
use Rattle.wal_log_laws.specs.Told.{HasPromise}
use Rattle.wal_log_laws.proofs.Closes.{closed_logs}
use Rattle.wal_log_laws.proofs.Promised.{was_promised}
use Rattle.wal_log_laws.proofs.Survivors.{entry_in_order, found_there}
use Rattle.embedded_log.specs.Sessions.{setup_of_session, wal_of_session}
use Rattle.embedded_log.specs.Living.{HaveAppended, IsLivedBySessions, OpenedSessionsLiveOn, ReopenedSessionsLiveOn, WasToldBy}
use Rattle.embedded_log.specs.declared.session.LogSession.{LogSession}
use Rattle.embedded_log.proofs.Survival.{has_entry, has_promise}

-- what records have, more have
pub have_more : (some all : List FoundRecord)
    → ((r : FoundRecord) → Contains some r → Contains all r)
    → (setup : Setup) (at : ℕ) (v : View) (one : WasToldBy setup at v)
    → HaveAppended some one.body one.receipt → HaveAppended all one.body one.receipt
have_more some all more setup at v one have = record {
  appended = have.appended;
  among = more have.appended have.among;
  start_is = have.start_is;
  end_is = have.end_is;
  body_is = have.body_is;
}

module _ {H : Type 0} (size : ℕ) (first : LogSession H) (front : List Entry) (next : Tape)
    (order : List Entry) (life : IsLivedBySessions size first front next order) where
  abbrev wal : Wal HostedDisk
  wal = wal_of_session life.last

  abbrev its_setup : Setup
  its_setup = setup_of_session life.last

  abbrev v : View
  v = view_of_pass (life.closes).pass

  abbrev its_order : List Entry
  its_order = order_of hosted_tape hosted_moment hosted_faults (wal_of_session life.last)
      (life.closes).pass life.closed (life.closes).closes

  abbrev Told : Type 0
  Told = WasToldBy (setup_of_session life.last) life.at (view_of_pass (life.closes).pass)

  -- ---- a record that was told

  module _ (one : WasToldBy (setup_of_session life.last) life.at
      (view_of_pass (life.closes).pass)) where
    abbrev entry : Entry
    entry = ((one.told).appended).entry

    abbrev promise : FlushPromise
    promise = ((one.told).promised).promise

    there : (prev : ℕ) × Contains (found_of its_setup.seg_size (front ++ its_order))
        (found_entry its_setup.seg_size prev entry)
    there = found_there its_setup.seg_size 0 (front ++ its_order) entry
        (Contains-append_right front its_order entry
        (entry_in_order (opening_of_log wal) its_order v
        (closed_logs hosted_tape hosted_moment hosted_faults wal (life.closes).pass life.closed
        (life.closes).closes) entry
        (has_entry its_setup one.body one.receipt one.hard v one.told)))

    has : HasPromise (finish_of its_setup.seg_size entry) promise v
    has = has_promise its_setup one.body one.receipt one.hard v one.told

    abbrev read : FoundRecord
    read = found_entry its_setup.seg_size there.0 entry

    was_durable : IsPromisedDurable its_setup.seg_size life.at (front ++ its_order) v read
    was_durable = (
      there.1,
      (has.0).entries,
      promise,
      was_promised v (finish_of its_setup.seg_size entry) promise has,
      (let is = ((one.told).promised).moment_is in let by = one.by in omega (arith, is, by)),
      (has.2).reaches,
    )

    has_read : HaveAppended (read ∷ []) one.body one.receipt
    has_read =
        let a = (one.told).appended in
        let own = (a.reserved).own in
        record {
          appended = read;
          among = Contains-push [] read;
          start_is = sym a.start_is;
          end_is = sym a.end_is;
          body_is = ap (λ (e : Entry). assembled e.value) own.entry_is ∙ own.of_body;
        }

  abbrev Durable : ℕ → List Entry → FoundRecord → Type 0
  Durable n es = IsPromisedDurable n life.at es (view_of_pass (life.closes).pass)

  all_told : (told : List (WasToldBy (setup_of_session life.last) life.at
      (view_of_pass (life.closes).pass)))
      → (hard : List FoundRecord)
      × All (IsPromisedDurable its_setup.seg_size life.at (front ++ its_order) v) hard
      × All (λ one. HaveAppended hard one.body one.receipt) told
  all_told [] = (
    [],
    All-nil (IsPromisedDurable its_setup.seg_size life.at (front ++ its_order) v),
    All-nil (λ (one : Told). HaveAppended [] one.body one.receipt),
  )
  all_told (one ∷ told) =
      let rest = all_told told in
      let r = read one in
      let all = r ∷ rest.0 in (
        all,
        All-cons (IsPromisedDurable its_setup.seg_size life.at (front ++ its_order) v) r rest.0
            (was_durable one) rest.1,
        All-cons (λ (one : Told). HaveAppended all one.body one.receipt) one told
            (have_more (r ∷ []) all (λ x. Contains-append_left (r ∷ []) rest.0 x) its_setup life.at v
            one (has_read one))
            (All-weaker (λ (one : Told). HaveAppended rest.0 one.body one.receipt)
            (λ (one : Told). HaveAppended all one.body one.receipt)
            (have_more rest.0 all (λ x. Contains-append_right (r ∷ []) rest.0 x) its_setup life.at
            v) told rest.2),
      )

  -- ---- the log's life

  module _ (sized : (setup_of_session life.last).seg_size ≡ size) where
    promised_as : (hard : List FoundRecord)
        → All (IsPromisedDurable its_setup.seg_size life.at (front ++ its_order) v) hard
        → All (IsPromisedDurable size life.at order v) hard
    promised_as hard all = subst (λ (es : List Entry).
        All (IsPromisedDurable size life.at es v) hard) (sym life.order_is)
        (subst (λ (n : ℕ). All (IsPromisedDurable n life.at (front ++ its_order) v) hard) sized all)

    lived : (hard : List FoundRecord)
        → All (IsPromisedDurable its_setup.seg_size life.at (front ++ its_order) v) hard
        → IsLived hosted_tape hosted_moment hosted_faults size wal front next order hard
    lived hard all = record {
      pass = (life.closes).pass;
      closed = life.closed;
      closes = (life.closes).closes;
      order_is = life.order_is;
      now = life.now;
      after = life.after;
      at = life.at;
      since = life.since;
      ends = life.ends;
      promised = promised_as hard all;
    }

module _ {H : Type 0} where
  pub opened_live_on : OpenedSessionsLiveOn H
  opened_live_on = λ setup first next order opens life told.
      let opened = subst (λ (w : Wal HostedDisk).
      IsOpened hosted_tape hosted_moment hosted_faults setup opens.disk w opens.first)
      (sym life.same_log) opens.opened in
      let sized = ap (λ (o : Opening). (o.setup).seg_size) opened.opening in
      let all = all_told setup.seg_size first [] next order life told in (
        all.0,
        record {
          setup = setup;
          disk = opens.disk;
          wal = wal_of_session life.last;
          first = opens.first;
          handed = record { sized = refl; named = refl; before = opens.nothing };
          empty = λ segment. refl;
          opened = opened;
          lived = lived setup.seg_size first [] next order life sized all.0 all.1;
        },
        all.2,
      )

  pub reopened_live_on : ReopenedSessionsLiveOn H
  reopened_live_on = λ setup first found t next front order reopens before below life told.
      let reopened = subst (λ (w : Wal HostedDisk).
      IsReopened hosted_tape hosted_moment hosted_faults setup reopens.disk w reopens.first found)
      (sym life.same_log) reopens.reopened in
      let sized = ap (λ (o : Opening). (o.setup).seg_size) reopened.opening in
      let all = all_told setup.seg_size first front next order life told in (
        all.0,
        record {
          setup = setup;
          disk = reopens.disk;
          wal = wal_of_session life.last;
          first = reopens.first;
          found = found;
          handed = record { sized = refl; named = refl; before = before };
          reopened = reopened;
          front = front;
          below = below;
          lived = lived setup.seg_size first front next order life sized all.0 all.1;
        },
        all.2,
      )
