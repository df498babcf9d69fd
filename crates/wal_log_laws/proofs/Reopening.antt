-- A commit is found where its log is reopened: one life, and what the next opening finds.
use Rattle.std.proofs.Common.{◌≡◌, ℕ, ◌^◌, ◌<◌, ◌+◌, ◌≤◌, Contains, List, [], ◌∷◌, ◌++◌, length, Option, Some, None, IfSome, inl, inr, refl, sym, ap, subst, ◌∙◌, arith}
use Rattle.std.specs.Prelude.{IsSome}
use Rattle.std.proofs.lemmas.List.{length-append, take_all}
use Rattle.std.proofs.lemmas.List.Elements.{All-cons, All-head, All-nil}
use Rattle.std.proofs.lemmas.Bool.{cases_lt}
use Rattle.wal_spelling.specs.Spelling.{Assembled, assembled}
use Rattle.wal_types.specs.declared.answers.Sealed.{Sealed}
use Rattle.segment_disk.specs.declared.disk.Call.{Call}
use Rattle.segment_disk.specs.DiskImage.{image_as_read}
use Rattle.segment_disk.specs.Tape.{Tape, state_now}
use Rattle.flush_core.specs.Pages.{HoldsNothing}
use Rattle.wal_page.specs.Order.{Entry}
use Rattle.wal_reader.specs.declared.found.FoundRecord.{FoundRecord}
use Rattle.wal_reader.specs.Pages.{pages_in}
use Rattle.written_log_laws.specs.Torn.{NoTornPass}
use Rattle.written_log_laws.specs.Written.{found_of}
use Rattle.machine_state.specs.declared.setup.Setup.{Setup}
use Rattle.machine_state.specs.Sound.{IsSetup}
use Rattle.machine_state.specs.Views.{View}
use Rattle.machine_state.specs.Words.{Opening}
use Rattle.wal_rule.specs.declared.pass.Pass.{Pass}
use Rattle.wal_rule.specs.Passes.{view_of_pass}
use Rattle.wal_rule.specs.Tables.{began_of_table}
use Rattle.wal_log.specs.declared.closing.Closed.{Closed}
use Rattle.wal_log.specs.declared.reopening.Found.{Found}
use Rattle.wal_log.specs.declared.wal.Wal.{Wal}
use Rattle.wal_log.specs.Closing.{ClosesLog}
use Rattle.wal_log.specs.Committing.{IsSealed}
use Rattle.wal_log.specs.Logs.{opening_of_log, setup_of_log, table_of}
use Rattle.wal_log.specs.Opening.{IsOpened}
use Rattle.wal_log.specs.PassLogs.{log_of_pass}
use Rattle.wal_log.specs.Reopening.{IsReopened}
use Rattle.wal_log_laws.specs.Growing.{HasGrown}
use Rattle.machine_laws.specs.WholeOrders.{LiesBehind}
use Rattle.run_laws.specs.Assured.{TapeGoesOn}
use Rattle.reopened_log_laws.specs.FoundFirst.{AreFoundEntries}
use Rattle.reopened_log_laws.proofs.Surviving.{some_tape}
use Rattle.wal_log_laws.specs.History.{BeginsWal, IsHandedIn, IsLived, IsPromisedDurable, opens, order_of, starts_empty}
use Rattle.wal_log_laws.specs.Reopened.{FindsCommit}
use Rattle.wal_log_laws.proofs.Closing.{goes_on}
use Rattle.wal_log_laws.proofs.Commits.{commits_are_promised}
use Rattle.wal_log_laws.proofs.Lives.{at_some}
use Rattle.wal_log_laws.proofs.Theorem.{promised_records_stay}

some_told : (o : Option Tape) → IsSome o → (t : Tape) × (o ≡ Some t)
some_told None has = absurd (cc has)
some_told (Some t) has = (t, refl)

some_id : (n : ℕ) → (n ≡ 0 → ⊥) → 0 < n
some_id n other = elim (cases_lt 0 n) [
  | inl lt ↦ lt
  | inr none ↦ absurd (other (omega (arith, none)))
]

module _ {D : Type 0} (tape : D → Option Tape) (moment faults : D → ℕ)
    (counts : (disk : D) → IfSome (tape disk) (λ t. moment disk ≡ length t.calls))
    (setup : Setup) (disk : D) (wal : Wal D) (first pass : Pass) (closed : Closed D)
    (opened : IsOpened tape moment faults setup disk wal first)
    (closes : ClosesLog tape moment faults wal pass closed) (nothing : HoldsNothing (tape disk))
    (tells : IsSome (tape disk)) (narrow : setup.sysid < 2 ^ 64) (body : Assembled)
    (old new : View) (sealed : Sealed) (s : IsSealed (setup_of_log wal) body old new sealed)
    (grown : HasGrown (log_of_pass new) (view_of_pass pass)) (again : Wal D) (next : Pass)
    (found : Found) (r : IsReopened tape moment faults setup closed.disk again next found) where
  abbrev its_order : List Entry
  its_order = order_of tape moment faults wal pass closed closes

  setup_is : setup_of_log wal ≡ setup
  setup_is = ap (λ (o : Opening). o.setup) opened.opening

  setup_again : (opening_of_log again).setup ≡ setup
  setup_again = ap (λ (o : Opening). o.setup) r.opening

  its_setup : IsSetup setup
  its_setup = subst IsSetup setup_again (r.openable).setup_is

  -- ---- what the disk tells

  at_first : (t : Tape) × (tape disk ≡ Some t)
  at_first = some_told (tape disk) tells

  began_is : began_of_table tape (table_of wal) ≡ Some at_first.0
  began_is = opened.began ∙ at_first.1

  behind : (t : Tape) × (tape closed.disk ≡ Some t)
  behind = some_told (tape closed.disk) (subst (λ (d : D). IsSome (tape d)) closes.disk_is
      (((closes.closes).of_log).told (subst (λ (o : Option Tape). IsSome o)
      (sym opened.began) tells)))

  abbrev at : ℕ
  at = length (behind.0).calls + sealed.moment

  counted : (opening_of_log wal).moment ≡ length (at_first.0).calls
  counted = ap (λ (o : Opening). o.moment) opened.opening
      ∙ at_some (λ (t : Tape). moment disk ≡ length t.calls) (tape disk) at_first.0 at_first.1
      (counts disk)

  its_narrow : (setup_of_log wal).sysid < 2 ^ 64
  its_narrow = subst (λ (x : Setup). x.sysid < 2 ^ 64) (sym setup_is) narrow

  on : TapeGoesOn (Some at_first.0) (Some behind.0)
  on = goes_on tape moment faults wal pass closed closes at_first.0 behind.0 began_is behind.1
      its_narrow

  since : (opening_of_log wal).moment ≤ length (behind.0).calls + sealed.moment
  since =
      let is = some_tape behind.0 (record at_first.0 { calls = (at_first.0).calls ++ on.0 }) on.1 in
      omega (
        arith,
        counted,
        ap (λ (t : Tape). length t.calls) is,
        length-append (at_first.0).calls on.0,
      )

  -- ---- the life

  commit : (f : FoundRecord) × (f.head.start.0 ≡ sealed.start.0) × (f.head.end.0 ≡ sealed.end.0)
      × (assembled f.value ≡ body)
      × IsPromisedDurable (setup_of_log wal).seg_size
      (length (behind.0).calls + sealed.moment)
      (order_of tape moment faults wal pass closed closes) (view_of_pass pass) f
  commit = commits_are_promised tape moment faults wal [] pass closed closes body old new sealed at s
      grown (omega arith)

  promised : IsPromisedDurable setup.seg_size (length (behind.0).calls + sealed.moment)
      (order_of tape moment faults wal pass closed closes) (view_of_pass pass) commit.0
  promised = subst (λ (x : Setup). IsPromisedDurable x.seg_size at its_order
      (view_of_pass pass) commit.0) setup_is commit.4

  module _ (none_torn : NoTornPass setup.seg_size
      (pages_in setup.seg_size (image_as_read (state_now behind.0)))
      (order_of tape moment faults wal pass closed closes)) where
    lived : IsLived tape moment faults setup.seg_size wal [] behind.0
        (order_of tape moment faults wal pass closed closes) (commit.0 ∷ [])
    lived = record {
      pass = pass;
      closed = closed;
      closes = closes;
      order_is = refl;
      now = behind.0;
      after = behind.1;
      at = at;
      since = since;
      ends = record {
        left = inl (inl (ap (λ (cs : List Call). record behind.0 { calls = cs })
            (sym (take_all at (behind.0).calls (omega arith)))));
        no_torn_pass = none_torn;
      };
      promised = All-cons (IsPromisedDurable setup.seg_size at its_order (view_of_pass pass))
          commit.0 []
          promised (All-nil (IsPromisedDurable setup.seg_size at its_order
          (view_of_pass pass)));
    }

    empty : HoldsNothing (Some at_first.0)
    empty = subst HoldsNothing at_first.1 nothing

    begins : BeginsWal tape moment faults setup.seg_size setup.sysid at_first.0 behind.0
        (order_of tape moment faults wal pass closed closes) (commit.0 ∷ [])
    begins = record {
      setup = setup;
      disk = disk;
      wal = wal;
      first = first;
      handed = record { sized = refl; named = refl; before = at_first.1 };
      empty = empty;
      opened = opened;
      lived = lived;
    }

    handed : IsHandedIn tape moment faults setup.seg_size setup.sysid behind.0 setup closed.disk
    handed = record { sized = refl; named = refl; before = behind.1 }

    finds : (front : List Entry) × AreFoundEntries setup.seg_size behind.0 front
        × LiesBehind (opening_of_log again) front
        × Contains (found_of setup.seg_size front) commit.0
    finds =
        let is = (promised_records_stay tape moment faults counts setup.seg_size setup.sysid
        behind.0 its_order (commit.0 ∷ []) (opens (starts_empty its_setup.size
        (some_id setup.sysid its_setup.named) narrow empty) begins)).finds setup closed.disk again
        next found handed r in (
          is.0,
          is.1,
          is.2,
          All-head (Contains (found_of setup.seg_size is.0)) commit.0 [] is.4.has,
        )

  pub finds_commit : FindsCommit tape moment faults setup body again next found sealed
  finds_commit = record {
    wal = wal;
    pass = pass;
    closed = closed;
    closes = closes;
    reopened = r;
    now = behind.0;
    told = behind.1;
    commit = commit.0;
    start_is = commit.1;
    end_is = commit.2;
    body_is = commit.3;
    in_order = promised.0;
    found = finds;
  }
