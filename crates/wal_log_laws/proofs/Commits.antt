-- The record of a commit that was told to be durable was promised to be so.
use Rattle.std.proofs.Common.{ℕ, ◌++◌, Option, sym, ap, ◌∙◌}
use Rattle.std.proofs.lemmas.List.Elements.{Contains-append_right}
use Rattle.segment_disk.specs.Tape.{Tape}
use Rattle.wal_spelling.specs.Spelling.{assembled}
use Rattle.wal_page.specs.Order.{Entry, finish_of}
use Rattle.written_log_laws.specs.Written.{found_entry}
use Rattle.wal_rule.specs.Passes.{view_of_pass}
use Rattle.wal_log.specs.Logs.{opening_of_log, setup_of_log}
use Rattle.wal_log.specs.PassLogs.{log_of_pass, log_with_entry}
use Rattle.wal_log_laws.specs.Told.{promise_to}
use Rattle.wal_log_laws.proofs.Closes.{closed_logs}
use Rattle.wal_log_laws.proofs.Promised.{commit_promises, commit_reserved, still_entry, still_promise, was_promised}
use Rattle.wal_log_laws.proofs.Survivors.{entry_in_order, found_there}
use Rattle.wal_log_laws.specs.History.{order_of}
use Rattle.wal_log_laws.specs.Lives.{CommitsArePromised}

module _ {D : Type 0} (tape : D → Option Tape) (moment faults : D → ℕ) where
  pub commits_are_promised : CommitsArePromised tape moment faults
  commits_are_promised wal front pass closed c body old new sealed at s grown by =
      let setup = setup_of_log wal in
      let size = setup.seg_size in
      let v = view_of_pass pass in
      let order = order_of tape moment faults wal pass closed c in
      let p = promise_to (log_with_entry s.entry (log_of_pass old)) s.upto sealed.moment in
      let has = still_entry (log_of_pass new) v s.entry
      (commit_reserved setup body old new sealed s) grown in
      let told = still_promise (log_of_pass new) v (finish_of size s.entry) p
      (commit_promises setup body old new sealed s) grown in
      let among = entry_in_order (opening_of_log wal) order v
      (closed_logs tape moment faults wal pass closed c) s.entry has in
      let there = found_there size 0 (front ++ order) s.entry
      (Contains-append_right front order s.entry among)
      in (
        found_entry size there.0 s.entry,
        sym s.start_is,
        sym s.end_is,
        ap (λ (e : Entry). assembled e.value) s.own.entry_is ∙ s.own.of_body,
        (
          there.1,
          (told.0).entries,
          p,
          was_promised v (finish_of size s.entry) p told,
          by,
          (told.2).reaches,
        ),
      )
