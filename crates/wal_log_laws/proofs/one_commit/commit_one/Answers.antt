use Rattle.std.proofs.Common.{rules, ◌≡◌, ◌<◌, ◌^◌, sym, ap, ◌∙◌, subst}
use Rattle.wal_page.specs.Order.{finish_of, start_of}
use Rattle.wal_log_laws.specs.Surviving.{Survives}
use Rattle.machine_state.specs.declared.setup.Setup.{Setup}
use Rattle.machine_state.specs.Words.{Opening}
use Rattle.wal_rule.specs.Passes.{view_of_pass}
use Rattle.machine_state.specs.Views.{View}
use Rattle.machine_laws.specs.ClosedLogs.{HasAllNumbers}
use Rattle.wal_log.specs.Committing.{IsSealed}
use Rattle.wal_log.specs.Logs.{opening_of_log, setup_of_log}
use Rattle.wal_log_laws.proofs.one_commit.commit_one.Goals as goal

pub close-closed-requires-clause-numbers : goal.close-closed-requires-clause-numbers
close-closed-requires-clause-numbers g c =
    let opening = opening_of_log c.in-Ok.log in
    let first = subst (λ (v : View). HasAllNumbers (opening.setup).passes v.reserving)
    (sym c.in-Ok.ensures.opened.view) (c.seats_keep_numbers.ensures.first opening).1 in
    λ number low. c.calls_keep_numbers.ensures (view_of_pass c.in-Ok.pass)
    (view_of_pass c.commit.new.pass) c.commit.ensures.leaves.keeps number (first number low)

pub returns : goal.returns
returns g c = λ t told.
    let wal = c.in-Ok.log in
    let old = view_of_pass c.in-Ok.pass in
    let new = view_of_pass c.commit.new.pass in
    let narrow : c.args.setup.sysid < 2 ^ 64 = search rules in
    let opened = c.in-Ok.ensures.opened in
    let setup_is : setup_of_log wal ≡ c.args.setup = ap (λ (o : Opening). o.setup) opened.opening in
    let leaves = c.closed_logs_are_closed_on_their_disk.ensures.closed c.args.setup c.args.disk wal
    c.commit.new.pass c.close-closed.result
    (record { first = c.in-Ok.pass; opened = opened; closes = c.close-closed.ensures }) narrow in
    let s : IsSealed (setup_of_log wal) c.args.body.now old new c.in-Ok-commit.sealed =
    c.in-Ok-commit.ensures.commits in
    let lives = c.sealed_records_survive.ensures.sealed c.args.disk wal c.commit.new.pass
    c.close-closed.result leaves.0 leaves.1 c.requires.nothing t told c.args.body.now old new
    c.in-Ok-commit.sealed s (c.logs_are_never_lost.ensures.own new) in (
      leaves.0,
      s.entry,
      subst (λ (x : Setup). Survives x.seg_size leaves.0 t c.in-Ok-commit.sealed.moment s.entry)
          setup_is lives,
      s.start_is ∙ ap (λ (x : Setup). start_of x.seg_size s.entry) setup_is,
      s.end_is ∙ ap (λ (x : Setup). finish_of x.seg_size s.entry) setup_is,
    )
