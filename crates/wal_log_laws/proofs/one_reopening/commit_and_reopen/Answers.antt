use Rattle.std.proofs.Common.{rules, ◌<◌, ◌^◌, sym, subst}
use Rattle.machine_state.specs.Views.{View}
use Rattle.wal_rule.specs.Passes.{view_of_pass}
use Rattle.machine_laws.specs.ClosedLogs.{HasAllNumbers}
use Rattle.wal_log.specs.Logs.{opening_of_log}
use Rattle.wal_log_laws.proofs.Reopening.{finds_commit}
use Rattle.wal_log_laws.proofs.one_reopening.commit_and_reopen.Goals as goal

pub close-closed-requires-clause-numbers : goal.close-closed-requires-clause-numbers
close-closed-requires-clause-numbers g c =
    let opening = opening_of_log c.in-Ok.log in
    let first = subst (λ (v : View). HasAllNumbers (opening.setup).passes v.reserving)
    (sym c.in-Ok.ensures.opened.view) (c.seats_keep_numbers.ensures.first opening).1 in
    λ number low. c.calls_keep_numbers.ensures (view_of_pass c.in-Ok.pass)
    (view_of_pass c.commit.new.pass) c.commit.ensures.leaves.keeps number (first number low)

pub returns : goal.returns
returns g c =
    let old = view_of_pass c.in-Ok.pass in
    let new = view_of_pass c.commit.new.pass in
    let narrow : c.args.setup.sysid < 2 ^ 64 = search rules in
    finds_commit g.D.Disk.tape g.D.Disk.moment g.D.Disk.faults g.met.D.Disk.counts c.args.setup
    c.args.disk c.in-Ok.log c.in-Ok.pass c.commit.new.pass c.close-closed.result
    c.in-Ok.ensures.opened c.close-closed.ensures c.requires.nothing c.requires.tells narrow
    c.args.body.now old new c.in-Ok-commit.sealed c.in-Ok-commit.ensures.commits
    (c.logs_are_never_lost.ensures.own new) c.in-Ok-reopen.again c.in-Ok-reopen.first
    c.in-Ok-reopen.found c.in-Ok-reopen.ensures.reopened
