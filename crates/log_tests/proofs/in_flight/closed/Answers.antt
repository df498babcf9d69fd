use Rattle.std.proofs.Common.{[], sym, subst}
use Rattle.machine_laws.specs.ClosedLogs.{HasAllNumbers}
use Rattle.machine_state.specs.Moves.{after_join}
use Rattle.machine_state.specs.Views.{View}
use Rattle.wal_rule.specs.Passes.{view_of_pass}
use Rattle.wal_log.specs.Logs.{setup_of_log}
use Rattle.log_tests.proofs.in_flight.closed.Goals as goal

pub close-requires-clause-numbers : goal.close-requires-clause-numbers
close-requires-clause-numbers c =
    let laws = c.passes_share_numbers.ensures in
    let passes = (setup_of_log c.args.log).passes in
    let v = view_of_pass c.args.first in
    let w = view_of_pass c.args.second in
    subst (λ (x : View). HasAllNumbers passes x.reserving) (sym c.join.ensures.view)
    (laws.all passes (after_join v w)
    (laws.join passes v w [] c.requires.none c.requires.numbers))
