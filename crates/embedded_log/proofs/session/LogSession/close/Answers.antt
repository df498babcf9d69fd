use Rattle.std.proofs.Common.{[], sym, subst}
use Rattle.machine_laws.specs.ClosedLogs.{HasAllNumbers}
use Rattle.machine_state.specs.Moves.{after_join}
use Rattle.machine_state.specs.Views.{View}
use Rattle.wal_rule.specs.Passes.{view_of_pass}
use Rattle.embedded_log.specs.Sessions.{setup_of_session}
use Rattle.embedded_log.proofs.session.LogSession.close.Goals as goal

pub close-requires-clause-numbers : goal.close-requires-clause-numbers
close-requires-clause-numbers g c =
    let passes = (setup_of_session c.args.self).passes in
    let v = view_of_pass c.args.self.pass in
    let w = view_of_pass c.args.self.helper in
    let new = view_of_pass c.join.new.pass in
    let joined = c.passes_share_numbers.ensures.join passes v w [] c.requires.sole.none_to_give
    c.requires.sole.numbers in
    let all = c.passes_share_numbers.ensures.all passes (after_join v w) joined in
    let here = subst (λ (x : View). HasAllNumbers passes x.reserving) (sym c.join.ensures.view) all
    in rw c.in-Ok.ensures.ok here
