use Rattle.std.proofs.Common.{[], ◌∷◌, ap, ◌∙◌, sym, subst}
use Rattle.machine_laws.specs.ClosedLogs.{HasAllNumbers}
use Rattle.machine_state.specs.Moves.{after_split, split_off}
use Rattle.machine_state.specs.Views.{View}
use Rattle.wal_rule.specs.Passes.{view_of_pass}
use Rattle.wal_log.specs.Logs.{opening_of_log, setup_of_log}
use Rattle.wal_log.specs.Sharing.{ShareNumbers}
use Rattle.log_tests.proofs.in_flight.shared.Goals as goal

pub returns-clause-numbers : goal.returns-clause-numbers
returns-clause-numbers c =
    let log = c.in_ok-log.log in
    let passes = (setup_of_log log).passes in
    let v = view_of_pass c.in_ok-log.first in
    let laws = c.passes_share_numbers.ensures in
    let all = subst (λ (x : View). HasAllNumbers passes x.reserving) (sym c.in_ok-log.ensures.view)
    (c.seats_keep_numbers.ensures.first (opening_of_log log)).1 in
    subst (λ (x : View). ShareNumbers passes (view_of_pass c.split-second.new.pass) (x ∷ []))
    (sym c.split-second.ensures.right.1)
    (subst (λ (x : View). ShareNumbers passes x (split_off v ∷ []))
    (sym c.split-second.ensures.left.1) (laws.split passes v [] (laws.none passes v all)))
