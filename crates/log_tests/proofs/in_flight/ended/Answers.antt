use Rattle.wal_rule.specs.Passes.{view_of_pass}
use Rattle.wal_log.specs.Logs.{setup_of_log}
use Rattle.log_tests.proofs.SharedNumbers.{still_shared}
use Rattle.log_tests.proofs.in_flight.ended.Goals as goal

pub closed-requires-clause-numbers : goal.closed-requires-clause-numbers
closed-requires-clause-numbers g c =
    let passes = (setup_of_log c.in_ok-log.log).passes in
    let keeps = c.calls_keep_numbers.ensures in
    still_shared passes (c.passes_share_numbers.ensures.kept passes)
    (view_of_pass c.in_ok-log.first) (view_of_pass c.played-first.result.0)
    (view_of_pass c.in_ok-log.second) (view_of_pass c.played-first.result.1)
    (keeps _ _ c.played-first.ensures.keeps.first) (keeps _ _ c.played-first.ensures.keeps.second)
    c.in_ok-log.ensures.numbers
