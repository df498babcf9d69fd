use Rattle.log_tests.proofs.in_flight.+told_behind.Given as goal

abbrev pub decreases-told_behind : goal.decreases-told_behind
decreases-told_behind g l = l.count
