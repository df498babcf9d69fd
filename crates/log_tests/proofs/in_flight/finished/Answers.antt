use Rattle.wal_rule.specs.Passes.{view_of_pass}
use Rattle.wal_log.specs.Flights.{view_of_flight}
use Rattle.wal_log.proofs.Keeping.{further_pass}
use Rattle.log_tests.proofs.in_flight.finished.Goals as goal

pub returns-clause-keeps : goal.returns-clause-keeps
returns-clause-keeps g c = further_pass (view_of_flight c.args.flight)
    (view_of_flight c.copies.new.flight) (view_of_pass c.in-Ok.pass) c.copies.ensures.keeps
    c.in-Ok.ensures.finishes.keeps.keeps
