use Rattle.machine_state.specs.Views.{View}
use Rattle.wal_rule.specs.Passes.{view_of_pass}
use Rattle.wal_log.specs.Flights.{view_of_flight}
use Rattle.wal_log.proofs.Keeping.{further_pass}
use Rattle.log_tests.proofs.in_flight.ring_full.Goals as goal

pub returns-clause-keeps : goal.returns-clause-keeps
returns-clause-keeps g c = record {
  first = (let begun : View = view_of_flight c.begun-long.result in
      let four_pages : View = view_of_flight c.copies.new.flight in
      let no_more : View = view_of_flight c.copies-2.new.flight in
      let last : View = view_of_pass c.finished.result in
      further_pass (view_of_pass c.args.passes.0) begun last c.begun-long.ensures.keeps
      (further_pass begun four_pages last c.copies.ensures.keeps
      (further_pass four_pages no_more last c.copies-2.ensures.keeps c.finished.ensures.keeps)));
  second = further_pass (view_of_pass c.args.passes.1)
      (view_of_pass c.flushes.new.pass) (view_of_pass c.flushes-2.new.pass)
      c.flushes.ensures.keeps c.flushes-2.ensures.keeps;
}
