use Rattle.wal_rule.specs.Passes.{view_of_pass}
use Rattle.wal_log.specs.Flights.{view_of_flight}
use Rattle.wal_log.proofs.Keeping.{further_pass}
use Rattle.log_tests.proofs.in_flight.other_way_round.Goals as goal

pub returns-clause-keeps : goal.returns-clause-keeps
returns-clause-keeps g c = record {
  first = further_pass (view_of_pass c.args.passes.0)
      (view_of_flight c.begun-earlier.result) (view_of_pass c.finished-first.result)
      c.begun-earlier.ensures.keeps c.finished-first.ensures.keeps;
  second = (let begun = view_of_flight c.begun-later.result in
      let ended = view_of_pass c.finished-second.result in
      let last = view_of_pass c.flushes-2.new.pass in
      further_pass (view_of_pass c.args.passes.1) begun last c.begun-later.ensures.keeps
      (further_pass begun ended last c.finished-second.ensures.keeps
      (further_pass ended (view_of_pass c.flushes.new.pass) last c.flushes.ensures.keeps
      (further_pass (view_of_pass c.flushes.new.pass) (view_of_pass c.is_hard.new.pass) last
      c.is_hard.ensures.keeps c.flushes-2.ensures.keeps))));
}
