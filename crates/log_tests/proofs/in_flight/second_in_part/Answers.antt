use Rattle.machine_state.specs.Views.{View}
use Rattle.wal_rule.specs.Passes.{view_of_pass}
use Rattle.wal_log.specs.Flights.{view_of_flight}
use Rattle.wal_log.proofs.Keeping.{further_pass}
use Rattle.log_tests.proofs.in_flight.second_in_part.Goals as goal

pub returns-clause-keeps : goal.returns-clause-keeps
returns-clause-keeps g c = record {
  first = (let begun : View = view_of_flight c.begun-whole.result in
      let ended : View = view_of_pass c.finished-first.result in
      let one : View = view_of_pass c.flushes.new.pass in
      let two : View = view_of_pass c.flushes-2.new.pass in
      let three : View = view_of_pass c.flushes-3.new.pass in
      let four : View = view_of_pass c.flushes-4.new.pass in
      let last : View = view_of_pass c.flushes-5.new.pass in
      further_pass (view_of_pass c.args.passes.0) begun last c.begun-whole.ensures.keeps
      (further_pass begun ended last c.finished-first.ensures.keeps
      (further_pass ended one last c.flushes.ensures.keeps
      (further_pass one two last c.flushes-2.ensures.keeps
      (further_pass two three last c.flushes-3.ensures.keeps
      (further_pass three four last c.flushes-4.ensures.keeps c.flushes-5.ensures.keeps))))));
  second = (let begun : View = view_of_flight c.begun-partly.result in
      let two_words : View = view_of_flight c.copies.new.flight in
      let three_words : View = view_of_flight c.copies-2.new.flight in
      let back : View = view_of_flight c.handed_back-partly.result in
      let last : View = view_of_pass c.finished.result in
      further_pass (view_of_pass c.args.passes.1) begun last c.begun-partly.ensures.keeps
      (further_pass begun two_words last c.copies.ensures.keeps
      (further_pass two_words three_words last c.copies-2.ensures.keeps
      (further_pass three_words back last c.handed_back-partly.ensures.keeps
      c.finished.ensures.keeps))));
}
