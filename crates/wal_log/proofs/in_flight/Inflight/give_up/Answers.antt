use Rattle.wal_log.proofs.FlightLaws.{flight_comes_back, flight_given_up, flight_strands}
use Rattle.wal_log.proofs.in_flight.Inflight.give_up.Goals as goal

pub returns-then-faults-eq0 : goal.returns-then-faults-eq0
returns-then-faults-eq0 g c = record {
  gives_up = flight_comes_back c.args.wal.now c.args.self c.requires.flight c.seat-seated.result
      c.seat-seated.ensures.view c.seat-seated.ensures.table c.load_down-faults.result
      c.load_down-faults.new.self c.load_down-faults.ensures.steps
      c.load_down-faults.ensures.known c.load_down-faults.ensures.met c.if-faults-eq0.true
      c.put_back.new.self c.put_back.ensures.view c.put_back.ensures.pass;
}

pub give_up-requires : goal.give_up-requires
give_up-requires g c = record {
  stranded = flight_strands c.args.wal.now c.args.self c.requires.flight c.seat-seated.result
      c.seat-seated.ensures.view c.seat-seated.ensures.table c.load_down-faults.result
      c.load_down-faults.new.self c.load_down-faults.ensures.steps
      c.load_down-faults.ensures.known c.load_down-faults.ensures.met c.if-faults-eq0.false;
}

pub returns : goal.returns
returns g c = record {
  gives_up = flight_given_up c.args.wal.now c.args.self c.requires.flight c.seat-seated.result
      c.seat-seated.ensures.view c.seat-seated.ensures.table c.load_down-faults.result
      c.load_down-faults.new.self c.load_down-faults.ensures.steps
      c.load_down-faults.ensures.known c.load_down-faults.ensures.met c.if-faults-eq0.false
      c.give_up.new.self c.give_up.ensures.view c.put_back-2.new.self c.put_back-2.ensures.view
      c.put_back-2.ensures.pass;
}
