use Rattle.std.proofs.Common.{◌≡◌, refl, arith}
use Rattle.wal_page.specs.Placed.{placed_end}
use Rattle.wal_log.proofs.FlightLaws.{flight_ended, flight_finishes, flight_locks, flight_whole}
use Rattle.wal_log.proofs.in_flight.Inflight.finish.Given.{Over}
use Rattle.wal_log.proofs.in_flight.Inflight.finish.Goals as goal
use Rattle.wal_log.proofs.in_flight.Inflight.finish.Goals.{After-seat-seated}

ended : (g : Over) (c : After-seat-seated g)
    → c.args.self.begun.placed.next ≡ placed_end c.args.self.begun.placed
ended g c =
    let far = c.if-next_lsn-self.false in
    let next = c.next_lsn.ensures in
    let end = c.requires.flight.end_is in
    flight_ended c.args.wal.now c.args.self c.requires.flight c.seat-seated.result
    c.seat-seated.ensures.view c.seat-seated.ensures.table (omega (arith, far, next, end))

pub release_held-requires-clause-locks : goal.release_held-requires-clause-locks
release_held-requires-clause-locks g c = c.requires.flight.are

pub release_held-requires-clause-holds : goal.release_held-requires-clause-holds
release_held-requires-clause-holds g c = flight_locks c.args.wal.now c.args.self c.requires.flight
    c.seat-seated.result c.seat-seated.ensures.view c.seat-seated.ensures.table
    (ended g (goal.at.release_held-requires-clause-holds g c).After-seat-seated)

pub release_held-requires-clause-left : goal.release_held-requires-clause-left
release_held-requires-clause-left g c = flight_whole c.args.wal.now c.args.self c.requires.flight
    c.seat-seated.result c.seat-seated.ensures.view c.seat-seated.ensures.table
    (ended g (goal.at.release_held-requires-clause-left g c).After-seat-seated)

pub returns : goal.returns
returns g c = record {
  finishes = flight_finishes c.args.wal.now c.args.self c.requires.flight c.seat-seated.result
      c.seat-seated.ensures.view c.seat-seated.ensures.table
      (ended g (goal.at.returns g c).After-seat-seated) c.release_held.new.seated
      c.release_held.ensures.view c.put_back.new.self c.put_back.ensures.view
      c.put_back.ensures.pass
      (record { start = c.args.self.begun.start; end = c.args.self.begun.end }) refl refl;
}
