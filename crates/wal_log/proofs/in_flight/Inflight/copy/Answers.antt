use Rattle.wal_rule.specs.SeatedPasses.{view_of}
use Rattle.wal_log.specs.Copying.{CopiesFront}
use Rattle.wal_log.proofs.FlightLaws.{flight_copies, flight_goes_on, moved}
use Rattle.wal_log.proofs.in_flight.Inflight.copy.Goals as goal

pub copy_front-copied-requires-clause-copies : goal.copy_front-copied-requires-clause-copies
copy_front-copied-requires-clause-copies g c = flight_copies c.args.wal.now c.args.self.now
    c.requires.flight c.seat-seated.result c.seat-seated.ensures.view c.seat-seated.ensures.table

pub returns-clause-flight : goal.returns-clause-flight
returns-clause-flight g c = flight_goes_on c.args.wal.now c.args.self.now c.requires.flight
    c.seat-seated.result c.seat-seated.ensures.view c.seat-seated.ensures.table
    c.copy_front-copied.new.placed c.copy_front-copied.new.seated
    c.copy_front-copied.ensures.copies c.copy_front-copied.ensures.copies_on c.put_back.new.self
    c.put_back.ensures.view c.put_back.ensures.pass

pub returns-clause-copies : goal.returns-clause-copies
returns-clause-copies g c =
    moved c.args.wal.now c.args.self.now.pass c.seat-seated.result c.seat-seated.ensures.view
    c.seat-seated.ensures.table
    (λ setup old new. CopiesFront setup c.args.n c.args.self.now.begun.placed
    c.copy_front-copied.new.placed old new c.copy_front-copied.result)
    (view_of c.copy_front-copied.new.seated) c.put_back.new.self c.put_back.ensures.view
    c.copy_front-copied.ensures.tells
