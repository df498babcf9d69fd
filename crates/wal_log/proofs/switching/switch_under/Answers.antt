use Rattle.wal_rule.specs.SeatedPasses.{setup_of, view_of}
use Rattle.wal_log.proofs.SwitchLaws.{switch_done}
use Rattle.wal_log.proofs.switching.switch_under.Goals as goal

pub returns-in-Ok-clause-switches : goal.returns-in-Ok-clause-switches
returns-in-Ok-clause-switches g c =
    let begun = rw c.in-Ok-Switched.field-0-is at c.in-Ok-Switched.ensures.reserves in
    let lands = c.in-Ok.ensures.lands begun.place.entry begun.place.in_flight in
    switch_done (setup_of c.args.seated.now) c.args.body.now (view_of c.args.seated.now)
    (view_of c.reserve.new.seated) (view_of c.land.new.seated) c.in-Ok-Switched.reserved begun
    c.reserve.ensures.goes_on.keeps c.land.ensures.rests.keeps c.land.ensures.log lands.0 lands.1
