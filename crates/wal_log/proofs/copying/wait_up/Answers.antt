use Rattle.std.proofs.Common.{ap}
use Rattle.machine_state.specs.Views.{View}
use Rattle.wal_rule.specs.SeatedPasses.{view_of}
use Rattle.wal_log.proofs.Keeping.{down_met_keeps, none_loaded}
use Rattle.wal_log.proofs.Seated.{seat_stays, view_is}
use Rattle.wal_log.proofs.WaitLaws.{up_loaded}
use Rattle.wal_log.proofs.copying.wait_up.Goals as goal

pub returns-then-faults-ne0-clause-stays : goal.returns-then-faults-ne0-clause-stays
returns-then-faults-ne0-clause-stays g c =
    let load = c.load_down-faults in record {
      stays = seat_stays load.ensures.steps;
      work = down_met_keeps (view_of c.args.seated.now) load.result (view_of load.new.self)
          (view_is load.ensures.steps) load.ensures.known;
      hold = ap (λ (v : View). v.writing.hold) (view_is load.ensures.steps);
    }

pub returns-clause-stays : goal.returns-clause-stays
returns-clause-stays g c =
    let load = c.load_down-faults in record {
      stays = seat_stays load.ensures.steps;
      work = down_met_keeps (view_of c.args.seated.now) load.result (view_of load.new.self)
          (view_is load.ensures.steps) load.ensures.known;
      hold = ap (λ (v : View). v.writing.hold) (view_is load.ensures.steps);
    }

pub returns-clause-ends : goal.returns-clause-ends
returns-clause-ends g c =
    let load = c.load_down-faults in
    let old = view_of c.args.seated.now in
    let new = view_of load.new.self in
    let is = view_is load.ensures.steps in
    let zero = c.if-faults-ne0.false in (
      none_loaded old load.result new is load.ensures.known zero,
      up_loaded old new load.result is load.ensures.known load.ensures.met zero,
    )
