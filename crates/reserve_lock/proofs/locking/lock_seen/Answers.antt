use Rattle.std.proofs.Common.{ap, arith}
use Rattle.machine_state.specs.Words.{Opening}
use Rattle.wal_rule.specs.SeatedPasses.{view_of}
use Rattle.reserve_lock.proofs.Steps.{known_in}
use Rattle.reserve_lock.proofs.Tries.{found_moved, is_locked}
use Rattle.reserve_lock.proofs.locking.lock_seen.Goals as goal

pub returns-then-met-loaded-clause-locked : goal.returns-then-met-loaded-clause-locked
returns-then-met-loaded-clause-locked g c =
    let old = c.args.seated.now in
    let load = c.load_position-loaded in
    let lock = c.lock_position-met in
    is_locked load.result (view_of old) (view_of load.new.self)
    (known_in load.ensures.steps) load.ensures.met
    lock.result (view_of lock.new.self) (known_in lock.ensures.steps)
    (omega (arith, c.if-loaded-eq1.false)) _ (ap (λ (o : Opening). o.setup) old.seated.own)
    c.if-met-loaded.true lock.new.self.seated.live lock.new.self.seated.stands

pub returns-else-met-loaded-clause-busy : goal.returns-else-met-loaded-clause-busy
returns-else-met-loaded-clause-busy g c =
    let load = c.load_position-loaded in
    let lock = c.lock_position-met in
    found_moved load.result (view_of c.args.seated.now) (view_of load.new.self)
    (known_in load.ensures.steps) load.ensures.met
    lock.result (view_of lock.new.self) (known_in lock.ensures.steps)
    (omega (arith, c.if-loaded-eq1.false)) c.if-met-loaded.false lock.ensures.met
