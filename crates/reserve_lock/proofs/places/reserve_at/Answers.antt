use Rattle.std.proofs.Common.{ℕ, ap, arith}
use Rattle.machine_state.specs.Words.{Opening}
use Rattle.wal_rule.specs.SeatedPasses.{view_of}
use Rattle.reserve_lock.proofs.Steps.{known_in}
use Rattle.reserve_lock.proofs.Placing.{has_entry, may_reserve, may_store_prev}
use Rattle.reserve_lock.proofs.places.reserve_at.Goals as goal

pub store_prev-requires-clause-may : goal.store_prev-requires-clause-may
store_prev-requires-clause-may g c =
    let old = c.args.seated.now in
    let load = c.load_prev-prev in
    may_store_prev (view_of old) c.args.at _ (ap (λ (o : Opening). o.setup) old.seated.own)
    c.requires.place load.result (view_of load.new.self) (known_in load.ensures.steps)

pub store_position-requires-clause-may : goal.store_position-requires-clause-may
store_position-requires-clause-may g c =
    let old = c.args.seated.now in
    let load = c.load_prev-prev in
    let kind = c.requires.kind in
    may_reserve (view_of old) c.args.at _ (ap (λ (o : Opening). o.setup) old.seated.own)
    c.requires.place load.result (view_of load.new.self) (known_in load.ensures.steps)
    (view_of c.store_prev.new.self) (known_in c.store_prev.ensures.steps)
    (view_of old).working.locks c.args.body.now kind.0 kind.1 kind.2 _ kind.3
    (c.requires.some, λ (lock : ℕ) among. among) c.requires.landed
    (omega (arith, c.requires.room, c.requires.fits))

pub returns-clause-entry : goal.returns-clause-entry
returns-clause-entry g c =
    let old = c.args.seated.now in
    let load = c.load_prev-prev in
    let kind = c.requires.kind in
    has_entry (view_of old) c.args.at _ (ap (λ (o : Opening). o.setup) old.seated.own)
    c.requires.place load.result (view_of load.new.self) (known_in load.ensures.steps)
    (view_of c.store_prev.new.self) (known_in c.store_prev.ensures.steps)
    (view_of old).working.locks c.args.body.now kind.0 kind.1 kind.2 _ kind.3 _
    (known_in c.store_position.ensures.steps)
