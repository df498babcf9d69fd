use Rattle.wal_rule.specs.SeatedPasses.{view_of}
use Rattle.word_ring.proofs.Steps.{maps_ahead, maps_beside_turn, maps_nothing, maps_with_turn, view_is}
use Rattle.word_ring.proofs.mapping.map_ahead.Goals as goal

pub returns-then-turn-ne0-clause-maps : goal.returns-then-turn-ne0-clause-maps
returns-then-turn-ne0-clause-maps g c =
    maps_nothing (view_of c.args.seated.now) (view_of c.take_turn-turn.new.seated)
    (view_is _ _ _ (c.take_turn-turn.ensures.vain c.if-turn-ne0.true))

pub returns-clause-maps : goal.returns-clause-maps
returns-clause-maps g c =
    maps_with_turn c.args.seated.now c.take_turn-turn.new.seated c.map_on.new.seated
    c.requires.away (c.take_turn-turn.ensures.taken c.if-turn-ne0.false) c.map_on.ensures.view

pub returns-then-turn-ne0-clause-ahead : goal.returns-then-turn-ne0-clause-ahead
returns-then-turn-ne0-clause-ahead g c =
    maps_beside_turn c.args.seated.now c.take_turn-turn.new.seated c.args.most
    c.take_turn-turn.result c.if-turn-ne0.true c.take_turn-turn.ensures.met
    (view_is _ _ _ (c.take_turn-turn.ensures.vain c.if-turn-ne0.true))

pub returns-clause-ahead : goal.returns-clause-ahead
returns-clause-ahead g c =
    maps_ahead c.args.seated.now c.take_turn-turn.new.seated c.map_on.new.seated c.args.most
    c.take_turn-turn.result c.if-turn-ne0.false c.take_turn-turn.ensures.met
    (c.take_turn-turn.ensures.taken c.if-turn-ne0.false) c.map_on.ensures.many
