use Rattle.std.proofs.Common.{ap, ◌∙◌}
use Rattle.wal_rule.specs.WordPlaces.{place_of_word}
use Rattle.wal_rule.proofs.Places.{end_there, there_by}
use Rattle.wal_rule.proofs.seated.SeatedPass.publish_end.Goals as goal

pub place_behind-requires : goal.place_behind-requires
place_behind-requires g c =
    let lies = end_there _ _ (c.args.self.now.seat.me).0 _ c.args.self.now.table.now.wide c.args.self.now.seated.own
    c.args.self.now.seated.stands _ c.requires.end in
    record { behind = lies.behind; low = lies.low }

pub stores-requires-clause-place : goal.stores-requires-clause-place
stores-requires-clause-place g c =
    c.place_behind.ensures.place ∙ ap place_of_word c.requires.end

pub stores-requires-clause-there : goal.stores-requires-clause-there
stores-requires-clause-there g c = there_by _ _ _
    (end_there _ _ (c.args.self.now.seat.me).0 _ c.args.self.now.table.now.wide c.args.self.now.seated.own
    c.args.self.now.seated.stands _ c.requires.end)
    c.place_behind.ensures.value
