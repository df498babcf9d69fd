use Rattle.std.proofs.Common.{ap, ◌∙◌}
use Rattle.wal_rule.specs.WordPlaces.{place_of_word}
use Rattle.wal_rule.proofs.Places.{zero_there, there_by}
use Rattle.wal_rule.proofs.seated.SeatedPass.zero_ring_word.Goals as goal

pub place_behind-requires : goal.place_behind-requires
place_behind-requires g c =
    let lies = zero_there _ _ (c.args.self.now.seat.me).0 _ c.args.self.now.table.now.wide c.args.self.now.seated.own
    c.args.self.now.seated.stands c.requires.may c.requires.number in
    record { behind = lies.behind; low = lies.low }

pub stores_at-requires-clause-place : goal.stores_at-requires-clause-place
stores_at-requires-clause-place g c =
    c.place_behind.ensures.place ∙ ap place_of_word c.requires.number

pub stores_at-requires-clause-there : goal.stores_at-requires-clause-there
stores_at-requires-clause-there g c = there_by _ _ _
    (zero_there _ _ (c.args.self.now.seat.me).0 _ c.args.self.now.table.now.wide c.args.self.now.seated.own
    c.args.self.now.seated.stands c.requires.may c.requires.number)
    c.place_behind.ensures.value
