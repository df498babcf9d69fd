use Rattle.std.proofs.Common.{sym, ap, ◌∙◌}
use Rattle.machine_state.specs.Steps.{load_ring_word, word_of_step}
use Rattle.wal_rule.specs.declared.quiet.Operands.{Operands}
use Rattle.wal_rule.specs.SeatedPasses.{view_of}
use Rattle.wal_rule.specs.WordPlaces.{place_of_word}
use Rattle.wal_rule.proofs.Places.{place_there, there_by}
use Rattle.wal_rule.proofs.seated.SeatedPass.load_ring_word.Goals as goal

pub place_behind-requires : goal.place_behind-requires
place_behind-requires g c =
    let lies = place_there _ _ (c.args.self.now.seat.me).0 _ c.args.self.now.table.now.wide c.args.self.now.seated.own
    c.args.self.now.seated.stands _ c.requires.number in
    record { behind = lies.behind; low = lies.low }

pub loads_at-requires-clause-place : goal.loads_at-requires-clause-place
loads_at-requires-clause-place g c =
    c.place_behind.ensures.place ∙ ap place_of_word c.requires.number
    ∙ ap (λ (o : Operands). place_of_word
    (word_of_step (view_of c.args.self.now) (load_ring_word o.first))) (sym c.one.ensures)

pub loads_at-requires-clause-there : goal.loads_at-requires-clause-there
loads_at-requires-clause-there g c = there_by _ _ _
    (place_there _ _ (c.args.self.now.seat.me).0 _ c.args.self.now.table.now.wide c.args.self.now.seated.own
    c.args.self.now.seated.stands _ c.requires.number)
    c.place_behind.ensures.value
