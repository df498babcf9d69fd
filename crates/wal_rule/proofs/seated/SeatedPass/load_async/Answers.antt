use Rattle.std.proofs.Common.{ℕ, ◌+◌, ◌*◌, sym, ap, ◌∙◌}
use Rattle.machine_state.specs.Words.{Opening, async_number, ends_number}
use Rattle.machine_state.specs.declared.setup.Setup.{Setup}
use Rattle.wal_rule.specs.WordPlaces.{place_of_word}
use Rattle.wal_rule.proofs.MetNumbers.{async_rises}
use Rattle.wal_rule.proofs.Places.{async_there, there_by}
use Rattle.wal_rule.proofs.seated.SeatedPass.load_async.Goals as goal

pub place_behind-requires : goal.place_behind-requires
place_behind-requires g c =
    let lies = async_there _ _ (c.args.self.now.seat.me).0 _ c.args.self.now.table.now.wide c.args.self.now.seated.own
    c.args.self.now.seated.stands
    (c.async_number-number.ensures ∙ ap (λ (n : ℕ). ends_number + n + n * 1024)
    (c.ring_pages.ensures.pages ∙ ap (λ (s : Setup). s.ring_pages) c.shape.ensures)) in
    record { behind = lies.behind; low = lies.low }

pub loads-requires-clause-place : goal.loads-requires-clause-place
loads-requires-clause-place g c = c.place_behind.ensures.place
    ∙ ap place_of_word (c.async_number-number.ensures ∙ ap (λ (n : ℕ). ends_number + n + n * 1024)
    (c.ring_pages.ensures.pages ∙ ap (λ (s : Setup). s.ring_pages) c.shape.ensures))
    ∙ ap (λ (o : Opening). place_of_word (async_number o.setup))
    (sym c.args.self.now.seated.own)

pub loads-requires-clause-there : goal.loads-requires-clause-there
loads-requires-clause-there g c = there_by _ _ _
    (async_there _ _ (c.args.self.now.seat.me).0 _ c.args.self.now.table.now.wide c.args.self.now.seated.own
    c.args.self.now.seated.stands
    (c.async_number-number.ensures ∙ ap (λ (n : ℕ). ends_number + n + n * 1024)
    (c.ring_pages.ensures.pages ∙ ap (λ (s : Setup). s.ring_pages) c.shape.ensures)))
    c.place_behind.ensures.value

pub returns-clause-furthest : goal.returns-clause-furthest
returns-clause-furthest g c =
    async_rises c.args.self.now.seat.me.0 c.loads.result c.loads.ensures.met
