use Rattle.std.proofs.Common.{◌≡◌, ℕ, sym, ap, subst, ◌∙◌}
use Rattle.wal_page.specs.Placed.{PlacedState, entry_word, placed_word}
use Rattle.machine_turns.specs.declared.view.PlainFlight.{PlainFlight}
use Rattle.machine_turns.specs.Lanes.{word_of_body}
use Rattle.machine_turns.proofs.view.PlainFlight.word_of.Goals as goal

pub returns-in-Copying : goal.returns-in-Copying
returns-in-Copying c =
    let at = c.in-Copying in
    let body = c.args.body.now in
    subst (λ (f : PlainFlight). c.word_due.result ≡ word_of_body c.args.shape.now body f) (sym at.is)
    (c.word_due.ensures ∙ ap (λ (p : PlacedState). placed_word p p.next) c.at-placed.ensures
    ∙ ap (λ (size : ℕ). entry_word size c.sysid.result body at.start at.prev at.next) c.geometry.ensures
    ∙ ap (λ (sysid : ℕ). entry_word c.args.shape.now.seg_size sysid body at.start at.prev at.next) c.sysid.ensures)
