use Rattle.std.specs.Prelude.{Err, Ok}
use Rattle.std.proofs.Common.{refl, sym, ap, ap₂, ◌∙◌}
use Rattle.wal_types.specs.declared.answers.Refused.{Refused}
use Rattle.run_laws.specs.Answered.{told_of_insert}
use Rattle.run_laws.specs.declared.told.Told.TheVariants.{Switched, Stayed}
use Rattle.run_backends.proofs.Answering.{switch_leaves_session, switch_plays_answer}
use Rattle.run_backends.proofs.EndsKept.{end_behind, told_of_switched}
use Rattle.run_backends.proofs.session.Session.switch.Goals as goal

pub returns-in-Ok-Done-clause-plays : goal.returns-in-Ok-Done-clause-plays
returns-in-Ok-Done-clause-plays g c =
    switch_plays_answer c.args.log.now c.args.self.now c.note.new.self
    c.switch.new.pass c.requires.session c.note.ensures.pass c.switch.ensures.leaves.keeps
    c.switch.ensures.leaves.pass
    (Switched c.in-Ok-Done.start c.in-Ok-Done.end) c.as_body-lent.result c.switch.result
    (ap₂ Switched c.in-Ok-Done.start-is c.in-Ok-Done.end-is
    ∙ ap told_of_switched (sym (c.in-Ok-Done.is ∙ ap Ok c.in-Ok-Done.field-0-is)))
    c.switch.ensures.switches (c.as_body-lent.ensures ∙ c.requires.record) c.switch.ensures.leaves.down_again

pub returns-in-Ok-Done-clause-leaves : goal.returns-in-Ok-Done-clause-leaves
returns-in-Ok-Done-clause-leaves g c =
    switch_leaves_session c.args.log.now c.args.self.now c.note.new.self
    c.switch.new.pass c.requires.session c.note.ensures.pass c.switch.ensures.leaves.keeps
    c.switch.ensures.leaves.pass
    (Switched c.in-Ok-Done.start c.in-Ok-Done.end) c.as_body-lent.result c.switch.result
    (ap₂ Switched c.in-Ok-Done.start-is c.in-Ok-Done.end-is
    ∙ ap told_of_switched (sym (c.in-Ok-Done.is ∙ ap Ok c.in-Ok-Done.field-0-is)))
    c.switch.ensures.switches c.note.ensures.end

pub returns-in-Ok-Stayed-clause-plays : goal.returns-in-Ok-Stayed-clause-plays
returns-in-Ok-Stayed-clause-plays g c =
    switch_plays_answer c.args.log.now c.args.self.now
    (record { pass = c.switch.new.pass; end = c.args.self.now.end }) c.switch.new.pass
    c.requires.session refl c.switch.ensures.leaves.keeps c.switch.ensures.leaves.pass
    (Stayed c.in-Ok-Stayed.end) c.as_body-lent.result c.switch.result
    (ap Stayed c.in-Ok-Stayed.end-is
    ∙ ap told_of_switched (sym (c.in-Ok-Stayed.is ∙ ap Ok c.in-Ok-Stayed.field-0-is)))
    c.switch.ensures.switches (c.as_body-lent.ensures ∙ c.requires.record) c.switch.ensures.leaves.down_again

pub returns-in-Ok-Stayed-clause-leaves : goal.returns-in-Ok-Stayed-clause-leaves
returns-in-Ok-Stayed-clause-leaves g c =
    switch_leaves_session c.args.log.now c.args.self.now
    (record { pass = c.switch.new.pass; end = c.args.self.now.end }) c.switch.new.pass
    c.requires.session refl c.switch.ensures.leaves.keeps c.switch.ensures.leaves.pass
    (Stayed c.in-Ok-Stayed.end) c.as_body-lent.result c.switch.result
    (ap Stayed c.in-Ok-Stayed.end-is
    ∙ ap told_of_switched (sym (c.in-Ok-Stayed.is ∙ ap Ok c.in-Ok-Stayed.field-0-is)))
    c.switch.ensures.switches refl

pub returns-clause-plays : goal.returns-clause-plays
returns-clause-plays g c =
    switch_plays_answer c.args.log.now c.args.self.now
    (record { pass = c.switch.new.pass; end = c.args.self.now.end }) c.switch.new.pass
    c.requires.session refl c.switch.ensures.leaves.keeps c.switch.ensures.leaves.pass
    c.of_refusal.result c.as_body-lent.result c.switch.result
    (c.of_refusal.ensures ∙ ap (λ (r : Refused). told_of_insert (Err r)) c.into.ensures
    ∙ ap told_of_switched (sym c.in-Err.is))
    c.switch.ensures.switches (c.as_body-lent.ensures ∙ c.requires.record) c.switch.ensures.leaves.down_again

pub returns-clause-leaves : goal.returns-clause-leaves
returns-clause-leaves g c =
    switch_leaves_session c.args.log.now c.args.self.now
    (record { pass = c.switch.new.pass; end = c.args.self.now.end }) c.switch.new.pass
    c.requires.session refl c.switch.ensures.leaves.keeps c.switch.ensures.leaves.pass
    c.of_refusal.result c.as_body-lent.result c.switch.result
    (c.of_refusal.ensures ∙ ap (λ (r : Refused). told_of_insert (Err r)) c.into.ensures
    ∙ ap told_of_switched (sym c.in-Err.is))
    c.switch.ensures.switches (ap (end_behind c.args.self.now.end.0) (sym c.of_refusal.ensures))
