use Rattle.std.specs.Prelude.{Err}
use Rattle.std.proofs.Common.{refl, sym, subst, ap, ◌∙◌}
use Rattle.wal_types.specs.declared.answers.Refused.{Refused}
use Rattle.run_laws.specs.Answered.{told_of_insert}
use Rattle.run_script.specs.Bodies.{IsBodyOf}
use Rattle.run_backends.proofs.Answering.{insert_leaves_session, insert_plays_answer}
use Rattle.run_backends.proofs.EndsKept.{end_behind, told_of_inserted}
use Rattle.run_backends.proofs.LinePasses.{no_switch}
use Rattle.run_backends.proofs.session.Session.insert.Goals as goal

pub insert-requires-clause-inserted : goal.insert-requires-clause-inserted
insert-requires-clause-inserted g c =
    no_switch c.as_body-lent.result c.requires.record.0
    (subst (IsBodyOf c.requires.record.0) (sym c.as_body-lent.ensures) c.requires.record.1)

pub returns-in-Ok-clause-plays : goal.returns-in-Ok-clause-plays
returns-in-Ok-clause-plays g c = λ value is.
    insert_plays_answer c.args.log.now c.args.self.now c.note.new.self c.insert.new.pass
    c.requires.session c.note.ensures.pass c.insert.ensures.leaves.keeps c.insert.ensures.leaves.pass
    c.of_insert.result c.as_body-lent.result c.insert.result
    (c.of_insert.ensures ∙ ap told_of_inserted (sym c.in-Ok.is)) c.insert.ensures.inserts
    c.body_knows_its_record.ensures c.insert.ensures.leaves.down_again c.insert.ensures.async_met
    value (subst (IsBodyOf value) (sym c.as_body-lent.ensures) is)

pub returns-in-Ok-clause-leaves : goal.returns-in-Ok-clause-leaves
returns-in-Ok-clause-leaves g c =
    insert_leaves_session c.args.log.now c.args.self.now c.note.new.self c.insert.new.pass
    c.requires.session c.note.ensures.pass c.insert.ensures.leaves.keeps c.insert.ensures.leaves.pass
    c.of_insert.result c.as_body-lent.result c.insert.result
    (c.of_insert.ensures ∙ ap told_of_inserted (sym c.in-Ok.is)) c.insert.ensures.inserts
    (c.note.ensures.end ∙ ap (end_behind c.args.self.now.end.0) (sym c.of_insert.ensures))

pub returns-clause-plays : goal.returns-clause-plays
returns-clause-plays g c = λ value is.
    insert_plays_answer c.args.log.now c.args.self.now
    (record { pass = c.insert.new.pass; end = c.args.self.now.end }) c.insert.new.pass
    c.requires.session refl c.insert.ensures.leaves.keeps c.insert.ensures.leaves.pass c.of_insert-in-Err.result
    c.as_body-lent.result c.insert.result
    (c.of_insert-in-Err.ensures ∙ ap (λ (r : Refused). told_of_insert (Err r)) c.into.ensures
    ∙ ap told_of_inserted (sym c.in-Err.is)) c.insert.ensures.inserts
    c.body_knows_its_record.ensures c.insert.ensures.leaves.down_again c.insert.ensures.async_met
    value (subst (IsBodyOf value) (sym c.as_body-lent.ensures) is)

pub returns-clause-leaves : goal.returns-clause-leaves
returns-clause-leaves g c =
    insert_leaves_session c.args.log.now c.args.self.now
    (record { pass = c.insert.new.pass; end = c.args.self.now.end }) c.insert.new.pass
    c.requires.session refl c.insert.ensures.leaves.keeps c.insert.ensures.leaves.pass c.of_insert-in-Err.result
    c.as_body-lent.result c.insert.result
    (c.of_insert-in-Err.ensures ∙ ap (λ (r : Refused). told_of_insert (Err r)) c.into.ensures
    ∙ ap told_of_inserted (sym c.in-Err.is)) c.insert.ensures.inserts
    (ap (end_behind c.args.self.now.end.0) (sym c.of_insert-in-Err.ensures))
