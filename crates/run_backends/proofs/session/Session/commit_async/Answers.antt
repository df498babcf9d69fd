use Rattle.std.specs.Prelude.{Err}
use Rattle.std.proofs.Common.{refl, sym, subst, ap, ◌∙◌}
use Rattle.wal_types.specs.declared.answers.Refused.{Refused}
use Rattle.run_laws.specs.Answered.{told_of_commit_async}
use Rattle.run_script.specs.Bodies.{IsBodyOf}
use Rattle.run_backends.proofs.Answering.{ahead_leaves_session, ahead_plays_answer}
use Rattle.run_backends.proofs.EndsKept.{end_behind, told_of_ahead}
use Rattle.run_backends.proofs.LinePasses.{no_switch}
use Rattle.run_backends.proofs.session.Session.commit_async.Goals as goal

pub commit_async-requires-clause-inserted : goal.commit_async-requires-clause-inserted
commit_async-requires-clause-inserted g c =
    no_switch c.as_body-lent.result c.requires.record.0
    (subst (IsBodyOf c.requires.record.0) (sym c.as_body-lent.ensures) c.requires.record.1)

pub returns-in-Ok-clause-plays : goal.returns-in-Ok-clause-plays
returns-in-Ok-clause-plays g c = λ value is.
    ahead_plays_answer c.args.log.now c.args.self.now c.note.new.self c.commit_async.new.pass
    c.requires.session c.note.ensures.pass c.commit_async.ensures.leaves.keeps c.commit_async.ensures.leaves.pass
    c.of_commit_async.result c.as_body-lent.result c.commit_async.result
    (c.of_commit_async.ensures ∙ ap told_of_ahead (sym c.in-Ok.is)) c.commit_async.ensures.inserts
    c.body_knows_its_record.ensures c.commit_async.ensures.counts
    c.commit_async.ensures.leaves.down_again
    value (subst (IsBodyOf value) (sym c.as_body-lent.ensures) is)

pub returns-in-Ok-clause-leaves : goal.returns-in-Ok-clause-leaves
returns-in-Ok-clause-leaves g c =
    ahead_leaves_session c.args.log.now c.args.self.now c.note.new.self c.commit_async.new.pass
    c.requires.session c.note.ensures.pass c.commit_async.ensures.leaves.keeps c.commit_async.ensures.leaves.pass
    c.of_commit_async.result c.as_body-lent.result c.commit_async.result
    (c.of_commit_async.ensures ∙ ap told_of_ahead (sym c.in-Ok.is)) c.commit_async.ensures.inserts
    (c.note.ensures.end ∙ ap (end_behind c.args.self.now.end.0) (sym c.of_commit_async.ensures))

pub returns-clause-plays : goal.returns-clause-plays
returns-clause-plays g c = λ value is.
    ahead_plays_answer c.args.log.now c.args.self.now
    (record { pass = c.commit_async.new.pass; end = c.args.self.now.end }) c.commit_async.new.pass
    c.requires.session refl c.commit_async.ensures.leaves.keeps c.commit_async.ensures.leaves.pass c.of_commit_async-in-Err.result
    c.as_body-lent.result c.commit_async.result
    (c.of_commit_async-in-Err.ensures ∙ ap (λ (r : Refused). told_of_commit_async (Err r)) c.into.ensures
    ∙ ap told_of_ahead (sym c.in-Err.is)) c.commit_async.ensures.inserts
    c.body_knows_its_record.ensures c.commit_async.ensures.counts
    c.commit_async.ensures.leaves.down_again
    value (subst (IsBodyOf value) (sym c.as_body-lent.ensures) is)

pub returns-clause-leaves : goal.returns-clause-leaves
returns-clause-leaves g c =
    ahead_leaves_session c.args.log.now c.args.self.now
    (record { pass = c.commit_async.new.pass; end = c.args.self.now.end }) c.commit_async.new.pass
    c.requires.session refl c.commit_async.ensures.leaves.keeps c.commit_async.ensures.leaves.pass c.of_commit_async-in-Err.result
    c.as_body-lent.result c.commit_async.result
    (c.of_commit_async-in-Err.ensures ∙ ap (λ (r : Refused). told_of_commit_async (Err r)) c.into.ensures
    ∙ ap told_of_ahead (sym c.in-Err.is)) c.commit_async.ensures.inserts
    (ap (end_behind c.args.self.now.end.0) (sym c.of_commit_async-in-Err.ensures))
