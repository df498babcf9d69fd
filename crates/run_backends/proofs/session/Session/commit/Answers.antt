use Rattle.std.proofs.Common.{refl, sym, subst, ap, ◌∙◌}
use Rattle.run_laws.specs.Answered.{told_of_commit}
use Rattle.run_script.specs.Bodies.{IsBodyOf}
use Rattle.run_backends.proofs.Answering.{commit_leaves_session, commit_plays_answer}
use Rattle.run_backends.proofs.EndsKept.{end_behind}
use Rattle.run_backends.proofs.LinePasses.{no_switch}
use Rattle.run_backends.proofs.session.Session.commit.Goals as goal

pub commit-requires-clause-inserted : goal.commit-requires-clause-inserted
commit-requires-clause-inserted g c =
    no_switch c.as_body-lent.result c.requires.record.0
    (subst (IsBodyOf c.requires.record.0) (sym c.as_body-lent.ensures) c.requires.record.1)

pub returns-in-Ok-clause-plays : goal.returns-in-Ok-clause-plays
returns-in-Ok-clause-plays g c = λ value is.
    commit_plays_answer c.args.log.now c.args.self.now c.note.new.self c.commit.new.pass
    c.requires.session c.note.ensures.pass c.commit.ensures.leaves.keeps c.commit.ensures.leaves.pass
    c.of_commit.result c.as_body-lent.result c.commit.result
    (c.of_commit.ensures ∙ ap told_of_commit (sym c.in-Ok.is)) c.commit.ensures.commits
    c.body_knows_its_record.ensures c.commit.ensures.leaves.down_again c.commit.ensures.async_met
    value (subst (IsBodyOf value) (sym c.as_body-lent.ensures) is)

pub returns-in-Ok-clause-leaves : goal.returns-in-Ok-clause-leaves
returns-in-Ok-clause-leaves g c =
    commit_leaves_session c.args.log.now c.args.self.now c.note.new.self c.commit.new.pass
    c.requires.session c.note.ensures.pass c.commit.ensures.leaves.keeps c.commit.ensures.leaves.pass
    c.of_commit.result c.as_body-lent.result c.commit.result
    (c.of_commit.ensures ∙ ap told_of_commit (sym c.in-Ok.is)) c.commit.ensures.commits
    (c.note.ensures.end ∙ ap (end_behind c.args.self.now.end.0) (sym c.of_commit.ensures))

pub returns-clause-plays : goal.returns-clause-plays
returns-clause-plays g c = λ value is.
    commit_plays_answer c.args.log.now c.args.self.now
    (record { pass = c.commit.new.pass; end = c.args.self.now.end }) c.commit.new.pass
    c.requires.session refl c.commit.ensures.leaves.keeps c.commit.ensures.leaves.pass c.of_commit-in-Err.result
    c.as_body-lent.result c.commit.result
    (c.of_commit-in-Err.ensures ∙ ap told_of_commit (sym c.in-Err.is)) c.commit.ensures.commits
    c.body_knows_its_record.ensures c.commit.ensures.leaves.down_again c.commit.ensures.async_met
    value (subst (IsBodyOf value) (sym c.as_body-lent.ensures) is)

pub returns-clause-leaves : goal.returns-clause-leaves
returns-clause-leaves g c =
    commit_leaves_session c.args.log.now c.args.self.now
    (record { pass = c.commit.new.pass; end = c.args.self.now.end }) c.commit.new.pass
    c.requires.session refl c.commit.ensures.leaves.keeps c.commit.ensures.leaves.pass c.of_commit-in-Err.result
    c.as_body-lent.result c.commit.result
    (c.of_commit-in-Err.ensures ∙ ap told_of_commit (sym c.in-Err.is)) c.commit.ensures.commits
    (ap (end_behind c.args.self.now.end.0) (sym c.of_commit-in-Err.ensures))
