use Rattle.std.specs.Prelude.{Err}
use Rattle.std.proofs.Common.{refl, sym, ap, ◌∙◌}
use Rattle.wal_rule.specs.Passes.{view_of_pass}
use Rattle.run_backends.proofs.Answering.{flush_leaves_session, flush_plays_answer, session_never_unreserved}
use Rattle.run_backends.proofs.EndsKept.{told_of_flushed}
use Rattle.run_backends.proofs.session.Session.flush.Goals as goal

pub refused_flush-requires : goal.refused_flush-requires
refused_flush-requires g c = λ found is.
    session_never_unreserved c.args.log.now c.args.self.now c.requires c.flush.result
    (view_of_pass c.flush.new.pass) c.flush.ensures.flushes found (c.in-Err.is ∙ ap Err is)

pub returns-in-Ok-clause-plays : goal.returns-in-Ok-clause-plays
returns-in-Ok-clause-plays g c =
    flush_plays_answer c.args.log.now c.args.self.now
    (record { pass = c.flush.new.pass; end = c.args.self.now.end }) c.flush.new.pass c.requires
    refl c.flush.ensures.leaves.keeps c.flush.ensures.leaves.pass c.of_flush.result c.flush.result
    (c.of_flush.ensures ∙ ap told_of_flushed (sym c.in-Ok.is)) c.flush.ensures.flushes
    c.flush.ensures.leaves.down_again

pub returns-in-Ok-clause-leaves : goal.returns-in-Ok-clause-leaves
returns-in-Ok-clause-leaves g c =
    flush_leaves_session c.args.log.now c.args.self.now
    (record { pass = c.flush.new.pass; end = c.args.self.now.end }) c.flush.new.pass c.requires
    refl c.flush.ensures.leaves.keeps c.flush.ensures.leaves.pass c.of_flush.result c.flush.result
    (c.of_flush.ensures ∙ ap told_of_flushed (sym c.in-Ok.is)) c.flush.ensures.flushes refl

pub returns-in-Err-clause-plays : goal.returns-in-Err-clause-plays
returns-in-Err-clause-plays g c =
    flush_plays_answer c.args.log.now c.args.self.now
    (record { pass = c.flush.new.pass; end = c.args.self.now.end }) c.flush.new.pass c.requires
    refl c.flush.ensures.leaves.keeps c.flush.ensures.leaves.pass c.refused_flush.result c.flush.result
    (c.refused_flush.ensures ∙ ap told_of_flushed (sym c.in-Err.is)) c.flush.ensures.flushes
    c.flush.ensures.leaves.down_again

pub returns-in-Err-clause-leaves : goal.returns-in-Err-clause-leaves
returns-in-Err-clause-leaves g c =
    flush_leaves_session c.args.log.now c.args.self.now
    (record { pass = c.flush.new.pass; end = c.args.self.now.end }) c.flush.new.pass c.requires
    refl c.flush.ensures.leaves.keeps c.flush.ensures.leaves.pass c.refused_flush.result c.flush.result
    (c.refused_flush.ensures ∙ ap told_of_flushed (sym c.in-Err.is)) c.flush.ensures.flushes refl
