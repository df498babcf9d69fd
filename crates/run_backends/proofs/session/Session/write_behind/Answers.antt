use Rattle.std.specs.Prelude.{Err, Ok}
use Rattle.std.proofs.Common.{refl, sym, ap, ◌∙◌}
use Rattle.wal_types.specs.declared.answers.Hard as hard
use Rattle.wal_rule.specs.Passes.{view_of_pass}
use Rattle.run_laws.specs.declared.told.Told.TheVariants.{Flushed, Idle}
use Rattle.run_backends.specs.Sessions.{view_of_session}
use Rattle.run_backends.proofs.Answering.{behind_leaves_session, behind_never_unreserved, behind_plays_answer}
use Rattle.run_backends.proofs.EndsKept.{told_of_caught}
use Rattle.run_backends.proofs.session.Session.write_behind.Goals as goal

pub refused_flush-requires : goal.refused_flush-requires
refused_flush-requires g c = λ found is.
    behind_never_unreserved (view_of_session c.args.self.now)
    (view_of_pass c.write_behind.new.pass) c.write_behind.result c.write_behind.ensures.catches
    found (c.in-Err.is ∙ ap Err is)

pub returns-in-Ok-Flushed-clause-plays : goal.returns-in-Ok-Flushed-clause-plays
returns-in-Ok-Flushed-clause-plays g c =
    behind_plays_answer c.args.log.now c.args.self.now
    (record { pass = c.write_behind.new.pass; end = c.args.self.now.end }) c.write_behind.new.pass
    c.requires refl c.write_behind.ensures.leaves.keeps c.write_behind.ensures.leaves.pass c.of_flush.result
    c.write_behind.result
    (c.of_flush.ensures
    ∙ ap (λ (h : hard.Hard). Flushed h.upto h.moment) c.in-Ok-Flushed.hard-is
    ∙ ap told_of_caught (sym (c.in-Ok-Flushed.is ∙ ap Ok c.in-Ok-Flushed.field-0-is)))
    c.write_behind.ensures.catches c.write_behind.ensures.leaves.down_again

pub returns-in-Ok-Flushed-clause-leaves : goal.returns-in-Ok-Flushed-clause-leaves
returns-in-Ok-Flushed-clause-leaves g c =
    behind_leaves_session c.args.log.now c.args.self.now
    (record { pass = c.write_behind.new.pass; end = c.args.self.now.end }) c.write_behind.new.pass
    c.requires refl c.write_behind.ensures.leaves.keeps c.write_behind.ensures.leaves.pass c.of_flush.result
    c.write_behind.result
    (c.of_flush.ensures
    ∙ ap (λ (h : hard.Hard). Flushed h.upto h.moment) c.in-Ok-Flushed.hard-is
    ∙ ap told_of_caught (sym (c.in-Ok-Flushed.is ∙ ap Ok c.in-Ok-Flushed.field-0-is)))
    c.write_behind.ensures.catches refl

pub returns-in-Ok-Idle-clause-plays : goal.returns-in-Ok-Idle-clause-plays
returns-in-Ok-Idle-clause-plays g c =
    behind_plays_answer c.args.log.now c.args.self.now
    (record { pass = c.write_behind.new.pass; end = c.args.self.now.end }) c.write_behind.new.pass
    c.requires refl c.write_behind.ensures.leaves.keeps c.write_behind.ensures.leaves.pass
    (Idle c.in-Ok-Idle.upto) c.write_behind.result
    (ap Idle c.in-Ok-Idle.upto-is
    ∙ ap told_of_caught (sym (c.in-Ok-Idle.is ∙ ap Ok c.in-Ok-Idle.field-0-is)))
    c.write_behind.ensures.catches c.write_behind.ensures.leaves.down_again

pub returns-in-Ok-Idle-clause-leaves : goal.returns-in-Ok-Idle-clause-leaves
returns-in-Ok-Idle-clause-leaves g c =
    behind_leaves_session c.args.log.now c.args.self.now
    (record { pass = c.write_behind.new.pass; end = c.args.self.now.end }) c.write_behind.new.pass
    c.requires refl c.write_behind.ensures.leaves.keeps c.write_behind.ensures.leaves.pass
    (Idle c.in-Ok-Idle.upto) c.write_behind.result
    (ap Idle c.in-Ok-Idle.upto-is
    ∙ ap told_of_caught (sym (c.in-Ok-Idle.is ∙ ap Ok c.in-Ok-Idle.field-0-is)))
    c.write_behind.ensures.catches refl

pub returns-in-Err-clause-plays : goal.returns-in-Err-clause-plays
returns-in-Err-clause-plays g c =
    behind_plays_answer c.args.log.now c.args.self.now
    (record { pass = c.write_behind.new.pass; end = c.args.self.now.end }) c.write_behind.new.pass
    c.requires refl c.write_behind.ensures.leaves.keeps c.write_behind.ensures.leaves.pass
    c.refused_flush.result c.write_behind.result
    (c.refused_flush.ensures ∙ ap told_of_caught (sym c.in-Err.is))
    c.write_behind.ensures.catches c.write_behind.ensures.leaves.down_again

pub returns-in-Err-clause-leaves : goal.returns-in-Err-clause-leaves
returns-in-Err-clause-leaves g c =
    behind_leaves_session c.args.log.now c.args.self.now
    (record { pass = c.write_behind.new.pass; end = c.args.self.now.end }) c.write_behind.new.pass
    c.requires refl c.write_behind.ensures.leaves.keeps c.write_behind.ensures.leaves.pass
    c.refused_flush.result c.write_behind.result
    (c.refused_flush.ensures ∙ ap told_of_caught (sym c.in-Err.is))
    c.write_behind.ensures.catches refl
