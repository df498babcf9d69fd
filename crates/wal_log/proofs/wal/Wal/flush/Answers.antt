use Rattle.std.proofs.Common.{◌≡◌}
use Rattle.machine_state.specs.Views.{View}
use Rattle.machine_state.specs.declared.setup.Setup.{Setup}
use Rattle.wal_rule.specs.Passes.{view_of_pass}
use Rattle.wal_rule.specs.SeatedPasses.{setup_of, view_of}
use Rattle.wal_log.specs.Flushing.{AnswersFlush, FlushesOnlyUnflushed, JudgesFlush, flush_err_known_down}
use Rattle.wal_log.specs.Logs.{setup_of_log}
use Rattle.wal_log.proofs.Passing.{answered, leaves_pass, numbers_back, seated_rests}
use Rattle.wal_log.proofs.wal.Wal.flush.Given.{Over}
use Rattle.wal_log.proofs.wal.Wal.flush.Goals as goal
use Rattle.wal_log.proofs.wal.Wal.flush.Goals.{After-put_back}

pub flush_on-answer-requires : goal.flush_on-answer-requires
flush_on-answer-requires g c = record {
  rests = seated_rests c.args.self.now c.args.pass.now c.seat-seated.result
      c.seat-seated.ensures.view c.requires.pass;
}

pub put_back-requires-clause-numbers : goal.put_back-requires-clause-numbers
put_back-requires-clause-numbers g c = numbers_back c.args.self.now c.args.pass.now
    c.seat-seated.result c.seat-seated.ensures.view c.flush_on-answer.new.seated
    c.flush_on-answer.ensures.rests c.seat-seated.new.self c.requires.pass
    c.seat-seated.ensures.numbers

answered_so : (g : Over) (c : After-put_back g) (Answers : Setup → View → View → Type 0)
    → Answers (setup_of c.seat-seated.result) (view_of c.seat-seated.result)
    (view_of c.flush_on-answer.new.seated)
    → Answers (setup_of_log c.args.self.now) (view_of_pass c.args.pass.now)
    (view_of_pass c.put_back.new.self)
answered_so g c = answered c.args.self.now c.args.pass.now c.seat-seated.result
    c.seat-seated.ensures.view c.flush_on-answer.new.seated c.flush_on-answer.ensures.rests
    c.seat-seated.ensures.table c.put_back.new.self c.put_back.ensures.view

pub returns-clause-flushes : goal.returns-clause-flushes
returns-clause-flushes g c =
    answered_so g (goal.at.returns-clause-flushes g c).After-put_back
    (λ setup old new. AnswersFlush c.args.upto.0 old c.flush_on-answer.result new)
    c.flush_on-answer.ensures.flushes

pub returns-clause-only_unflushed : goal.returns-clause-only_unflushed
returns-clause-only_unflushed g c =
    answered_so g (goal.at.returns-clause-only_unflushed g c).After-put_back
    (λ setup old new. FlushesOnlyUnflushed c.args.upto.0 old c.flush_on-answer.result new)
    c.flush_on-answer.ensures.only_unflushed

pub returns-clause-unreserved : goal.returns-clause-unreserved
returns-clause-unreserved g c =
    answered_so g (goal.at.returns-clause-unreserved g c).After-put_back
    (λ setup old new. JudgesFlush c.args.upto.0 old c.flush_on-answer.result)
    c.flush_on-answer.ensures.unreserved

pub returns-clause-leaves : goal.returns-clause-leaves
returns-clause-leaves g c = leaves_pass c.args.self.now c.args.pass.now c.seat-seated.result
    c.seat-seated.ensures.view c.flush_on-answer.new.seated c.flush_on-answer.ensures.rests
    c.seat-seated.ensures.table c.put_back.new.self c.put_back.ensures.view
    c.put_back.ensures.pass (λ faults. c.flush_on-answer.result ≡ flush_err_known_down faults)
    c.flush_on-answer.ensures.down_again
