use Rattle.std.proofs.Common.{◌≡◌}
use Rattle.machine_state.specs.Views.{View}
use Rattle.machine_state.specs.declared.setup.Setup.{Setup}
use Rattle.wal_rule.specs.Passes.{view_of_pass}
use Rattle.wal_rule.specs.SeatedPasses.{setup_of, view_of}
use Rattle.wal_log.specs.Flushing.{AnswersFlushTry, JudgesFlushTry, TriesOnlyUnflushed, try_flush_err_known_down}
use Rattle.wal_log.specs.Logs.{setup_of_log}
use Rattle.wal_log.proofs.Passing.{answered, leaves_pass, numbers_back, seated_rests}
use Rattle.wal_log.proofs.wal.Wal.try_flush.Given.{Over}
use Rattle.wal_log.proofs.wal.Wal.try_flush.Goals as goal
use Rattle.wal_log.proofs.wal.Wal.try_flush.Goals.{After-put_back}

pub try_flush-answer-requires : goal.try_flush-answer-requires
try_flush-answer-requires g c = record {
  rests = seated_rests c.args.self.now c.args.pass.now c.seat-seated.result
      c.seat-seated.ensures.view c.requires.pass;
}

pub put_back-requires-clause-numbers : goal.put_back-requires-clause-numbers
put_back-requires-clause-numbers g c = numbers_back c.args.self.now c.args.pass.now
    c.seat-seated.result c.seat-seated.ensures.view c.try_flush-answer.new.seated
    c.try_flush-answer.ensures.rests c.seat-seated.new.self c.requires.pass
    c.seat-seated.ensures.numbers

answered_so : (g : Over) (c : After-put_back g) (Answers : Setup → View → View → Type 0)
    → Answers (setup_of c.seat-seated.result) (view_of c.seat-seated.result)
    (view_of c.try_flush-answer.new.seated)
    → Answers (setup_of_log c.args.self.now) (view_of_pass c.args.pass.now)
    (view_of_pass c.put_back.new.self)
answered_so g c = answered c.args.self.now c.args.pass.now c.seat-seated.result
    c.seat-seated.ensures.view c.try_flush-answer.new.seated c.try_flush-answer.ensures.rests
    c.seat-seated.ensures.table c.put_back.new.self c.put_back.ensures.view

pub returns-clause-tries : goal.returns-clause-tries
returns-clause-tries g c =
    answered_so g (goal.at.returns-clause-tries g c).After-put_back
    (λ setup old new. AnswersFlushTry c.args.upto.0 old c.try_flush-answer.result new)
    c.try_flush-answer.ensures.tries

pub returns-clause-only_unflushed : goal.returns-clause-only_unflushed
returns-clause-only_unflushed g c =
    answered_so g (goal.at.returns-clause-only_unflushed g c).After-put_back
    (λ setup old new. TriesOnlyUnflushed c.args.upto.0 old c.try_flush-answer.result new)
    c.try_flush-answer.ensures.only_unflushed

pub returns-clause-unreserved : goal.returns-clause-unreserved
returns-clause-unreserved g c =
    answered_so g (goal.at.returns-clause-unreserved g c).After-put_back
    (λ setup old new. JudgesFlushTry c.args.upto.0 old c.try_flush-answer.result)
    c.try_flush-answer.ensures.unreserved

pub returns-clause-leaves : goal.returns-clause-leaves
returns-clause-leaves g c = leaves_pass c.args.self.now c.args.pass.now c.seat-seated.result
    c.seat-seated.ensures.view c.try_flush-answer.new.seated c.try_flush-answer.ensures.rests
    c.seat-seated.ensures.table c.put_back.new.self c.put_back.ensures.view
    c.put_back.ensures.pass (λ faults. c.try_flush-answer.result ≡ try_flush_err_known_down faults)
    c.try_flush-answer.ensures.down_again
