use Rattle.std.proofs.Common.{◌≡◌}
use Rattle.machine_state.specs.Views.{View}
use Rattle.machine_state.specs.declared.setup.Setup.{Setup}
use Rattle.wal_rule.specs.Passes.{view_of_pass}
use Rattle.wal_rule.specs.SeatedPasses.{setup_of, view_of}
use Rattle.wal_log.specs.Behind.{AnswersBehindTry, behind_try_known_down}
use Rattle.wal_log.specs.Logs.{setup_of_log}
use Rattle.wal_log.proofs.Passing.{answered, leaves_pass, numbers_back, seated_rests}
use Rattle.wal_log.proofs.wal.Wal.try_write_behind.Given.{Over}
use Rattle.wal_log.proofs.wal.Wal.try_write_behind.Goals as goal
use Rattle.wal_log.proofs.wal.Wal.try_write_behind.Goals.{After-put_back}

pub try_write_behind-answer-requires : goal.try_write_behind-answer-requires
try_write_behind-answer-requires g c = record {
  rests = seated_rests c.args.self.now c.args.pass.now c.seat-seated.result
      c.seat-seated.ensures.view c.requires.pass;
}

pub put_back-requires-clause-numbers : goal.put_back-requires-clause-numbers
put_back-requires-clause-numbers g c = numbers_back c.args.self.now c.args.pass.now
    c.seat-seated.result c.seat-seated.ensures.view c.try_write_behind-answer.new.seated
    c.try_write_behind-answer.ensures.rests c.seat-seated.new.self c.requires.pass
    c.seat-seated.ensures.numbers

answered_so : (g : Over) (c : After-put_back g) (Answers : Setup → View → View → Type 0)
    → Answers (setup_of c.seat-seated.result) (view_of c.seat-seated.result)
    (view_of c.try_write_behind-answer.new.seated)
    → Answers (setup_of_log c.args.self.now) (view_of_pass c.args.pass.now)
    (view_of_pass c.put_back.new.self)
answered_so g c = answered c.args.self.now c.args.pass.now c.seat-seated.result
    c.seat-seated.ensures.view c.try_write_behind-answer.new.seated c.try_write_behind-answer.ensures.rests
    c.seat-seated.ensures.table c.put_back.new.self c.put_back.ensures.view

pub returns-clause-catches : goal.returns-clause-catches
returns-clause-catches g c =
    answered_so g (goal.at.returns-clause-catches g c).After-put_back
    (λ setup old new. AnswersBehindTry old c.try_write_behind-answer.result new)
    c.try_write_behind-answer.ensures.catches

pub returns-clause-leaves : goal.returns-clause-leaves
returns-clause-leaves g c = leaves_pass c.args.self.now c.args.pass.now c.seat-seated.result
    c.seat-seated.ensures.view c.try_write_behind-answer.new.seated c.try_write_behind-answer.ensures.rests
    c.seat-seated.ensures.table c.put_back.new.self c.put_back.ensures.view
    c.put_back.ensures.pass (λ faults. c.try_write_behind-answer.result ≡ behind_try_known_down faults)
    c.try_write_behind-answer.ensures.down_again
