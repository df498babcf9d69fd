use Rattle.std.proofs.Common.{◌≡◌}
use Rattle.machine_state.specs.Views.{View}
use Rattle.machine_state.specs.declared.setup.Setup.{Setup}
use Rattle.wal_rule.specs.Passes.{view_of_pass}
use Rattle.wal_rule.specs.SeatedPasses.{setup_of, view_of}
use Rattle.wal_log.specs.Committing.{AnswersCommit, commit_known_down}
use Rattle.wal_log.specs.Logs.{setup_of_log}
use Rattle.wal_log.proofs.Passing.{answered, leaves_pass, numbers_back, seated_rests}
use Rattle.wal_log.proofs.wal.Wal.commit.Given.{Over}
use Rattle.wal_log.proofs.wal.Wal.commit.Goals as goal
use Rattle.wal_log.proofs.wal.Wal.commit.Goals.{After-put_back}

pub commit_on-answer-requires-clause-rests : goal.commit_on-answer-requires-clause-rests
commit_on-answer-requires-clause-rests g c =
    seated_rests c.args.self.now c.args.pass.now c.seat-seated.result
    c.seat-seated.ensures.view c.requires.pass

pub put_back-requires-clause-numbers : goal.put_back-requires-clause-numbers
put_back-requires-clause-numbers g c = numbers_back c.args.self.now c.args.pass.now
    c.seat-seated.result c.seat-seated.ensures.view c.commit_on-answer.new.seated
    c.commit_on-answer.ensures.rests c.seat-seated.new.self c.requires.pass
    c.seat-seated.ensures.numbers

answered_so : (g : Over) (c : After-put_back g) (Answers : Setup → View → View → Type 0)
    → Answers (setup_of c.seat-seated.result) (view_of c.seat-seated.result)
    (view_of c.commit_on-answer.new.seated)
    → Answers (setup_of_log c.args.self.now) (view_of_pass c.args.pass.now)
    (view_of_pass c.put_back.new.self)
answered_so g c = answered c.args.self.now c.args.pass.now c.seat-seated.result
    c.seat-seated.ensures.view c.commit_on-answer.new.seated c.commit_on-answer.ensures.rests
    c.seat-seated.ensures.table c.put_back.new.self c.put_back.ensures.view

pub returns-clause-commits : goal.returns-clause-commits
returns-clause-commits g c =
    answered_so g (goal.at.returns-clause-commits g c).After-put_back
    (λ setup old new. AnswersCommit setup c.args.body.now old c.commit_on-answer.result new)
    c.commit_on-answer.ensures.commits

pub returns-clause-async_met : goal.returns-clause-async_met
returns-clause-async_met g c =
    answered_so g (goal.at.returns-clause-async_met g c).After-put_back
    (λ setup old new. new.async_met ≡ old.async_met) c.commit_on-answer.ensures.async_met

pub returns-clause-leaves : goal.returns-clause-leaves
returns-clause-leaves g c = leaves_pass c.args.self.now c.args.pass.now c.seat-seated.result
    c.seat-seated.ensures.view c.commit_on-answer.new.seated c.commit_on-answer.ensures.rests
    c.seat-seated.ensures.table c.put_back.new.self c.put_back.ensures.view
    c.put_back.ensures.pass (λ faults. c.commit_on-answer.result ≡ commit_known_down faults)
    c.commit_on-answer.ensures.down_again
