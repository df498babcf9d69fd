use Rattle.std.proofs.Common.{◌≡◌, ◌≤◌}
use Rattle.machine_state.specs.Moves.{with_async}
use Rattle.machine_state.specs.Views.{View}
use Rattle.machine_state.specs.Words.{end_form}
use Rattle.machine_state.specs.declared.setup.Setup.{Setup}
use Rattle.wal_rule.specs.Passes.{view_of_pass}
use Rattle.wal_rule.specs.SeatedPasses.{setup_of, view_of}
use Rattle.wal_log.specs.Behind.{AnswersRaise}
use Rattle.wal_log.specs.Logs.{setup_of_log}
use Rattle.wal_log.specs.Standing.{ComesToRest}
use Rattle.wal_log.proofs.AheadLaws.{raise_rests}
use Rattle.wal_log.proofs.Passing.{answered, asked, leaves_pass, numbers_back, seated_rests}
use Rattle.wal_log.proofs.Seated.{view_is}
use Rattle.wal_log.proofs.wal.Wal.try_raise_async.Given.{Over}
use Rattle.wal_log.proofs.wal.Wal.try_raise_async.Goals as goal
use Rattle.wal_log.proofs.wal.Wal.try_raise_async.Goals.{After-put_back, After-try_raise-answer}

pub try_raise-answer-requires : goal.try_raise-answer-requires
try_raise-answer-requires g c = record {
  rests = seated_rests c.args.self.now c.args.pass.now c.seat-seated.result
      c.seat-seated.ensures.view c.requires.pass;
  reserved = asked c.args.self.now c.args.pass.now c.seat-seated.result
      c.seat-seated.ensures.view c.seat-seated.ensures.table
      (λ setup v. c.args.upto.0 ≤ end_form setup (v.reserving).seen) c.requires.reserved;
  whole = c.requires.whole;
}

module _ (g : Over) (c : After-try_raise-answer g) where
  rests : ComesToRest c.seat-seated.result c.try_raise-answer.new.seated
  rests = raise_rests c.seat-seated.result c.try_raise-answer.new.seated
      (seated_rests c.args.self.now c.args.pass.now c.seat-seated.result
      c.seat-seated.ensures.view c.requires.pass) c.try_raise-answer.ensures.raises

pub put_back-requires-clause-numbers : goal.put_back-requires-clause-numbers
put_back-requires-clause-numbers g c = numbers_back c.args.self.now c.args.pass.now
    c.seat-seated.result c.seat-seated.ensures.view c.try_raise-answer.new.seated
    (rests g (goal.at.put_back-requires-clause-numbers g c).After-try_raise-answer)
    c.seat-seated.new.self c.requires.pass c.seat-seated.ensures.numbers

answered_so : (g : Over) (c : After-put_back g)
    → ComesToRest c.seat-seated.result c.try_raise-answer.new.seated
    → (Answers : Setup → View → View → Type 0)
    → Answers (setup_of c.seat-seated.result) (view_of c.seat-seated.result)
    (view_of c.try_raise-answer.new.seated)
    → Answers (setup_of_log c.args.self.now) (view_of_pass c.args.pass.now)
    (view_of_pass c.put_back.new.self)
answered_so g c comes = answered c.args.self.now c.args.pass.now c.seat-seated.result
    c.seat-seated.ensures.view c.try_raise-answer.new.seated comes
    c.seat-seated.ensures.table c.put_back.new.self c.put_back.ensures.view

pub returns-clause-raises : goal.returns-clause-raises
returns-clause-raises g c =
    let path = goal.at.returns-clause-raises g c in
    answered_so g path.After-put_back (rests g path.After-try_raise-answer)
    (λ setup old new. AnswersRaise c.args.upto.0 old c.try_raise-answer.result new)
    c.try_raise-answer.ensures.raised

pub returns-clause-view : goal.returns-clause-view
returns-clause-view g c =
    let path = goal.at.returns-clause-view g c in
    answered_so g path.After-put_back (rests g path.After-try_raise-answer)
    (λ setup old new. new ≡ with_async new.async_met old)
    (view_is c.try_raise-answer.ensures.raises.view)

pub returns-clause-leaves : goal.returns-clause-leaves
returns-clause-leaves g c =
    let path = goal.at.returns-clause-leaves g c in
    leaves_pass c.args.self.now c.args.pass.now c.seat-seated.result
    c.seat-seated.ensures.view c.try_raise-answer.new.seated
    (rests g path.After-try_raise-answer) c.seat-seated.ensures.table c.put_back.new.self
    c.put_back.ensures.view c.put_back.ensures.pass (λ faults. Unit {0}) (λ faults knows. tt)
