use Rattle.std.proofs.Common.{◌≡◌, subst}
use Rattle.wal_types.specs.declared.record.Record.{Record}
use Rattle.wal_spelling.specs.Record.{switch_record}
use Rattle.wal_spelling.specs.Spelling.{assembled}
use Rattle.run_script.specs.declared.line.Action.{Action}
use Rattle.run_script.specs.Asked.{Asked}
use Rattle.run_script.specs.Bodies.{IsActionOf, IsBodyOf}
use Rattle.run_backends.specs.Sessions.{PlaysAnswer}
use Rattle.run_backends.proofs.ActionsAsked.{holds_of_ahead, holds_of_commit, holds_of_insert, holds_of_switch}
use Rattle.run_backends.proofs.session.Session.answer.Goals as goal

pub insert-requires-clause-record : goal.insert-requires-clause-record
insert-requires-clause-record g c =
    holds_of_insert (λ (a : Asked). (value : Record) × IsBodyOf value c.in-Insert.body)
    c.in-Insert.body (λ value is. (value, is))
    c.requires.asked.0
    (subst (λ (action : Action). IsActionOf c.requires.asked.0 action) c.in-Insert.is
    c.requires.asked.1)

pub commit-requires-clause-record : goal.commit-requires-clause-record
commit-requires-clause-record g c =
    holds_of_commit (λ (a : Asked). (value : Record) × IsBodyOf value c.in-Commit.body)
    c.in-Commit.body (λ value is. (value, is))
    c.requires.asked.0
    (subst (λ (action : Action). IsActionOf c.requires.asked.0 action) c.in-Commit.is
    c.requires.asked.1)

pub commit_async-requires-clause-record : goal.commit_async-requires-clause-record
commit_async-requires-clause-record g c =
    holds_of_ahead (λ (a : Asked). (value : Record) × IsBodyOf value c.in-CommitAsync.body)
    c.in-CommitAsync.body (λ value is. (value, is))
    c.requires.asked.0
    (subst (λ (action : Action). IsActionOf c.requires.asked.0 action) c.in-CommitAsync.is
    c.requires.asked.1)

pub switch-requires-clause-record : goal.switch-requires-clause-record
switch-requires-clause-record g c =
    holds_of_switch (λ (a : Asked). c.in-Switch.body ≡ assembled switch_record)
    c.in-Switch.body (λ is. is) c.requires.asked.0
    (subst (λ (action : Action). IsActionOf c.requires.asked.0 action) c.in-Switch.is
    c.requires.asked.1)

pub returns-in-Insert-clause-plays : goal.returns-in-Insert-clause-plays
returns-in-Insert-clause-plays g c = λ asked is.
    holds_of_insert (λ (a : Asked). PlaysAnswer c.args.log.now a c.insert.result c.args.self.now
    c.insert.new.self) c.in-Insert.body
    (λ value is. c.insert.ensures.plays value is)
    asked
    (subst (λ (action : Action). IsActionOf asked action) c.in-Insert.is is)

pub returns-in-Commit-clause-plays : goal.returns-in-Commit-clause-plays
returns-in-Commit-clause-plays g c = λ asked is.
    holds_of_commit (λ (a : Asked). PlaysAnswer c.args.log.now a c.commit.result c.args.self.now
    c.commit.new.self) c.in-Commit.body
    (λ value is. c.commit.ensures.plays value is)
    asked
    (subst (λ (action : Action). IsActionOf asked action) c.in-Commit.is is)

pub returns-in-CommitAsync-clause-plays : goal.returns-in-CommitAsync-clause-plays
returns-in-CommitAsync-clause-plays g c = λ asked is.
    holds_of_ahead (λ (a : Asked). PlaysAnswer c.args.log.now a c.commit_async.result
    c.args.self.now c.commit_async.new.self) c.in-CommitAsync.body
    (λ value is. c.commit_async.ensures.plays value is)
    asked (subst (λ (action : Action). IsActionOf asked action) c.in-CommitAsync.is is)

pub returns-in-Switch-clause-plays : goal.returns-in-Switch-clause-plays
returns-in-Switch-clause-plays g c = λ asked is.
    holds_of_switch (λ (a : Asked). PlaysAnswer c.args.log.now a c.switch.result c.args.self.now
    c.switch.new.self) c.in-Switch.body (λ body_is. c.switch.ensures.plays) asked
    (subst (λ (action : Action). IsActionOf asked action) c.in-Switch.is is)
