-- Each line is played behind those before it.
use Rattle.std.proofs.Common.{◌≡◌, [], ◌∷◌, ◌++◌, arith, refl, subst}
use Rattle.run_laws.specs.declared.told.Told.{Told}
use Rattle.run_backends.specs.Sessions.{view_of_session}
use Rattle.run_backends.proofs.PlayingLines.{all_played, asked_at, none_played, one_more_played}
use Rattle.run_backends.proofs.lane.play_lines.Goals as goal

pub loop-line-init : goal.loop-line-init
loop-line-init g c = record {
  played = none_played _ c.args.log.now (view_of_session c.args.session.now) c.args.lines.now
      c.args.told.now.items c.args.session.now c.requires.none c.requires.session
      c.requires.unplayed refl;
  room = c.requires.room;
}

pub answer-answer-requires-clause-session : goal.answer-answer-requires-clause-session
answer-answer-requires-clause-session g c = c.loop-line.invariant.played.of_log

pub answer-answer-requires-clause-asked : goal.answer-answer-requires-clause-asked
answer-answer-requires-clause-asked g c =
    let asked = c.requires.asked in
    let found = asked_at asked.0 c.args.lines.now c.loop-line.line-index c.line-item.result asked.1
    (omega arith) c.line-item.is in (found.0.asked, found.1)

pub loop-line-preserved : goal.loop-line-preserved
loop-line-preserved g c =
    let now = c.loop-line in
    let pushed = subst (λ (answer : Told). c.push_reserved.new.self.items ≡ now.told.items ++ answer ∷ [])
    c.of.ensures c.push_reserved.ensures.items in
    record {
      played = one_more_played _ c.args.log.now (view_of_session c.args.session.now) c.args.lines.now
          c.lines_are_played_one_by_one.ensures.more now.line-index now.told.items
          c.push_reserved.new.self.items now.session c.answer-answer.new.self c.line-item.result
          c.answer-answer.result now.invariant.played (omega arith) c.line-item.is
          pushed c.answer-answer.ensures.plays
          c.answer-answer.ensures.leaves;
      room = omega (arith, now.invariant.room, c.push_reserved.ensures.capacity);
    }

pub returns-clause-plays : goal.returns-clause-plays
returns-clause-plays g c =
    all_played _ c.args.log.now (view_of_session c.args.session.now) c.args.lines.now
    c.loop-line.line-index c.loop-line.told.items c.loop-line.session c.loop-line.invariant.played
    (omega arith)
