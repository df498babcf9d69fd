use Rattle.std.proofs.Common.{◌≤◌, length, vec_capacity}
use Rattle.run_backends.specs.Sessions.{view_of_session}
use Rattle.run_backends.proofs.PlayingLines.{HasPlayedUpto}
use Rattle.run_backends.proofs.lane.play_lines.Given as goal

-- the lines so far are played, and there is room for the others' answers
abbrev pub invariant-loop-line : goal.invariant-loop-line
invariant-loop-line g l = record {
  played : HasPlayedUpto l.log (view_of_session l.fn.session) l.lines l.line-index l.told.items
      l.session;
  room : length l.lines ≤ vec_capacity l.told;
}
