use Rattle.std.proofs.Common.{[], ◌+◌, ◌<◌, ◌≤◌, length}
use Rattle.cli_text.specs.Parts.{bytes_left, parts_left}
use Rattle.run_script.specs.Replay.{backends_from, most_backends}
use Rattle.run_script.specs.Text.{lines_of}
use Rattle.run_script.proofs.SeveralBackends.{AreReadUpto}
use Rattle.run_script.proofs.backends.read_backends.Given as goal

-- the backends so far and the meaning of the lines that are left are the meaning of all
abbrev pub invariant-loop-rest : goal.invariant-loop-rest
invariant-loop-rest l = record {
  meaning : AreReadUpto l.takes_schedule l.before.items l.read.lines.items (l.number + 1) (parts_left 10 l.rest) (backends_from l.takes_schedule 1 [] [] (lines_of l.script));
  left : l.number + bytes_left l.rest ≤ length l.script + 1;
  room : length l.before.items < most_backends;
}

abbrev pub decreases-loop-rest : goal.decreases-loop-rest
decreases-loop-rest l = bytes_left l.rest
