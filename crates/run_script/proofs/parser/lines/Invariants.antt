use Rattle.std.proofs.Common.{◌≡◌, ◌+◌, length}
use Rattle.run_script.specs.Text.{lines_of}
use Rattle.run_script.specs.Meaning.{lines_meaning}
use Rattle.run_script.proofs.Scripts.{IsReadUpto}
use Rattle.run_script.proofs.parser.lines.Given as goal

-- the lines so far and the meaning of those that are left are the meaning of all
abbrev pub invariant-loop-line : goal.invariant-loop-line
invariant-loop-line l = record {
  meaning : IsReadUpto l.read.lines.items (l.number + 1) l.line-iterator (lines_meaning 1 (lines_of l.script));
  count : l.number + length l.line-iterator ≡ length (lines_of l.script);
}
