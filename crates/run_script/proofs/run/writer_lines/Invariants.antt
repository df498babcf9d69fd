use Rattle.run_script.specs.Bodies.{AreLinesOf}
use Rattle.run_script.specs.Run.{writer_lines}
use Rattle.run_script.proofs.run.writer_lines.Given as goal

abbrev pub invariant-loop-index : goal.invariant-loop-index
invariant-loop-index l = AreLinesOf (writer_lines l.index) l.lines.items
