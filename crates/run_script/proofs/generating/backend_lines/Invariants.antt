use Rattle.run_script.specs.Generated.{generated_lines}
use Rattle.run_script.specs.Bodies.{AreLinesOf}
use Rattle.run_script.proofs.generating.backend_lines.Given as goal

abbrev pub invariant-loop-index : goal.invariant-loop-index
invariant-loop-index l = AreLinesOf (generated_lines l.backend l.index) l.lines.items
