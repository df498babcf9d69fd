use Rattle.std.proofs.Common.{◌+◌, List, sym, subst}
use Rattle.run_script.specs.declared.line.Line.{Line}
use Rattle.run_script.specs.Bodies.{AreLinesOf}
use Rattle.run_script.specs.Generated.{generated_lines}
use Rattle.run_script.proofs.GeneratedScripts.{AreLinesOf-more}
use Rattle.run_script.proofs.generating.backend_lines.Goals as goal

pub loop-index-preserved : goal.loop-index-preserved
loop-index-preserved c =
    let backend = c.args.backend in
    let index = c.loop-index.index in
    subst (λ (lines : List Line). AreLinesOf (generated_lines backend (index + 1)) lines) (sym {A = List Line} c.in_ok-push.ensures.items) (AreLinesOf-more backend index c.loop-index.lines.items c.in_ok-action.field-0 c.loop-index.invariant c.in_ok-action.ensures)
