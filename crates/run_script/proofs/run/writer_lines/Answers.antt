use Rattle.std.proofs.Common.{◌+◌, List, sym, subst}
use Rattle.run_script.specs.declared.line.Line.{Line}
use Rattle.run_script.specs.Bodies.{AreLinesOf}
use Rattle.run_script.specs.Run.{writer_lines}
use Rattle.run_script.proofs.Runs.{writer_lines-more}
use Rattle.run_script.proofs.run.writer_lines.Goals as goal

pub loop-index-preserved : goal.loop-index-preserved
loop-index-preserved c =
    let index = c.loop-index.index in
    subst (λ (lines : List Line). AreLinesOf (writer_lines (index + 1)) lines) (sym {A = List Line} c.in_ok-push.ensures.items) (writer_lines-more index c.loop-index.lines.items c.loop-index.invariant)
