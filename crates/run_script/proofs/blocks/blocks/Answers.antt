use Rattle.std.proofs.Common.{arith}
use Rattle.std.proofs.lemmas.Grind.{common_steps}
use Rattle.run_script.proofs.BlockLists.{behind_blocks-field}
use Rattle.run_script.proofs.blocks.blocks.Goals as goal

pub loop-field-preserved : goal.loop-field-preserved
loop-field-preserved c = grind (arith, common_steps, behind_blocks-field)
