use Rattle.std.proofs.Common.{◌≡◌}
use Rattle.run_script.specs.Blocks.{references_from}
use Rattle.run_script.proofs.BlockLists.{behind_blocks}
use Rattle.run_script.proofs.blocks.blocks.Given as goal

-- the blocks so far and those of the fields that are left are all
abbrev pub invariant-loop-field : goal.invariant-loop-field
invariant-loop-field l = behind_blocks l.blocks.items (references_from l.id l.field-iterator) ≡ references_from 0 l.fn.fields
