use Rattle.std.proofs.Common.{◌-◌, length}
use Rattle.backend_cli.specs.Outside.{source_view}
use Rattle.backend_cli.specs.Reading.{HasRead}
use Rattle.backend_cli.proofs.reading.read_upto.Given as goal

-- what was read so far was handed out in between, off the front of what was left
abbrev pub invariant-loop-bytes : goal.invariant-loop-bytes
invariant-loop-bytes g l =
    HasRead l.most (source_view g.S.Source.left g.S.Source.handed g.S.Source.ends_told g.S.Source.faults l.fn.source) (source_view g.S.Source.left g.S.Source.handed g.S.Source.ends_told g.S.Source.faults l.source) l.bytes.items

abbrev pub decreases-loop-bytes : goal.decreases-loop-bytes
decreases-loop-bytes g l = l.most - length l.bytes.items
