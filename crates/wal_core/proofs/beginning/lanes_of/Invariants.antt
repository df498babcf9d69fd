-- The lanes so far, and those of the scripts that are left, are all.
use Rattle.std.proofs.Common.{◌≡◌, ◌+◌, ◌≤◌, ◌++◌, length}
use Rattle.wal_core.specs.Cores.{first_lanes}
use Rattle.wal_core.proofs.beginning.lanes_of.Given as goal

abbrev pub invariant-loop-script : goal.invariant-loop-script
invariant-loop-script l = (l.number + length l.script-iterator.rest.items ≤ 65536)
    × (l.lanes.items ++ first_lanes l.shape.seg_size l.number l.script-iterator.rest.items
    ≡ first_lanes l.shape.seg_size 1 l.fn.scripts.items)
