-- The lines so far and those of the scripts that are left come to all lines.
use Rattle.std.proofs.Common.{◌≡◌, ◌+◌, ◌≤◌, ◌^◌, min, drop}
use Rattle.wal_core.specs.Cores.{lines_of_scripts}
use Rattle.wal_core.proofs.beginning.line_count.Given as goal

abbrev pub invariant-loop-script : goal.invariant-loop-script
invariant-loop-script l = (l.count ≤ 2 ^ 32)
    × (min (l.count + lines_of_scripts (drop l.script-index l.scripts)) (2 ^ 32)
    ≡ min (lines_of_scripts l.scripts) (2 ^ 32))
