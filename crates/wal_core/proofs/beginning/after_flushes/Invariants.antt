-- The flushes so far and those of the lines that are left come to all flushes.
use Rattle.std.proofs.Common.{◌≡◌, ◌+◌, ◌≤◌, ◌^◌, min, drop}
use Rattle.machine_turns.specs.Scripts.{flushes_of_lines}
use Rattle.wal_core.proofs.beginning.after_flushes.Given as goal

abbrev pub invariant-loop-line : goal.invariant-loop-line
invariant-loop-line l = (l.count ≤ 2 ^ 32)
    × (min (l.count + flushes_of_lines (drop l.line-index l.lines)) (2 ^ 32)
    ≡ min (l.count-2 + flushes_of_lines l.lines) (2 ^ 32))
