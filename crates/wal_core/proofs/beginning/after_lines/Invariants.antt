-- The position and the lines that are left come to where the log ends.
use Rattle.std.proofs.Common.{◌≡◌, ◌+◌, ◌≤◌, All, min, drop, take}
use Rattle.machine_turns.specs.Scripts.{InsertsLogRecord, rooms_of_lines}
use Rattle.wal_core.proofs.beginning.after_lines.Given as goal

abbrev pub invariant-loop-line : goal.invariant-loop-line
invariant-loop-line l = (l.position ≤ l.limit)
    × (min (l.position + rooms_of_lines (drop l.line-index l.lines)) l.limit
    ≡ min (l.position-2 + rooms_of_lines l.lines) l.limit) × All InsertsLogRecord (take l.line-index l.lines)
