use Rattle.std.proofs.Common.{◌≡◌, ◌+◌, ◌*◌, ◌≤◌, ◌++◌, length}
use Rattle.waldump_text.specs.Names.{hexadecimal}
use Rattle.waldump_text.specs.declared.line_buffer.TheConstants.{ROOM}
use Rattle.waldump_text.proofs.digits.push_digits.Given as goal

abbrev pub invariant-loop-sixteen : goal.invariant-loop-sixteen
invariant-loop-sixteen l =
    (l.buffer ++ hexadecimal l.rest ≡ l.initial.buffer ++ hexadecimal l.bytes)
    × (length l.buffer + 2 * length l.rest ≤ ROOM)

abbrev pub decreases-loop-sixteen : goal.decreases-loop-sixteen
decreases-loop-sixteen l = length l.rest
