use Rattle.std.proofs.Common.{◌≡◌, length}
use Rattle.run_script.specs.Hexadecimal.{bytes_of}
use Rattle.run_script.proofs.Pairs.{behind}
use Rattle.run_script.proofs.hexadecimal.put_bytes.Given as goal

-- the bytes so far and those of the digits that are left are those before and all
abbrev pub invariant-loop-rest : goal.invariant-loop-rest
invariant-loop-rest l = behind l.bytes.items (bytes_of l.rest) ≡ behind l.fn.bytes.items (bytes_of l.digits)

abbrev pub decreases-loop-rest : goal.decreases-loop-rest
decreases-loop-rest l = length l.rest
