use Rattle.cli_line.proofs.Hexadecimals.{IsReadTo}
use Rattle.cli_line.proofs.meanings.hexadecimal.Given as goal

abbrev pub invariant-loop-byte : goal.invariant-loop-byte
invariant-loop-byte l = IsReadTo l.digits l.byte-index l.value
