use Rattle.cli_text.proofs.Decimals.{IsReadTo}
use Rattle.cli_text.proofs.numbers.any_number.Given as goal

abbrev pub invariant-loop-byte : goal.invariant-loop-byte
invariant-loop-byte l = IsReadTo l.field l.byte-index l.value
