use Rattle.std.proofs.Common.{rules}
use Rattle.waldump_text.proofs.HexadecimalLaws.{sixteen-in_turns}
use Rattle.waldump_text.proofs.digits.sixteen_digits.Goals as goal

pub returns : goal.returns
returns c =
    rw (c.high_looked_up-high.ensures, c.low_looked_up.ensures)
    (sixteen-in_turns c.args.bytes.now c.told-bytes (search rules))
