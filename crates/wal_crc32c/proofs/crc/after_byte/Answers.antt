use Rattle.std.proofs.Common.{bit_xor, arith}
use Rattle.std.proofs.lemmas.Grind.{common_steps}
use Rattle.wal_crc32c.proofs.Remainders.{times_power-split}
use Rattle.wal_crc32c.proofs.crc.after_byte.Goals as goal

pub returns : goal.returns
returns c =
    let mixed = bit_xor c.args.remainder c.args.byte in
    let split = times_power-split 8 mixed in
    grind (arith, common_steps)
