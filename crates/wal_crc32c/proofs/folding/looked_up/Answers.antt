use Rattle.std.proofs.Common.{bit_xor}
use Rattle.std.proofs.lemmas.Simd.{zip2_of_maps}
use Rattle.wal_crc32c.proofs.folding.looked_up.Goals as goal

pub returns : goal.returns
returns c =
    zip2_of_maps bit_xor _ _ c.args.v c.low_looked_up.ensures c.high_looked_up.ensures
