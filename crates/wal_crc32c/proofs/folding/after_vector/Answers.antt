use Rattle.std.proofs.Common.{◌*◌, ◌∙◌, ap}
use Rattle.std.specs.Int.Bits.{bit_xor}
use Rattle.wal_crc32c.specs.Crc32c.{times_power}
use Rattle.wal_crc32c.specs.Folding.{remainder}
use Rattle.wal_crc32c.proofs.Spread.{fold-remainder}
use Rattle.wal_crc32c.proofs.folding.after_vector.Goals as goal

pub returns : goal.returns
returns c =
    c.after_sixteen_bytes.ensures
    ∙ fold-remainder c.args.before c.args.v
    ∙ ap (λ n. bit_xor (times_power (8 * n) c.args.before) (remainder c.args.v)) c.fits-v.0
