use Rattle.std.proofs.Common.{◌/◌, arith}
use Rattle.std.proofs.lemmas.Simd.{zip2_splat}
use Rattle.wal_crc32c.proofs.LaneLaws.{down, high_ok, looked_up}
use Rattle.wal_crc32c.proofs.half_bytes.high_looked_up.Goals as goal

pub swizzle : goal.swizzle
swizzle c = high_ok c.args.bytes c.fits-bytes

pub returns : goal.returns
returns c =
    let v = c.args.bytes in
    looked_up c.args.table (λ x. x / 16) v _ c.fits-bytes (zip2_splat down v 16 4 c.fits-bytes.0) (λ x h. omega arith)
