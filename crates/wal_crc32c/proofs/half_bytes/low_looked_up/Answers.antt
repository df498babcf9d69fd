use Rattle.std.proofs.Common.{◌%◌, ◌∙◌, bit_and, arith}
use Rattle.std.proofs.lemmas.Simd.{zip2_splat}
use Rattle.wal_crc32c.proofs.LaneLaws.{low_ok, looked_up, low_mask, map-same}
use Rattle.wal_crc32c.proofs.half_bytes.low_looked_up.Goals as goal

pub swizzle : goal.swizzle
swizzle c = low_ok c.args.bytes c.fits-bytes

pub returns : goal.returns
returns c =
    let v = c.args.bytes in
    looked_up c.args.table (λ x. x % 16) v _ c.fits-bytes (zip2_splat bit_and v 16 15 c.fits-bytes.0 ∙ map-same (λ x. bit_and x 15) (λ x. x % 16) low_mask v) (λ x h. omega arith)
