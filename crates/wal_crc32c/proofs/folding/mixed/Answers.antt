use Rattle.std.proofs.Common.{◌∷◌, ◌∙◌, sym, ap, get_or, replicate}
use Rattle.std.specs.Int.Bits.{bit_xor}
use Rattle.wal_crc32c.specs.Folding.{remainder}
use Rattle.wal_crc32c.proofs.Spread.{remainder-xor}
use Rattle.wal_crc32c.proofs.Words.{remainder-number}
use Rattle.wal_crc32c.proofs.folding.mixed.Goals as goal

pub returns : goal.returns
returns c =
    let bs = c.to_le_bytes.result in
    remainder-xor (get_or bs 0 0 ∷ get_or bs 1 0 ∷ get_or bs 2 0 ∷ get_or bs 3 0 ∷ replicate 12 0) c.args.v (sym c.fits-v.0)
    ∙ ap (λ x. bit_xor x (remainder c.args.v)) (remainder-number c.args.before c.ranges.before.fits bs c.to_le_bytes.ensures)
