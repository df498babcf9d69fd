use Rattle.std.proofs.Common.{length, ◌∙◌, sym, ap}
use Rattle.std.proofs.lemmas.List.{length-map}
use Rattle.std.specs.Int.Bits.{bit_xor}
use Rattle.wal_crc32c.specs.Folding.{pair_at, remainder}
use Rattle.wal_crc32c.proofs.Spread.{remainder-xor}
use Rattle.wal_crc32c.proofs.folding.onto.Goals as goal

pub returns : goal.returns
returns c =
    let found = c.looked_up.ensures in
    let same = c.fits-w.0 ∙ sym (ap length found ∙ length-map c.args.v (pair_at c.args.low.now c.args.high.now) ∙ c.fits-v.0) in
    remainder-xor c.args.w c.looked_up.result same ∙ ap (λ v. bit_xor (remainder c.args.w) (remainder v)) found
