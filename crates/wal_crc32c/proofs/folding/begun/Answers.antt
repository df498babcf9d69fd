use Rattle.std.proofs.Common.{[], ◌∷◌, ◌*◌, ◌∙◌, sym, ap}
use Rattle.std.specs.Int.Bits.{bit_xor}
use Rattle.wal_crc32c.specs.Crc32c.{times_power}
use Rattle.wal_crc32c.specs.Folding.{remainder, spread}
use Rattle.wal_crc32c.proofs.Spread.{fold-remainder, spread-first}
use Rattle.wal_crc32c.proofs.folding.begun.Goals as goal

pub returns : goal.returns
returns c =
    let six = c.six_of-six.result in
    let behind = remainder six.v1 ∷ remainder six.v2 ∷ remainder six.v3 ∷ remainder six.v4 ∷ remainder six.v5 ∷ [] in
    let block = c.args.block.now in
    ap (λ y. spread 128 (y ∷ behind)) c.mixed.ensures
    ∙ spread-first c.args.before (remainder six.v0) behind
    ∙ ap (bit_xor (times_power 768 c.args.before)) c.six_of-six.ensures
    ∙ sym (fold-remainder c.args.before block ∙ ap (λ n. bit_xor (times_power (8 * n) c.args.before) (remainder block)) c.told-block)
