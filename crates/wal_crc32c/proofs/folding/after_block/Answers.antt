use Rattle.std.proofs.Common.{[], ◌∷◌, ◌*◌, ◌∙◌, sym, ap}
use Rattle.std.specs.Int.Bits.{bit_xor}
use Rattle.std.proofs.lemmas.Nat.{xor_comm}
use Rattle.wal_crc32c.specs.Crc32c.{times_power}
use Rattle.wal_crc32c.specs.Folding.{remainder, six_remainder}
use Rattle.wal_crc32c.proofs.Spread.{all_carried, fold-remainder}
use Rattle.wal_crc32c.proofs.folding.after_block.Goals as goal

pub returns : goal.returns
returns c =
    let before = c.args.before in
    let block = c.args.block.now in
    let left = remainder block in
    rw (c.carry.ensures, c.carry-next-5.ensures, c.carry-next-4.ensures, c.carry-next-3.ensures, c.carry-next-2.ensures, c.carry-next.ensures, c.six_of-next.ensures)
    (all_carried 768 left (remainder before.v0 ∷ remainder before.v1 ∷ remainder before.v2 ∷ remainder before.v3 ∷ remainder before.v4 ∷ remainder before.v5 ∷ [])
    ∙ xor_comm left (times_power 768 (six_remainder before))
    ∙ sym (fold-remainder (six_remainder before) block ∙ ap (λ n. bit_xor (times_power (8 * n) (six_remainder before)) left) c.told-block))
