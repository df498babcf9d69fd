use Rattle.std.proofs.Common.{◌≡◌, zero, suc, ◌+◌, ◌-◌, sym, ap, ◌∙◌, arith}
use Rattle.wal_crc32c.specs.Crc32c.{times_power}
use Rattle.wal_crc32c.proofs.division.after_byte.Goals as goal

pub loop-bit-preserved : goal.loop-bit-preserved
unfolding times_power
loop-bit-preserved c =
    let one_less : 8 - c.loop-bit._bit ≡ suc (8 - (c.loop-bit._bit + 1)) = omega arith in
    ap (times_power (8 - (c.loop-bit._bit + 1))) c.times_x-shifted.ensures
    ∙ sym (ap (λ bits. times_power bits c.loop-bit.shifted) one_less)
    ∙ c.loop-bit.invariant

pub returns : goal.returns
unfolding times_power
returns c =
    let none_left : 8 - c.loop-bit._bit ≡ zero = omega arith in
    sym (ap (λ bits. times_power bits c.loop-bit.shifted) none_left) ∙ c.loop-bit.invariant
