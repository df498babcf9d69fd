use Rattle.std.proofs.Common.{◌≡◌, ◌∙◌, length, arith}
use Rattle.wal_types.proofs.Digits.{drop_slashed}
use Rattle.wal_types.proofs.lsn.Lsn.text.Goals as goal

pub returns : goal.returns
returns c =
    let long : length c.upper_half-start.result.0 ≡ 8 = omega arith in
    drop_slashed _ _ _ _ _ _ c.copy_from_slice.ensures.after (c.copy_from_slice-2.ensures.after ∙ c.upper_hexadecimal-low.ensures) long c.upper_half-start.ensures.start c.upper_half-start.ensures.digits
