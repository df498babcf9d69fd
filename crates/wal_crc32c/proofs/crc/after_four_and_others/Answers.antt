use Rattle.std.proofs.Common.{sym, arith, ◌∙◌}
use Rattle.wal_crc32c.proofs.Words.{fold-four_then, fold-none_more, fold-one_more, fold-two_more, fold-three_more}
use Rattle.wal_crc32c.proofs.crc.after_four_and_others.Goals as goal

pub returns-in-empty : goal.returns-in-empty
returns-in-empty c =
    rw (c.half_word_remainder.ensures, c.from_le_bytes.ensures)
    (sym (fold-four_then c.args.remainder c.args.four.now c.args.others.now c.told-four c.fits-four
    ∙ fold-none_more _ c.args.others.now c.in-empty.len_below))

pub returns-in-len1 : goal.returns-in-len1
returns-in-len1 c =
    rw (c.half_word_remainder_before.ensures, c.byte_remainder.ensures, c.from_le_bytes.ensures)
    (sym (fold-four_then c.args.remainder c.args.four.now c.args.others.now c.told-four c.fits-four
    ∙ fold-one_more _ c.args.others.now (omega (arith, c.in-len1.len_at_least, c.in-len1.len_below))))

pub returns-in-len2 : goal.returns-in-len2
returns-in-len2 c =
    rw (c.half_word_remainder_before-in-len2.ensures, c.byte_remainder-in-len2.ensures, c.byte_remainder-in-len2-2.ensures, c.from_le_bytes.ensures)
    (sym (fold-four_then c.args.remainder c.args.four.now c.args.others.now c.told-four c.fits-four
    ∙ fold-two_more _ c.args.others.now (omega (arith, c.in-len2.len_at_least, c.in-len2.len_below))))

pub returns-in-len3-up : goal.returns-in-len3-up
returns-in-len3-up c =
    rw (c.after_each_byte.ensures, c.half_word_remainder_before-in-len3-up.ensures, c.byte_remainder-in-len3-up.ensures, c.byte_remainder-in-len3-up-2.ensures, c.byte_remainder-in-len3-up-3.ensures, c.from_le_bytes.ensures)
    (sym (fold-four_then c.args.remainder c.args.four.now c.args.others.now c.told-four c.fits-four
    ∙ fold-three_more _ c.args.others.now c.in-len3-up.len_at_least))
