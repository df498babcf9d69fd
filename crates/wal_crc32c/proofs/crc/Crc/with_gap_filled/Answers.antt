use Rattle.std.proofs.Common.{◌∙◌}
use Rattle.wal_crc32c.proofs.Words.{fold-gap_filled}
use Rattle.wal_crc32c.proofs.crc.Crc.with_gap_filled.Goals as goal

pub returns : goal.returns
returns c = λ fed four four_bytes e.
    rw c.word_remainder_before_half.ensures
    (fold-gap_filled c.self.inside.remainder c.args.word fed four c.ranges.word.fits four_bytes (c.self.view_is ∙ e))
