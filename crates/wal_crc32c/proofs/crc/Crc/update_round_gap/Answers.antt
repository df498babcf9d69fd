use Rattle.std.proofs.Common.{◌∙◌}
use Rattle.wal_crc32c.proofs.Words.{fold-round_gap}
use Rattle.wal_crc32c.proofs.crc.Crc.update_round_gap.Goals as goal

pub returns : goal.returns
returns c = λ fed e.
    rw (c.half_word_remainder-self-inside.ensures, c.word_remainder_ahead-before.ensures, c.from.ensures)
    (fold-round_gap c.self.inside.remainder c.args.before c.args.behind fed c.ranges.before.fits c.ranges.behind.fits (c.self.view_is ∙ e))
