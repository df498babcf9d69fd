use Rattle.std.proofs.Common.{◌≡◌, ◌++◌, fold, ap, ◌∙◌, sym}
use Rattle.std.proofs.lemmas.List.{take-append-drop}
use Rattle.std.proofs.lemmas.List.Sums.{fold-append}
use Rattle.wal_crc32c.specs.Crc32c.{after_byte}
use Rattle.wal_crc32c.specs.Folding.{six_remainder}
use Rattle.wal_crc32c.proofs.folding.after_blocks.Goals as goal

pub loop-block-preserved : goal.loop-block-preserved
loop-block-preserved c =
    let split = c.in-Some.ensures.cases in
    let whole : c.in-Some.block.now ++ c.in-Some.others.now ≡ c.loop-block.rest.now = rw (split.0, split.1) (take-append-drop 96 c.loop-block.rest.now) in
    let before = six_remainder c.loop-block.six in
    ap (λ r. fold after_byte r c.in-Some.others.now) c.after_block-six.ensures
    ∙ sym (fold-append after_byte before c.in-Some.block.now c.in-Some.others.now)
    ∙ ap (fold after_byte before) whole
    ∙ c.loop-block.invariant
