use Rattle.std.proofs.Common.{◌≡◌, ℕ, ◌+◌, ◌<◌, List, ◌++◌, length, get_or, drop, ap, sym, ◌∙◌, append_assoc, arith}
use Rattle.std.proofs.lemmas.List.{at_drop_more}
use Rattle.wal_types.specs.declared.record.Block.{Block}
use Rattle.waldump_text.specs.Put.{joined}
use Rattle.cluster_listing.specs.Line.{block_reference, blocks_line}
use Rattle.cluster_listing.proofs.line.push_blocks.Goals as goal

-- the first of the blocks to come goes behind what stands there
one_more : (past now : List ℕ) (blocks : List Block) (i : ℕ) (b : Block) → i < length blocks → b ≡ get_or blocks i b → now ≡ past ++ joined (block_reference b) → now ++ blocks_line (drop (i + 1) blocks) ≡ past ++ blocks_line (drop i blocks)
one_more past now blocks i b within is pushed =
    let rest = blocks_line (drop (i + 1) blocks) in
    ap (λ text. text ++ rest) pushed
    ∙ append_assoc past (joined (block_reference b)) rest
    ∙ sym (ap (λ text. past ++ text) (at_drop_more blocks_line blocks i b within ∙ ap (λ (x : Block). joined (block_reference x) ++ rest) (sym is)))

pub loop-block-preserved : goal.loop-block-preserved
loop-block-preserved c = one_more _ _ c.args.blocks.now c.loop-block.block-index c.block-item.result (omega arith) c.block-item.is c.in_ok-push_block.ensures ∙ c.loop-block.invariant
