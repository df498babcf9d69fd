use Rattle.std.proofs.Common.{◌≡◌, ℕ, ◌+◌, ◌<◌, List, ◌++◌, codes, length, get_or, drop, ap, sym, ◌∙◌, append_assoc, arith}
use Rattle.std.proofs.lemmas.List.{at_drop_more}
use Rattle.wal_types.specs.declared.record.Block.{Block}
use Rattle.cluster_listing.specs.Json.{block_object, blocks_behind}
use Rattle.cluster_listing.proofs.json.push_block_objects.Goals as goal

-- the first of the blocks to come goes behind what stands there
one_more : (past mid now before : List ℕ) (blocks : List Block) (i : ℕ) (b : Block) → i < length blocks → b ≡ get_or blocks i b → mid ≡ past ++ before → now ≡ mid ++ block_object b → now ++ blocks_behind (codes ",") (drop (i + 1) blocks) ≡ past ++ blocks_behind before (drop i blocks)
one_more past mid now before blocks i b within is parted pushed =
    let rest = blocks_behind (codes ",") (drop (i + 1) blocks) in
    ap (λ text. text ++ rest) (pushed ∙ ap (λ text. text ++ block_object b) parted)
    ∙ append_assoc (past ++ before) (block_object b) rest
    ∙ append_assoc past before (block_object b ++ rest)
    ∙ sym (ap (λ text. past ++ text) (at_drop_more (blocks_behind before) blocks i b within ∙ ap (λ (x : Block). before ++ (block_object x ++ rest)) (sym is)))

pub loop-block-preserved : goal.loop-block-preserved
loop-block-preserved c = one_more _ _ _ _ c.args.blocks.now c.loop-block.block-index c.block-item.result (omega arith) c.block-item.is c.in_ok-extend_from_slice.ensures.items c.in_ok-push_block_object.ensures ∙ c.loop-block.invariant
