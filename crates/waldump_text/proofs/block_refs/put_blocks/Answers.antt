use Rattle.std.proofs.Common.{◌≡◌, ℕ, ◌+◌, ◌<◌, List, ◌++◌, length, get_or, drop, refl, ap, sym, ◌∙◌, append_assoc, arith}
use Rattle.std.proofs.lemmas.List.{at_drop_more}
use Rattle.std.proofs.lemmas.Result.{err_from_is_err_and}
use Rattle.wal_types.specs.declared.record.Block.{Block}
use Rattle.waldump_text.specs.Put.{joined}
use Rattle.waldump_text.specs.Listing.{block_pieces, blocks_text}
use Rattle.waldump_text.proofs.SinkLaws.{HasPut-further, HasPut-same, Puts-failed}
use Rattle.waldump_text.proofs.block_refs.put_blocks.Goals as goal

-- the first of the blocks to come goes behind what is held back
one_more : (held now : List ℕ) (blocks : List Block) (i : ℕ) (b : Block) → i < length blocks → b ≡ get_or blocks i b → now ≡ held ++ joined (block_pieces b) → held ++ blocks_text (drop i blocks) ≡ now ++ blocks_text (drop (i + 1) blocks)
one_more held now blocks i b within is pushed =
    let rest = blocks_text (drop (i + 1) blocks) in
    ap (λ text. held ++ text) (at_drop_more blocks_text blocks i b within ∙ ap (λ (x : Block). joined (block_pieces x) ++ rest) (sym is))
    ∙ sym (append_assoc held (joined (block_pieces b)) rest)
    ∙ ap (λ text. text ++ rest) (sym pushed)

pub loop-block-preserved : goal.loop-block-preserved
loop-block-preserved g c =
    let room = HasPut-further c.loop-block.buffer (blocks_text (drop c.loop-block.block-index c.args.blocks.now)) c.loop-block.invariant refl c.in_ok-make_room.ensures.put in
    HasPut-same room (one_more _ _ c.args.blocks.now c.loop-block.block-index c.block-item.result (omega arith) c.block-item.is c.push_block.ensures)

pub returns-in_err-make_room : goal.returns-in_err-make_room
returns-in_err-make_room g c =
    let p = err_from_is_err_and c.from_residual.result c.from_residual.ensures.1 in
    rw (p.1, p.2) (Puts-failed c.loop-block.buffer (blocks_text (drop c.loop-block.block-index c.args.blocks.now)) _ c.loop-block.invariant refl c.in_err-make_room.ensures.put)
