use Rattle.std.proofs.Common.{ℕ, List, ◌++◌, length, ap, sym, ◌∙◌}
use Rattle.std.proofs.lemmas.Result.{err_from_is_err_and}
use Rattle.std.proofs.lemmas.Map.Iter.{rest_all}
use Rattle.std.specs.List.{flat_map}
use Rattle.std.specs.Map.Iter.{deref_pair}
use Rattle.wal_redo.specs.MemBlocks.{stored_pages}
use Rattle.waldump_text.proofs.SinkLaws.{HasPut-more, HasPut-none, HasPut-same, Puts-failed, Puts-last}
use Rattle.wal_redo.specs.RedoText.{block_line, counts_line}
use Rattle.wal_redo.proofs.LineLaws.{lines_of, lines_of-next, lines_of-told}
use Rattle.wal_redo.proofs.lines.put_redone.Goals as goal

pub loop-block-init : goal.loop-block-init
loop-block-init g c =
    let counts = counts_line c.args.images (length (stored_pages c.args.blocks.now)) in
    let start = c.into_iter-block-iterator.ensures.into_iter_gives in
    let shown = ap (λ (text : List ℕ). text ++ counts) (ap (flat_map block_line) (sym c.iter-block-items.ensures.pages) ∙ lines_of-told (λ page. page.value) c.iter-block-items.result) in
    record {
      put = HasPut-same (HasPut-none _ _ _) (shown ∙ ap (λ entries. lines_of (λ page. page.value) entries ++ counts) (sym start));
    }

pub loop-block-preserved : goal.loop-block-preserved
loop-block-preserved g c =
    let before = c.loop-block.invariant in
    let counts = counts_line c.args.images (length (stored_pages c.args.blocks.now)) in
    let split = lines_of-next (λ page. page.value) c.loop-block.block-iterator c.next.new.self c.next.result c.in-Some.block c.in-Some.page c.in-Some.is c.next.ensures.steps c.deref.result.now c.deref.ensures counts in
    record {
      put = HasPut-more _ _ before.put split c.in_ok-put_block.ensures.0 c.in_ok-put_block.ensures.1;
    }

pub returns-in_err-put_block-clause-put : goal.returns-in_err-put_block-clause-put
returns-in_err-put_block-clause-put g c =
    let p = err_from_is_err_and c.from_residual.result c.from_residual.ensures.1 in
    let before = c.loop-block.invariant in
    let counts = counts_line c.args.images (length (stored_pages c.args.blocks.now)) in
    let split = lines_of-next (λ page. page.value) c.loop-block.block-iterator c.next.new.self c.next.result c.in-Some.block c.in-Some.page c.in-Some.is c.next.ensures.steps c.deref.result.now c.deref.ensures counts in
    rw (p.1, p.2) (Puts-failed _ _ _ before.put split c.in_err-put_block.ensures)

pub returns-clause-put : goal.returns-clause-put
returns-clause-put g c =
    let before = c.loop-block.invariant in
    let none = rest_all deref_pair c.loop-block.block-iterator c.next.new.self c.next.result c.in-None.is c.next.ensures.steps in
    let counts = counts_line c.args.images (length (stored_pages c.args.blocks.now)) in
    let last = ap (λ entries. lines_of (λ page. page.value) entries ++ counts) none ∙ ap (counts_line c.args.images) (sym c.len.ensures) in
    Puts-last _ _ _ _ before.put last c.put_counts.ensures
