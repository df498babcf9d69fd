use Rattle.std.proofs.Common.{ap, option_map, sym, ◌∙◌}
use Rattle.std.specs.Map.Iter.{deref_pair}
use Rattle.std.proofs.lemmas.Iterator.Consumers.{YieldsList-from_rest, nth_from_yields_List}
use Rattle.wal_redo.proofs.StoreLaws.{told_at, told_in_order}
use Rattle.wal_redo.proofs.mem_blocks.MemBlocks.at.Goals as goal

pub returns-clause-ordered : goal.returns-clause-ordered
returns-clause-ordered c = told_in_order (λ page. page.value) c.args.self.now.pages.entries c.iter.ensures.ordered

pub returns-in_err-block-clause-ordered : goal.returns-in_err-block-clause-ordered
returns-in_err-block-clause-ordered c = told_in_order (λ page. page.value) c.args.self.now.pages.entries c.iter.ensures.ordered

pub returns-clause-page : goal.returns-clause-page
returns-clause-page c =
    let at = nth_from_yields_List c.nth.result c.nth.new.self c.args.place c.nth.ensures.ran (YieldsList-from_rest c.args.self.now.pages.entries c.iter.ensures.rest) in
    let found = ap (option_map deref_pair) c.in_ok-block.was in
    sym (told_at (λ page. page.value) c.args.self.now.pages.entries c.args.place c.in_ok-block.block.now c.in_ok-block.page.now c.deref.result.now c.deref.ensures (sym at ∙ found))
