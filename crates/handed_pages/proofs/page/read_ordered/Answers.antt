use Rattle.std.proofs.Common.{sym}
use Rattle.handed_pages.proofs.PagesHeld.{one_as_handed, read_of_one}
use Rattle.handed_pages.proofs.page.read_ordered.Goals as goal

-- src/page.rt:97:13
pub returns-then-number-held-2 : goal.returns-then-number-held-2
returns-then-number-held-2 c state has =
    read_of_one state _ c.args.number
    (one_as_handed state c.args.pages.now c.partition_point-at.result _ c.if-at-pages.true has)
    (sym c.if-number-held.true) (sym c.if-number-held-2.true) c.read_into.result
    c.read_into.new.bytes c.read_into.ensures.read
