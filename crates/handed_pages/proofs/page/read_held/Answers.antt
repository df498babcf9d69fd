use Rattle.handed_pages.proofs.PagesHeld.{one_as_handed, read_of_one}
use Rattle.handed_pages.proofs.page.read_held.Goals as goal

-- src/page.rt:85:13
pub returns-then-held-number-2 : goal.returns-then-held-number-2
returns-then-held-number-2 c state has =
    read_of_one state _ c.args.number
    (one_as_handed state c.args.pages.now c.loop-held.held-index _ c.loop-held-test.true has)
    c.if-held-number.true c.if-held-number-2.true c.read_into.result c.read_into.new.bytes
    c.read_into.ensures.read
