use Rattle.std.proofs.Common.{◌≡◌, true, List, ap, subst, sym, ◌∙◌}
use Rattle.handed_pages.specs.Handed.{has_pages, page_of_log}
use Rattle.handed_pages.specs.declared.page.HandedPage.{HandedPage}
use Rattle.handed_pages.proofs.PagesHeld.{has_one_more}
use Rattle.handed_pages.proofs.pages.HandedPages.hand_in.Goals as goal

pub returns-clause-held : goal.returns-clause-held
returns-clause-held g c state held is =
    subst (λ (pages : List HandedPage). has_pages state pages ≡ true)
    (sym c.in_ok-push.ensures.items)
    (has_one_more state c.args.self.now.pages.items c.of.result held
    (ap (page_of_log state) c.of.ensures.number ∙ is ∙ sym c.of.ensures.bytes))
