use Rattle.std.proofs.Common.{◌≡◌, true, not, List, rules, subst, sym}
use Rattle.std.proofs.lemmas.Fn.{filter_same}
use Rattle.handed_pages.specs.Handed.{comes_before, has_pages}
use Rattle.handed_pages.specs.declared.page.HandedPage.{HandedPage}
use Rattle.handed_pages.proofs.PagesHeld.{has_some}
use Rattle.handed_pages.proofs.pages.HandedPages.forget_below.Goals as goal

pub returns : goal.returns
returns g c state held =
    subst (λ (pages : List HandedPage). has_pages state pages ≡ true)
    (sym (filter_same _ (λ (page : HandedPage).
    not (comes_before page.number c.of_address-first.result)) _ (λ x b f' k. search rules) _ _
    c.retain.ensures.filtered))
    (has_some state (λ (page : HandedPage). not (comes_before page.number
    c.of_address-first.result)) c.args.self.now.pages.items held)
