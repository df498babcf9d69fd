use Rattle.std.proofs.Common.{◌≡◌, true, sym, ◌∙◌, subst}
use Rattle.handed_pages.specs.Handed.{comes_before}
use Rattle.hosted_disk.specs.Untouched.{are_within}
use Rattle.hosted_disk.specs.declared.touched.Touched.{Touched}
use Rattle.hosted_disk.proofs.Untouched.{within_from_none, within_further}
use Rattle.hosted_disk.proofs.touched.Touched.with_page.Goals as goal

pub returns-in-Nothing-clause-grows : goal.returns-in-Nothing-clause-grows
returns-in-Nothing-clause-grows c = λ calls all. within_from_none c.args.number calls
    (subst (λ (t : Touched). are_within t calls ≡ true) c.in-Nothing.is all)

pub returns-then-leaves-clause-grows : goal.returns-then-leaves-clause-grows
returns-then-leaves-clause-grows c =
    let low : comes_before c.in-UpTo.last c.args.number ≡ true =
    sym c.leaves.ensures ∙ c.if-leaves.true in
    λ calls all. within_further c.in-UpTo.last c.args.number low calls
    (subst (λ (t : Touched). are_within t calls ≡ true) c.in-UpTo.is all)
