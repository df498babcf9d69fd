use Rattle.std.proofs.Common.{◌≡◌, ◌∷◌, ◌++◌, [], true, sym, subst}
use Rattle.segment_disk.specs.declared.disk.CallKind.{CallKind}
use Rattle.hosted_disk.specs.Untouched.{is_kind_within}
use Rattle.hosted_disk.proofs.Untouched.{all_within_more, within_push}
use Rattle.hosted_disk.proofs.touched.Touched.with.Goals as goal

pub returns-in-Write : goal.returns-in-Write
returns-in-Write c = λ calls all.
    within_push c.with_page.result calls c.args.call.now (c.with_page.ensures.grows calls all)
    (subst (λ (k : CallKind). is_kind_within c.with_page.result c.args.call.now.segment k ≡ true)
    (sym c.in-Write.is) (c.with_page.ensures.page c.in-Write.bytes))

pub returns-in-Create : goal.returns-in-Create
returns-in-Create c = λ calls all. all_within_more (calls ++ c.args.call.now ∷ [])
