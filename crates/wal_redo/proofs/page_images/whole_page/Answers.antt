use Rattle.wal_redo.proofs.ImageLaws.{all_bytes, whole_page}
use Rattle.wal_redo.proofs.page_images.whole_page.Goals as goal

pub returns-clause-page : goal.returns-clause-page
returns-clause-page c = whole_page c.args.image.now c.as_slice.result.now c.as_array.result c.requires c.as_slice.ensures c.as_array.ensures.cases

pub returns-clause-without_hole : goal.returns-clause-without_hole
returns-clause-without_hole c =
    let variant = c.as_array.ensures.variant in
    let all = all_bytes c.args.image.now c.as_slice.result.now c.requires c.as_slice.ensures in
    (λ some. all.0 (variant.0 some), λ none. variant.1 (all.1 none))
