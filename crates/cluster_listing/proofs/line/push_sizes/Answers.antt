use Rattle.std.proofs.Common.{codes}
use Rattle.std.specs.Fmt.{decimal}
use Rattle.waldump_text.specs.Put.{padded_left}
use Rattle.cluster_listing.specs.Line.{len_without_images}
use Rattle.cluster_listing.proofs.TextLaws.{four_or_none}
use Rattle.cluster_listing.proofs.line.push_sizes.Goals as goal

pub returns : goal.returns
returns c =
    let r = c.args.r.now in
    let len = rw c.len_without_images-len.ensures at c.in_ok-push_right_aligned.ensures in
    four_or_none c.push_right_aligned-2.result c.args.line.now.items c.extend_from_slice.new.self.items c.push_right_aligned.new.line.items c.extend_from_slice-2.new.self.items c.push_right_aligned-2.new.line.items
    (codes " len (rec/tot): ") (padded_left 6 (decimal (len_without_images r))) (codes "/") (padded_left 6 (decimal r.total)) c.in_ok-extend_from_slice.ensures.items len c.in_ok-extend_from_slice-2.ensures.items c.push_right_aligned-2.ensures
