use Rattle.std.proofs.Common.{◌++◌, codes}
use Rattle.cluster_listing.specs.Line.{blocks_line, ended_text, line_head, shown_text}
use Rattle.cluster_listing.proofs.TextLaws.{four_behind, two_behind}
use Rattle.cluster_listing.proofs.line.push_line.Goals as goal

pub returns : goal.returns
returns c =
    let r = c.args.r.now in
    let main = rw c.as_slice.ensures at c.in_ok-push_main.ensures in
    let blocks = rw c.as_slice-2.ensures at c.in_ok-push_blocks.ensures in
    let end = two_behind c.push_time.new.line.items c.push_blocks.new.line.items c.extend_from_slice.new.self.items (blocks_line r.value.blocks) (codes "\n") blocks c.in_ok-extend_from_slice.ensures.items in
    four_behind c.args.line.now.items c.push_head.new.line.items c.push_main.new.line.items c.push_time.new.line.items c.extend_from_slice.new.self.items
    (line_head r) (shown_text c.args.whole r.value.main) (ended_text r.value) (blocks_line r.value.blocks ++ codes "\n") c.in_ok-push_head.ensures main c.in_ok-push_time.ensures end
