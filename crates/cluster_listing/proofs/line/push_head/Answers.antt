use Rattle.waldump_text.specs.Put.{joined}
use Rattle.cluster_listing.specs.Line.{manager_part, place_pieces, sizes_part, xid_part}
use Rattle.cluster_listing.proofs.TextLaws.{four_or_none}
use Rattle.cluster_listing.proofs.line.push_head.Goals as goal

pub returns : goal.returns
returns c =
    let r = c.args.r.now in
    four_or_none c.push_places.result c.args.line.now.items c.push_manager.new.line.items c.push_sizes.new.line.items c.push_xid.new.line.items c.push_places.new.line.items
    (manager_part r) (sizes_part r) (xid_part r) (joined (place_pieces r)) c.in_ok-push_manager.ensures c.in_ok-push_sizes.ensures c.in_ok-push_xid.ensures c.push_places.ensures
