use Rattle.std.proofs.Common.{[]}
use Rattle.std.specs.Option.{option_map_or}
use Rattle.waldump_text.specs.Put.{joined}
use Rattle.cluster_listing.specs.Json.{blocks_field, main_field, object_head, time_field}
use Rattle.cluster_listing.specs.Line.{ended_time}
use Rattle.cluster_listing.proofs.TextLaws.{four_or_none}
use Rattle.cluster_listing.proofs.json.push_object.Goals as goal

pub returns : goal.returns
returns c =
    let r = c.args.r.now in
    let main = rw c.as_slice.ensures at c.in_ok-push_main_field.ensures in
    let blocks = rw c.as_slice-2.ensures at c.push_blocks_field.ensures in
    four_or_none c.push_blocks_field.result c.args.line.now.items c.push_object_head.new.line.items c.push_main_field.new.line.items c.push_time_field.new.line.items c.push_blocks_field.new.line.items
    (joined (object_head r)) (main_field c.args.whole r.value.main) (option_map_or time_field (ended_time r.value) []) (blocks_field r.value.blocks) c.in_ok-push_object_head.ensures main c.in_ok-push_time_field.ensures blocks
