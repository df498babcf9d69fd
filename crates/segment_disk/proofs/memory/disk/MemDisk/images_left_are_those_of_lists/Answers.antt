-- A list has a number for each undecided word, that of a write.
use Rattle.std.proofs.Common.{◌+◌, length, arith}
use Rattle.segment_disk.specs.First.{first_state}
use Rattle.segment_disk.specs.MemDisk.{state_behind}
use Rattle.segment_disk.proofs.PickLaws.{few_writes, gone_above, total}
use Rattle.segment_disk.proofs.ListLaws.{picked_by_list}
use Rattle.segment_disk.proofs.memory.disk.MemDisk.images_left_are_those_of_lists.Goals as goal

pub returns : goal.returns
returns c =
    let numbers = c.args.self.now.segments.numbers.items in
    λ moment image left.
    picked_by_list (state_behind c.args.self.now moment) (total numbers + 1) (length c.args.self.now.calls.made.items) image
    (λ segment above. gone_above (first_state c.args.self.now.first.items) c.args.self.now.calls.made.items numbers c.args.self.now.present moment segment (omega arith))
    (few_writes c.args.self.now.first.items c.args.self.now.calls.made.items moment) left
