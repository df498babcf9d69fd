-- A list has a number for each undecided word.
use Rattle.segment_disk.proofs.ListLaws.{picked_by_list}
use Rattle.segment_disk.proofs.laws.every_image_left_is_that_of_a_list.Goals as goal

pub returns : goal.returns
returns c = picked_by_list
