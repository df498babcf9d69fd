use Rattle.byte_position.proofs.SegmentSizes.{segment_size_is_power, segment_size_tests, segment_size_in_pages}
use Rattle.byte_position.proofs.geometry.segment_sizes_are_whole_pages.Goals as goal

pub returns : goal.returns
returns c = record {
  power = segment_size_is_power;
  whole = λ size valid. (segment_size_in_pages size valid).0;
  bounds = λ size valid. ((segment_size_tests size valid).1, (segment_size_tests size valid).2);
  pages = λ size valid. (segment_size_in_pages size valid).1;
}
