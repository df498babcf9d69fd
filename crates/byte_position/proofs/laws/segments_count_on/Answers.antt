use Rattle.byte_position.proofs.Segments.{position_of-next_segment, position_of-segment, first_position-usable}
use Rattle.byte_position.proofs.laws.segments_count_on.Goals as goal

pub returns : goal.returns
returns c = record {
  next_segment = λ size n valid. position_of-next_segment size valid n;
  segment = λ size n valid. position_of-segment size valid n;
  first = λ size valid. first_position-usable size valid;
}
