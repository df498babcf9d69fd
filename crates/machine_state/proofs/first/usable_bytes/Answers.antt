use Rattle.std.proofs.Common.{sym}
use Rattle.byte_position.proofs.Segments.{first_position-usable}
use Rattle.machine_state.proofs.first.usable_bytes.Goals as goal

pub returns : goal.returns
returns c = sym (first_position-usable c.args.segment_size c.requires)
