-- That a segment size is valid, as a fact that a type may keep.
use Rattle.std.specs.Prelude.{ℕ, true}
use Rattle.std.specs.Coded.{Coded-set, coded_bool}
use Rattle.byte_position.specs.Geometry.{IsSegmentSize, is_segment_size}

pub IsSegmentSize-prop : (size : ℕ) → IsProp (IsSegmentSize size)
IsSegmentSize-prop size = Coded-set coded_bool (is_segment_size size) true
