use Rattle.std.proofs.Common.{sym, refl, ◌∙◌, arith}
use Rattle.std.proofs.lemmas.Bool.{both_ways}
use Rattle.byte_position.proofs.SegmentSizes.{segment_size_tests, IsSegmentSize-from_power}
use Rattle.byte_position.proofs.geometry.Geometry.new.Goals as goal
use Rattle.byte_position.proofs.geometry.Geometry.new.Goals.{in_default-via-then-segment_size-lt1048576, in_default-via-in-1048576-to-1073741824+else-is_power_of_two, in_default-via-else-segment_size-lt1048576+else-segment_size-lt1073741825}

pub invariant_of-result : goal.invariant_of-result
invariant_of-result c =
    IsSegmentSize-from_power c.args.segment_size (sym c.is_power_of_two.ensures ∙ c.if-is_power_of_two.true) (omega arith) (omega arith)

pub returns-in-1048576-to-1073741824 : goal.returns-in-1048576-to-1073741824
returns-in-1048576-to-1073741824 c =
    (IsSegmentSize-from_power c.args.segment_size (sym c.is_power_of_two.ensures ∙ c.if-is_power_of_two.true) (omega arith) (omega arith), refl)

pub returns-in_default : goal.returns-in_default
returns-in_default c = λ h.
    let tests = segment_size_tests c.args.segment_size h in
    elim c.in_default.branch [ in_default-via-then-segment_size-lt1048576 w ↦ omega (arith, tests.1) | in_default-via-in-1048576-to-1073741824+else-is_power_of_two w ↦ both_ways _ w.if-is_power_of_two.false (w.is_power_of_two.ensures ∙ tests.0) | in_default-via-else-segment_size-lt1048576+else-segment_size-lt1073741825 w ↦ omega (arith, tests.2) ]
