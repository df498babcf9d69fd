use Rattle.std.proofs.Common.{sym, ◌∙◌, rules}
use Rattle.byte_position.specs.Geometry.{IsSegmentSize}
use Rattle.byte_position.proofs.Headers.{behind_header-inside}
use Rattle.byte_position.proofs.position.walk_behind_header.Goals as goal

pub loop-geometry-preserved : goal.loop-geometry-preserved
loop-geometry-preserved c =
    let valid : IsSegmentSize c.args.geometry = search rules in
    behind_header-inside c.args.geometry valid c.loop-geometry.address (sym c.is_in_header.ensures ∙ c.loop-geometry-test.true) ∙ c.loop-geometry.invariant
