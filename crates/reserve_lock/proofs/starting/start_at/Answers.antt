use Rattle.std.proofs.Common.{subst, arith}
use Rattle.byte_position.specs.Geometry.{IsSegmentSize}
use Rattle.reserve_lock.proofs.StartLaws.{start_first, start_inside, start_other}
use Rattle.reserve_lock.proofs.starting.start_at.Goals as goal

pub returns-then-behind-ne0-clause-address : goal.returns-then-behind-ne0-clause-address
returns-then-behind-ne0-clause-address c =
    start_inside c.args.geometry
    (subst IsSegmentSize c.segment_size-size.ensures.value c.segment_size-size.ensures.valid)
    c.args.at c.args.behind.0 c.requires.behind c.if-behind-ne0.true

pub returns-then-behind-size-eq0-clause-address : goal.returns-then-behind-size-eq0-clause-address
returns-then-behind-size-eq0-clause-address c =
    start_first c.args.geometry
    (subst IsSegmentSize c.segment_size-size.ensures.value c.segment_size-size.ensures.valid)
    c.args.at c.args.behind.0 c.requires.behind c.segment_size-size.result
    c.segment_size-size.ensures.value (omega (arith, c.if-behind-ne0.false))
    c.if-behind-size-eq0.true

pub returns-else-behind-size-eq0-clause-address : goal.returns-else-behind-size-eq0-clause-address
returns-else-behind-size-eq0-clause-address c =
    start_other c.args.geometry
    (subst IsSegmentSize c.segment_size-size.ensures.value c.segment_size-size.ensures.valid)
    c.args.at c.args.behind.0 c.requires.behind c.segment_size-size.result
    c.segment_size-size.ensures.value (omega (arith, c.if-behind-ne0.false))
    c.if-behind-size-eq0.false
