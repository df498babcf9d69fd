use Rattle.std.proofs.Common.{None, ap}
use Rattle.byte_position.specs.Geometry.{IsSegmentSize}
use Rattle.wal_reader.specs.SegmentSizes.{IsSegmentSize-prop}
use Rattle.wal_reader.specs.declared.buffers.Buffers.{Buffers}
use Rattle.wal_reader.proofs.buffers.Buffers.forget_page.Goals as goal

-- the fact that the size is valid is the same one still
pub returns : goal.returns
returns c =
    let old = c.args.self.now in
    let forgotten : IsSegmentSize old.cache.geometry → Buffers =
    λ valid. record old { cache = record old.cache { number = None; valid = valid } } in
    ap forgotten (IsSegmentSize-prop old.cache.geometry _ old.cache.valid)
