use Rattle.durable_map.proofs.Spelled.{memory_alone}
use Rattle.durable_map.proofs.change.body_of.Goals as goal

pub unreachable-requires : goal.unreachable-requires
unreachable-requires c =
    c.in_default.not-Memory
    (memory_alone c.in-Err.fault c.args.info c.args.main.now c.requires c.in-Err.ensures.which)
