use Rattle.durable_map.proofs.Changed.{holds_behind}
use Rattle.durable_map.proofs.laws.changes_grow_by_one.Goals as goal

pub returns : goal.returns
returns c = holds_behind
