use Rattle.durable_map.specs.Stores.{IsOpenMap}
use Rattle.client_tests.proofs.map_chain.change_some.Given as goal

abbrev pub invariant-loop-change : goal.invariant-loop-change
invariant-loop-change g l = IsOpenMap l.map
