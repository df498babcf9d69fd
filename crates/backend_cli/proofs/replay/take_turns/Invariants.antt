use Rattle.std.proofs.Common.{◌≡◌, length, replicate}
use Rattle.machine_turns.specs.Doing.{Machine}
use Rattle.machine_turns.specs.Turned.{machine_behind}
use Rattle.wal_core.specs.Cores.{IsPlayed, core_of}
use Rattle.wal_core.specs.Playing.{PlaysMachine}
use Rattle.backend_cli.proofs.replay.take_turns.Given as goal

-- so many turns were had
abbrev pub invariant-loop : goal.invariant-loop
invariant-loop l = record {
  plays : (m : Machine) → PlaysMachine (core_of l.fn.core) m → PlaysMachine (core_of l.core) (machine_behind m (replicate l.counter l.item.backend));
  played : IsPlayed l.core;
  lanes : length (core_of l.core).lanes ≡ length (core_of l.fn.core).lanes;
}
