use Rattle.std.proofs.Common.{◌≡◌, ◌<◌, All, drop, length}
use Rattle.run_script.specs.Turns.{backends_in_turn}
use Rattle.machine_turns.specs.Doing.{Machine}
use Rattle.machine_turns.specs.Turned.{machine_behind}
use Rattle.wal_core.specs.Cores.{IsPlayed, core_of}
use Rattle.wal_core.specs.Playing.{PlaysMachine}
use Rattle.backend_cli.proofs.replay.take_all_turns.Given as goal

-- the turns of the items so far were had: behind those of the items that are left is the end
abbrev pub invariant-loop-item : goal.invariant-loop-item
invariant-loop-item l = record {
  plays : (m : Machine) → PlaysMachine (core_of l.fn.core) m → (now : Machine) × PlaysMachine (core_of l.core) now × (machine_behind now (backends_in_turn (drop (l.item-index) l.schedule)) ≡ machine_behind m (backends_in_turn l.schedule));
  played : IsPlayed l.core;
  there : All (λ backend. backend < length (core_of l.core).lanes) (backends_in_turn (drop l.item-index l.schedule));
}
