use Rattle.std.proofs.Common.{◌≡◌, ◌+◌, ◌≤◌, ◌++◌, All, length}
use Rattle.std.specs.Prelude.{vec_capacity}
use Rattle.run_backends.specs.Backends.{HasRoom, scripts_of}
use Rattle.run_backends.proofs.playing.Room.of.Given as goal

-- there are backends with the first lines, and room for one with each of the others
abbrev pub invariant-loop-lines : goal.invariant-loop-lines
invariant-loop-lines l = record {
  lines : scripts_of l.backends.items ++ l.lines-iterator.rest.items ≡ l.fn.scripts.items;
  each : All HasRoom l.backends.items;
  room : length l.backends.items + length l.lines-iterator.rest.items ≤ vec_capacity l.backends;
}
