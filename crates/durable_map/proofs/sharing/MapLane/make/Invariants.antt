use Rattle.std.proofs.Common.{◌+◌, ◌≤◌, length}
use Rattle.std.specs.VecDeque.{deque_capacity, deque_len}
use Rattle.durable_map.specs.Stores.{IsPartOfLog}
use Rattle.durable_map.proofs.LaneCalls.{IsWorking}
use Rattle.durable_map.proofs.sharing.MapLane.make.Given as goal

-- there is room for what the calls to come are told
abbrev pub invariant-loop-call : goal.invariant-loop-call
invariant-loop-call g l = record {
  room : deque_len l.self.told + length l.call-iterator.rest.items
      ≤ deque_capacity l.self.told;
  pass : IsPartOfLog l.log l.self.part;
  works : IsWorking l.log l.fn.calls.items l.fn.self l.self l.call-iterator.rest.items;
}
