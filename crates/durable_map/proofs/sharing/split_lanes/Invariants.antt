use Rattle.std.proofs.Common.{◌-◌, ◌≤◌, length}
use Rattle.durable_map.proofs.LaneLaws.{IsDealing}
use Rattle.durable_map.proofs.sharing.split_lanes.Given as goal

-- enough numbers are left for the lanes to come
abbrev pub invariant-loop-entries : goal.invariant-loop-entries
invariant-loop-entries g l = record {
  spare : length l.entries-iterator.rest.items ≤ l.pass.spare_end - l.pass.spare;
  dealing : IsDealing l.log l.fn.pass l.pass l.lanes.items;
}
