use Rattle.std.proofs.Common.{◌-◌, ◌≤◌, length, map}
use Rattle.wal_rule.specs.Passes.{view_of_pass}
use Rattle.wal_log.specs.Logs.{IsPassOfLog, setup_of_log}
use Rattle.wal_log.specs.Sharing.{ShareNumbers}
use Rattle.log_workers.specs.Workers.{AreWorkersOf, view_of_worker}
use Rattle.log_workers.proofs.workers.split_workers.Given as goal

-- the workers so far share the numbers, and enough are left for the others
abbrev pub invariant-loop-jobs : goal.invariant-loop-jobs
invariant-loop-jobs g l = IsPassOfLog l.log l.first
    × (length l.jobs-iterator.rest.items ≤ l.first.spare_end - l.first.spare)
    × AreWorkersOf l.log l.workers.items
    × ShareNumbers (setup_of_log l.log).passes (view_of_pass l.first)
    (map (λ worker. view_of_worker worker) l.workers.items)
