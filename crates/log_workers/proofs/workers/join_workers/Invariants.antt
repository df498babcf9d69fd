use Rattle.std.proofs.Common.{map}
use Rattle.wal_rule.specs.Passes.{view_of_pass}
use Rattle.wal_log.specs.Logs.{IsPassOfLog, setup_of_log}
use Rattle.wal_log.specs.Sharing.{ShareNumbers}
use Rattle.log_workers.specs.Workers.{AreWorkersOf, view_of_worker}
use Rattle.log_workers.proofs.workers.join_workers.Given as goal

-- the pass and the workers that are left share the numbers
abbrev pub invariant-loop-worker : goal.invariant-loop-worker
invariant-loop-worker g l = IsPassOfLog l.log l.first
    × AreWorkersOf l.log l.worker-iterator.rest.items
    × ShareNumbers (setup_of_log l.log).passes (view_of_pass l.first)
    (map (λ worker. view_of_worker worker) l.worker-iterator.rest.items)
