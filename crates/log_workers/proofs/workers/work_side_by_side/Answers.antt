use Rattle.std.proofs.Common.{List, ◌∙◌, length, map, ap, arith, drop, subst, sym}
use Rattle.std.proofs.lemmas.List.{length-map, take_at}
use Rattle.wal_rule.specs.Passes.{view_of_pass}
use Rattle.wal_log.specs.Logs.{setup_of_log}
use Rattle.wal_log.specs.Sharing.{ShareNumbers}
use Rattle.wal_log.proofs.Lanes.{views_keep_each}
use Rattle.log_workers.specs.Workers.{view_of_worker}
use Rattle.log_workers.specs.declared.worker.Worker.{Worker}
use Rattle.log_workers.proofs.workers.work_side_by_side.Goals as goal

pub join_workers-requires-clause-numbers : goal.join_workers-requires-clause-numbers
join_workers-requires-clause-numbers g c =
    let passes = (setup_of_log c.args.log.now).passes in
    let first = view_of_pass c.split_workers.new.first in
    let lent = c.deref_mut.ensures.value in
    let old = c.deref_mut.result.now in
    let new = c.run_workers.new.workers in
    let len = ap (λ (workers : List Worker). length workers) lent in
    let all = c.in_ok-workers.workers.ok.0 in
    let same = c.run_workers.auto.workers in
    rw (take_at new (drop (length new) c.in_ok-workers.workers.items) c.in_ok-workers.workers.len
    (omega (arith, len, all, same)))
    (c.passes_share_numbers.ensures.kept passes first (map (λ worker. view_of_worker worker) old)
    (map (λ worker. view_of_worker worker) new)
    (length-map new (λ worker. view_of_worker worker) ∙ same
    ∙ sym (length-map old (λ worker. view_of_worker worker)))
    (views_keep_each (λ worker. view_of_worker worker) old new same (λ k d below.
    c.calls_keep_numbers.ensures _ _ (c.run_workers.ensures.each k d below)))
    (subst (λ (workers : List Worker). ShareNumbers passes first (map (λ worker. view_of_worker worker) workers))
    (sym lent) c.in_ok-workers.ensures.numbers))
