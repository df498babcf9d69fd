use Rattle.std.proofs.Common.{◌≡◌, ◌++◌, [], ◌∷◌, Vec, Global, List, length, map, ap, arith, subst, sym}
use Rattle.std.proofs.lemmas.List.Elements.{All-nil, All-push}
use Rattle.wal_rule.specs.Passes.{view_of_pass}
use Rattle.machine_state.specs.Views.{View}
use Rattle.wal_log.specs.Logs.{setup_of_log}
use Rattle.wal_log.specs.declared.wal.Wal.{Wal}
use Rattle.wal_log.specs.Sharing.{ShareNumbers}
use Rattle.wal_log.proofs.Lanes.{views_with_one_more}
use Rattle.log_workers.specs.Workers.{AreWorkersOf, IsWorkerOf, view_of_worker}
use Rattle.log_workers.specs.declared.worker.Job.{Job}
use Rattle.log_workers.specs.declared.worker.Worker.{Worker}
use Rattle.log_workers.proofs.workers.split_workers.Goals as goal

one_worker_more : {D : Type 0} (wal : Wal D) (old new : List Worker) (worker : Worker)
    → new ≡ old ++ worker ∷ [] → AreWorkersOf wal old → IsWorkerOf wal worker → AreWorkersOf wal new
one_worker_more wal old new worker pushed all one =
    subst (AreWorkersOf wal) (sym pushed) (All-push (IsWorkerOf wal) old worker all one)

pub loop-jobs-init : goal.loop-jobs-init
loop-jobs-init g c =
    let passes = (setup_of_log c.args.log.now).passes in
    let first = view_of_pass c.args.first.now in
    let len = ap (λ (x : List (Vec Job Global)). length x)
    c.into_iter-jobs-iterator.ensures.into_iter_gives.0 in
    let none = c.in_ok-workers.ensures.items in (
      c.requires.pass,
      (let asked = c.requires.spare in let vec = c.args.work.ok.0 in omega (arith, len, asked, vec)),
      subst (AreWorkersOf c.args.log.now) (sym none) (All-nil (IsWorkerOf c.args.log.now)),
      subst (λ (workers : List Worker). ShareNumbers passes first (map (λ worker. view_of_worker worker) workers))
          (sym none) (c.passes_share_numbers.ensures.none passes first c.requires.numbers),
    )

pub loop-jobs-preserved : goal.loop-jobs-preserved
loop-jobs-preserved g c =
    let passes = (setup_of_log c.args.log.now).passes in
    let first = view_of_pass c.loop-jobs.first in
    let workers = c.loop-jobs.workers.items in
    let left = c.split-pass.ensures.left in
    let right = c.split-pass.ensures.right in
    let mine = (c.loop-jobs.invariant.0).of_log.numbers in
    let theirs = (left.0).of_log.numbers in
    let low = ap (λ (v : View). (v.reserving).spare) left.1 in
    let high = ap (λ (v : View). (v.reserving).spare_end) left.1 in
    let next = ap (λ (x : List (Vec Job Global)). length x) c.in-Some.ensures.steps.0 in
    let pushed = c.in_ok-push.ensures.items in (
      left.0,
      (let enough = c.loop-jobs.invariant.1 in
          let a = mine.low in let b = mine.high in let x = theirs.low in let y = theirs.high in
          omega (arith, enough, next, a, b, x, y, low, high)),
      one_worker_more c.args.log.now _ _ _ pushed c.loop-jobs.invariant.2 (record {
        pass = right.0;
        none_to_give = ap (λ (v : View). (v.reserving).spare_end) right.1;
      }),
      rw (left.1, views_with_one_more (λ worker. view_of_worker worker) _ _ _ _ pushed right.1)
          (c.passes_share_numbers.ensures.split passes first
          (map (λ worker. view_of_worker worker) workers) c.loop-jobs.invariant.3),
    )
