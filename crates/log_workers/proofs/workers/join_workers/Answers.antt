use Rattle.std.proofs.Common.{ℕ, List, arith, map, subst, sym}
use Rattle.std.proofs.lemmas.List.{nil_from_length}
use Rattle.std.proofs.lemmas.List.Elements.{All-head, All-tail}
use Rattle.wal_rule.specs.Passes.{view_of_pass}
use Rattle.machine_state.specs.Views.{View}
use Rattle.wal_log.specs.Logs.{setup_of_log}
use Rattle.wal_log.specs.Sharing.{ShareNumbers}
use Rattle.log_workers.specs.Workers.{AreWorkersOf, IsWorkerOf, view_of_worker}
use Rattle.log_workers.specs.declared.worker.Worker.{Worker}
use Rattle.log_workers.proofs.workers.join_workers.Goals as goal

-- a view and workers share so many numbers
abbrev Share : ℕ → View → List Worker → Type 0
Share passes v workers = ShareNumbers passes v (map (λ worker. view_of_worker worker) workers)

pub loop-worker-init : goal.loop-worker-init
loop-worker-init g c =
    let passes = (setup_of_log c.args.log.now).passes in
    let all = c.into_iter-worker-iterator.ensures.into_iter_gives.0 in (
      c.requires.pass,
      subst (AreWorkersOf c.args.log.now) (sym all) c.requires.workers,
      subst (Share passes (view_of_pass c.args.first.now)) (sym all) c.requires.numbers,
    )

pub join-requires-clause-other : goal.join-requires-clause-other
join-requires-clause-other g c = (All-head (IsWorkerOf c.args.log.now) _ _
    (subst (AreWorkersOf c.args.log.now) c.in-Some.ensures.steps.0 c.loop-worker.invariant.1)).pass

pub loop-worker-preserved : goal.loop-worker-preserved
loop-worker-preserved g c =
    let passes = (setup_of_log c.args.log.now).passes in
    let first = view_of_pass c.loop-worker.first in
    let rest = c.next.new.self.rest.items in
    let next = c.in-Some.ensures.steps.0 in
    let workers = subst (AreWorkersOf c.args.log.now) next c.loop-worker.invariant.1 in (
      c.join.ensures.pass,
      All-tail (IsWorkerOf c.args.log.now) _ _ workers,
      subst (λ (v : View). Share passes v rest) (sym c.join.ensures.view)
          (c.passes_share_numbers.ensures.join passes first (view_of_worker c.in-Some.worker)
          (map (λ worker. view_of_worker worker) rest)
          (All-head (IsWorkerOf c.args.log.now) _ _ workers).none_to_give
          (subst (Share passes first) next c.loop-worker.invariant.2)),
    )

pub returns-clause-numbers : goal.returns-clause-numbers
returns-clause-numbers g c =
    let passes = (setup_of_log c.args.log.now).passes in
    let first = view_of_pass c.loop-worker.first in
    let rest = c.loop-worker.worker-iterator.rest in
    let none_left = nil_from_length rest.items (omega (arith, c.in-None.ensures.steps.0, rest.ok.0)) in
    c.passes_share_numbers.ensures.all passes first
    (subst (Share passes first) none_left c.loop-worker.invariant.2)
