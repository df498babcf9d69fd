-- The count so far is that of the backends gone over, and no more than that of all.
use Rattle.std.proofs.Common.{refl, ap, ◌∙◌, arith}
use Rattle.run_laws.specs.Counts.{all_commits_of, commits_of}
use Rattle.run_backends.specs.Backends.{lists_of}
use Rattle.backend_cli.proofs.AllCounts.{all_commits-le, count_more, count_more-le}
use Rattle.backend_cli.proofs.run.all_commits_in.Goals as goal

pub overflow_add-count : goal.overflow_add-count
overflow_add-count c =
    omega (arith, count_more-le all_commits_of commits_of refl (λ told lists. refl) c.args.backends.now c.loop-backend.backend-index c.loop-backend.count c.commits_in-count.result c.backend-item.result c.loop-backend-test.true c.backend-item.is c.loop-backend.invariant (c.commits_in-count.ensures ∙ ap commits_of c.deref.ensures.value), all_commits-le (lists_of c.args.backends.now), c.requires)

pub loop-backend-preserved : goal.loop-backend-preserved
loop-backend-preserved c =
    count_more all_commits_of commits_of refl (λ told lists. refl) c.args.backends.now c.loop-backend.backend-index c.loop-backend.count c.commits_in-count.result c.backend-item.result c.loop-backend-test.true c.backend-item.is c.loop-backend.invariant (c.commits_in-count.ensures ∙ ap commits_of c.deref.ensures.value)
