-- The count so far is that of the backends gone over, and no more than that of all.
use Rattle.std.proofs.Common.{refl, ap, ◌∙◌, arith}
use Rattle.run_laws.specs.Counted.{all_reserved_count}
use Rattle.run_laws.specs.Counts.{reserved_count}
use Rattle.backend_cli.proofs.AllCounts.{count_more, count_more-le}
use Rattle.backend_cli.proofs.run.all_records_in.Goals as goal

pub overflow_add-count : goal.overflow_add-count
overflow_add-count c =
    omega (arith, count_more-le all_reserved_count reserved_count refl (λ told lists. refl) c.args.backends.now c.loop-backend.backend-index c.loop-backend.count c.records_in-count.result c.backend-item.result c.loop-backend-test.true c.backend-item.is c.loop-backend.invariant (c.records_in-count.ensures ∙ ap reserved_count c.deref.ensures.value), c.requires)

pub loop-backend-preserved : goal.loop-backend-preserved
loop-backend-preserved c =
    count_more all_reserved_count reserved_count refl (λ told lists. refl) c.args.backends.now c.loop-backend.backend-index c.loop-backend.count c.records_in-count.result c.backend-item.result c.loop-backend-test.true c.backend-item.is c.loop-backend.invariant (c.records_in-count.ensures ∙ ap reserved_count c.deref.ensures.value)
