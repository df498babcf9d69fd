use Rattle.std.proofs.Common.{sym, subst, set}
use Rattle.machine_state.specs.Views.{Receipts}
use Rattle.machine_state.specs.Durable.{DurabilityHolds}
use Rattle.machine_laws.proofs.DurableViewSteps.{load_down_keeps, load_flushed_keeps, load_moment_keeps, load_word_keeps, load_written_keeps, same}
use Rattle.machine_laws.proofs.durable_steps.loads_keep_durability.Goals as goal

pub returns-clause-same : goal.returns-clause-same
returns-clause-same c = λ first o order flushed moment down home writer parts id v w h here is.
    subst (λ (x : Receipts). DurabilityHolds first o order flushed moment down home writer (set parts id x))
    (sym is) (same o order flushed moment down home writer parts h id v here)

pub returns-clause-load_written : goal.returns-clause-load_written
returns-clause-load_written c = λ first o order flushed moment down home writer parts id met v h here.
    load_written_keeps o order flushed moment down home writer parts h id v here met

pub returns-clause-load_flushed : goal.returns-clause-load_flushed
returns-clause-load_flushed c = λ first o order flushed moment down home writer parts id met v h here.
    load_flushed_keeps o order flushed moment down home writer parts h id v here met

pub returns-clause-load_moment : goal.returns-clause-load_moment
returns-clause-load_moment c = λ first o order flushed moment down home writer parts id v h here low.
    load_moment_keeps o order flushed moment down home writer parts h id v here low

pub returns-clause-load_down : goal.returns-clause-load_down
returns-clause-load_down c = λ first o order flushed moment down home writer parts id v h here.
    load_down_keeps o order flushed moment down home writer parts h id v here

pub returns-clause-load_ring_word : goal.returns-clause-load_ring_word
returns-clause-load_ring_word c = λ first o order flushed moment down home writer parts id k met v h here
    staged.
    load_word_keeps o order flushed moment down home writer parts h id v here k met staged
