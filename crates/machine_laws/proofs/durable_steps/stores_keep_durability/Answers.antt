use Rattle.std.proofs.Common.{◌≤◌, arith}
use Rattle.byte_position.proofs.SegmentSizes.{segment_size_in_pages}
use Rattle.machine_laws.proofs.DurableViewSteps.{set_down_keeps, store_flushed_keeps, store_moment_keeps, store_written_keeps}
use Rattle.machine_laws.proofs.durable_steps.stores_keep_durability.Goals as goal

pub returns-clause-written : goal.returns-clause-written
returns-clause-written c = λ first o order flushed moment down home writer parts id met v h here.
    store_written_keeps o order flushed moment down home writer parts h id v here

pub returns-clause-moment : goal.returns-clause-moment
returns-clause-moment c = λ first o order flushed moment down home writer parts id met v turn writers h
    here has at may.
    store_moment_keeps o order flushed moment down home writer parts h id v here turn writers has
    at met may

pub returns-clause-flushed : goal.returns-clause-flushed
returns-clause-flushed c = λ first o order flushed moment down home writer parts id met v turn writers
    written flights writings h here setup has at positions may.
    let low : flushed ≤ writer.written = omega (
      arith,
      positions.flushed_low,
      positions.written_low,
    ) in
    let whole = segment_size_in_pages (o.setup).seg_size setup.size in
    let some_flushed : 1 ≤ flushed = omega (arith, positions.begun, whole.0, whole.1) in
    store_flushed_keeps o order flushed moment down home writer parts h id v here turn writers has
    at met some_flushed low may

pub returns-clause-down : goal.returns-clause-down
returns-clause-down c = λ first o order flushed moment down home writer parts id met v turn writers h
    here has at alone may.
    set_down_keeps o order flushed moment down home writer parts h id v here turn writers has at
    alone met may
