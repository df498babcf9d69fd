use Rattle.machine_laws.proofs.DurableViewSteps.{give_up_keeps, join_keeps, split_keeps}
use Rattle.machine_laws.proofs.durable_steps.passes_keep_durability.Goals as goal

pub returns-clause-split : goal.returns-clause-split
returns-clause-split c = λ first o order flushed moment down home writer parts id v h here.
    split_keeps o order flushed moment down home writer parts h id v here

pub returns-clause-join : goal.returns-clause-join
returns-clause-join c = λ first o order flushed moment down home writer parts id other v w h here there apart.
    join_keeps o order flushed moment down home writer parts h id v here other w there apart

pub returns-clause-give_up : goal.returns-clause-give_up
returns-clause-give_up c = λ first o order flushed moment down home writer parts id v h here.
    give_up_keeps o order flushed moment down home writer parts h id v here
