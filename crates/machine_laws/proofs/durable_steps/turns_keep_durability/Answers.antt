use Rattle.machine_laws.proofs.DurableViewSteps.{release_turn_keeps, slot_in_keeps, slot_out_keeps, take_turn_keeps}
use Rattle.machine_laws.proofs.durable_steps.turns_keep_durability.Goals as goal

pub returns-clause-take : goal.returns-clause-take
returns-clause-take c = λ first o order flushed moment down home writer parts id met v h here.
    take_turn_keeps o order flushed moment down home writer parts h id v here met

pub returns-clause-slot_out : goal.returns-clause-slot_out
returns-clause-slot_out c = λ first o order flushed moment down home writer parts id met v turn writers h
    here has at may.
    slot_out_keeps o order flushed moment down home writer parts h id v here turn writers has at
    met may

pub returns-clause-slot_in : goal.returns-clause-slot_in
returns-clause-slot_in c = λ first o order flushed moment down home writer parts id met v turn writers h
    here has at may.
    slot_in_keeps o order flushed moment down home writer parts h id v here turn writers has at met
    may

pub returns-clause-release : goal.returns-clause-release
returns-clause-release c = λ first o order flushed moment down home writer parts id met v h here.
    release_turn_keeps o order flushed moment down home writer parts h id v here
