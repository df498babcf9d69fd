use Rattle.machine_laws.proofs.CrashLaws.{down_stays, down_tells, no_create, no_sync, no_write}
use Rattle.machine_laws.proofs.crashes.down_tells_of_the_fault.Goals as goal

pub returns-clause-tells : goal.returns-clause-tells
returns-clause-tells c = λ first o order flushed moment down home writer parts h.
    down_tells o order flushed moment down home writer parts h

pub returns-clause-stays : goal.returns-clause-stays
returns-clause-stays c = λ first o order flushed moment down home writer parts id met v turn writers h
    is_down has at may.
    down_stays o order flushed moment down home writer parts h is_down id v turn writers has at met
    may

pub returns-clause-no_call : goal.returns-clause-no_call
returns-clause-no_call c = λ first o order flushed moment down home writer parts id v turn writers
    segment page upto bytes outcome h is_down has at. (
      no_create o order flushed moment down home writer parts h is_down id v turn writers has at
          segment outcome,
      no_write o order flushed moment down home writer parts h is_down id v turn writers has at
          segment page upto bytes outcome,
      no_sync o order flushed moment down home writer parts h is_down id v turn writers has at
          segment outcome,
    )
