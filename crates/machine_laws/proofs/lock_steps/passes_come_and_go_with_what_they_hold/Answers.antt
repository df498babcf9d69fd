use Rattle.machine_laws.proofs.LockPassSteps.{works_split, works_join, works_give_up, turns_split, turns_join, turns_give_up}
use Rattle.machine_laws.proofs.lock_steps.passes_come_and_go_with_what_they_hold.Goals as goal

pub returns-clause-split : goal.returns-clause-split
returns-clause-split c = λ opening order words views id v here k.
    works_split opening order words views id v here k

pub returns-clause-joined : goal.returns-clause-joined
returns-clause-joined c = λ opening order words views id other v w here there apart rests k.
    works_join opening order words views id v here k other w there apart rests

pub returns-clause-given_up : goal.returns-clause-given_up
returns-clause-given_up c = λ opening order words views id v here k.
    works_give_up opening order words views id v here k

pub returns-clause-split_turns : goal.returns-clause-split_turns
returns-clause-split_turns c = λ words home stage writer views id v here k.
    turns_split words home stage writer views id v here k

pub returns-clause-joined_turns : goal.returns-clause-joined_turns
returns-clause-joined_turns c = λ words home stage writer views id other v w here there rests k.
    turns_join words home stage writer views id v here k other w there rests

pub returns-clause-given_up_turns : goal.returns-clause-given_up_turns
returns-clause-given_up_turns c = λ words home stage writer views id v here k.
    turns_give_up words home stage writer views id v here k
