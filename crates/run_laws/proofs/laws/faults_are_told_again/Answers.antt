use Rattle.run_laws.proofs.LineFaults.{lines_down, lines_stay_down, run_stays_down}
use Rattle.run_laws.proofs.laws.faults_are_told_again.Goals as goal

pub returns-clause-stays : goal.returns-clause-stays
returns-clause-stays c = lines_stay_down

pub returns-clause-known : goal.returns-clause-known
returns-clause-known c = λ size limit pass faults lines told before after plays knows.
    lines_down size limit pass faults lines told before after plays knows

pub returns-clause-each : goal.returns-clause-each
returns-clause-each c = run_stays_down
