use Rattle.run_laws.proofs.OneFault.{own_faults_counted, told_once}
use Rattle.run_laws.proofs.laws.faults_are_told_once.Goals as goal

pub returns-clause-once : goal.returns-clause-once
returns-clause-once c = told_once

pub returns-clause-own : goal.returns-clause-own
returns-clause-own c = own_faults_counted
