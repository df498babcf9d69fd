use Rattle.run_laws.proofs.Counting.{lines_counted, order_counted}
use Rattle.run_laws.proofs.laws.records_are_counted.Goals as goal

pub returns-clause-all : goal.returns-clause-all
returns-clause-all c = order_counted

pub returns-clause-one : goal.returns-clause-one
returns-clause-one c = lines_counted
