use Rattle.wal_reader.proofs.RunLaws.{runs_compose, runs_give_fronts}
use Rattle.wal_reader.proofs.laws.runs_give_fronts.Goals as goal

pub returns : goal.returns
returns c = record { compose = runs_compose; fronts = runs_give_fronts }
