use Rattle.run_laws.proofs.OwnEnds.{ends_within}
use Rattle.run_laws.proofs.laws.own_entries_end_within.Goals as goal

pub returns : goal.returns
returns c = record { within = ends_within }
