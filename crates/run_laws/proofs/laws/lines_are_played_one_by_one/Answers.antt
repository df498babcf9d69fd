use Rattle.run_laws.proofs.LineByLine.{lines_push}
use Rattle.run_laws.proofs.laws.lines_are_played_one_by_one.Goals as goal

pub returns : goal.returns
returns c = record { more = lines_push }
