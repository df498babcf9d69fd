use Rattle.backend_cli.proofs.CompleteLaws.{appends_are_complete, made_runs_are_complete, runs_are_complete}
use Rattle.backend_cli.proofs.laws.runs_are_complete.Goals as goal

pub returns-clause-run : goal.returns-clause-run
returns-clause-run c = runs_are_complete

pub returns-clause-made : goal.returns-clause-made
returns-clause-made c = made_runs_are_complete

pub returns-clause-append : goal.returns-clause-append
returns-clause-append c = appends_are_complete
