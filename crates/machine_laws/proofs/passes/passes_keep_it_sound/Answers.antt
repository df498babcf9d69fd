use Rattle.machine_laws.proofs.EveryPassStep.{gives_up_keeps, joins_keep, splits_keep}
use Rattle.machine_laws.proofs.passes.passes_keep_it_sound.Goals as goal

pub returns-clause-splits : goal.returns-clause-splits
returns-clause-splits c = λ first. splits_keep

pub returns-clause-joins : goal.returns-clause-joins
returns-clause-joins c = λ first. joins_keep

pub returns-clause-gives_up : goal.returns-clause-gives_up
returns-clause-gives_up c = λ first. gives_up_keeps
