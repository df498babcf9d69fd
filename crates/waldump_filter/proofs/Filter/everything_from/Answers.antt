use Rattle.waldump_filter.proofs.KeepingLaws.{everything_from-keeps}
use Rattle.waldump_filter.proofs.Filter.everything_from.Goals as goal

pub returns-clause-keeps : goal.returns-clause-keeps
returns-clause-keeps c = everything_from-keeps c.args.start
