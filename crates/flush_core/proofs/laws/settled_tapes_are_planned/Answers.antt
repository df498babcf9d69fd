-- The calls that are said of the state in which they begin.
use Rattle.flush_core.proofs.PlanLaws.{counted_behind, settled_tape_is}
use Rattle.flush_core.proofs.laws.settled_tapes_are_planned.Goals as goal

pub returns-clause-tape : goal.returns-clause-tape
returns-clause-tape c = settled_tape_is

pub returns-clause-counted : goal.returns-clause-counted
returns-clause-counted c = counted_behind
