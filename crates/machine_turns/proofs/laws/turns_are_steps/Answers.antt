use Rattle.machine_turns.proofs.Schedules.{schedule_good, turned_good}
use Rattle.machine_turns.proofs.laws.turns_are_steps.Goals as goal

pub returns-clause-turn : goal.returns-clause-turn
returns-clause-turn c = λ m number run. turned_good m run number

pub returns-clause-schedule : goal.returns-clause-schedule
returns-clause-schedule c = schedule_good
