use Rattle.machine_laws.proofs.EveryMoment.{first_rises, logs_rise, runs_rise, steps_rise}
use Rattle.machine_laws.proofs.moments.moments_rise.Goals as goal

pub returns-clause-step : goal.returns-clause-step
returns-clause-step c = λ first opening s t k rising step l. steps_rise opening s t k rising step l

pub returns-clause-run : goal.returns-clause-run
returns-clause-run c = λ first opening n s t k rising run l. runs_rise opening n s t k rising run l

pub returns-clause-first : goal.returns-clause-first
returns-clause-first c = λ first. first_rises

pub returns-clause-shown : goal.returns-clause-shown
returns-clause-shown c = λ first. logs_rise
