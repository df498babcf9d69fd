use Rattle.machine_laws.proofs.LoneLaws.{has_all, same_position}
use Rattle.machine_laws.proofs.lone.lone_passes_meet_nothing_held.Goals as goal

pub returns-clause-held : goal.returns-clause-held
returns-clause-held c = λ first. has_all

pub returns-clause-position : goal.returns-clause-position
returns-clause-position c = λ first second. same_position
