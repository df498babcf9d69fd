use Rattle.run_laws.proofs.RefusedLines.{refused_for_want_of_room}
use Rattle.run_laws.proofs.endings.refusals_without_a_fault.Goals as goal

pub returns : goal.returns
returns c = record { full = refused_for_want_of_room }
