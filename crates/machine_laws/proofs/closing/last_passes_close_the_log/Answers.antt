use Rattle.machine_laws.proofs.ClosingLaws.{closed}
use Rattle.machine_laws.proofs.closing.last_passes_close_the_log.Goals as goal

pub returns : goal.returns
returns c = record { closed = λ first. closed }
