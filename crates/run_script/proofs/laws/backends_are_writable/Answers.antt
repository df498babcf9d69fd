use Rattle.run_script.proofs.ReplayLaws.{backends_are_writable}
use Rattle.run_script.proofs.laws.backends_are_writable.Goals as goal

pub returns : goal.returns
returns c = backends_are_writable
