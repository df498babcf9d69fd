use Rattle.waldump_text.proofs.EverythingLaws.{everything_is_listed}
use Rattle.waldump_text.proofs.laws.everything_is_listed.Goals as goal

pub returns : goal.returns
returns c = everything_is_listed
