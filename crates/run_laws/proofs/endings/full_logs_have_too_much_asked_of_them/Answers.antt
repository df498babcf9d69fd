use Rattle.run_laws.proofs.FullScripts.{too_much_asked}
use Rattle.run_laws.proofs.endings.full_logs_have_too_much_asked_of_them.Goals as goal

pub returns : goal.returns
returns c = record { more = too_much_asked }
