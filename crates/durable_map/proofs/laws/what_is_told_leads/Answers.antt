use Rattle.durable_map.proofs.LaneCalls.{told_leads}
use Rattle.durable_map.proofs.laws.what_is_told_leads.Goals as goal

pub returns : goal.returns
returns g c = told_leads
