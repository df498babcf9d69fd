use Rattle.embedded_log.proofs.Living.{opened_live_on, reopened_live_on}
use Rattle.embedded_log.proofs.laws.sessions_live_on.Goals as goal

pub returns-clause-opened : goal.returns-clause-opened
returns-clause-opened g c = opened_live_on

pub returns-clause-reopened : goal.returns-clause-reopened
returns-clause-reopened g c = reopened_live_on

pub returns-clause-stay : goal.returns-clause-stay
returns-clause-stay g c = c.promised_records_stay.ensures
