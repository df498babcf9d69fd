use Rattle.embedded_log.proofs.Survival.{survive}
use Rattle.embedded_log.proofs.laws.told_records_survive.Goals as goal

pub returns : goal.returns
returns g c =
    survive c.closed_logs_are_closed_on_their_disk.ensures.closed
    c.sealed_records_survive.ensures.entries
