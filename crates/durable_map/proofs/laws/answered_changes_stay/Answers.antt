use Rattle.durable_map.proofs.MapLives.{answered_changes_stay}
use Rattle.durable_map.proofs.laws.answered_changes_stay.Goals as goal

pub returns : goal.returns
returns g c = answered_changes_stay g.D.Disk.tape g.D.Disk.moment g.D.Disk.faults
    g.met.D.Disk.counts c.promised_records_stay.ensures c.commits_are_promised.ensures
    c.lone_passes_make_the_order.ensures c.passes_make_the_order.ensures
    c.logs_only_grow.ensures.commits
    c.logs_only_grow.ensures.stays c.logs_only_grow.ensures.again
    c.passes_hand_on_their_logs.ensures.has
    c.finding_is_decoding.ensures c.decoding_is_settled.ensures.settled
