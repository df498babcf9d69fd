use Rattle.cluster_listing.specs.Tail.{kept_cut, kept_put}
use Rattle.cluster_listing.proofs.statistics.put_text.Goals as goal

pub returns-in-Ok : goal.returns-in-Ok
returns-in-Ok g c = λ shown. (kept_put c.args.walked shown (record { put = c.in-Ok.ensures.0; faults = c.in-Ok.ensures.1 }))

pub returns-in-Err : goal.returns-in-Err
returns-in-Err g c = λ shown.
    (let failed = c.in-Err.ensures in
    kept_cut c.args.walked c.in-Err.fault shown (record { count = failed.0.0; put = failed.0.1; faults = (failed.1, failed.2) }))
