use Rattle.std.proofs.Common.{[]}
use Rattle.cluster_listing.specs.Statistics.{statistics_text}
use Rattle.cluster_listing.proofs.TallyLaws.{Adds-none, cause_tallied, gathered_of_walk, tallied_text-is}
use Rattle.cluster_listing.proofs.WalkLaws.{IfSome-mapped}
use Rattle.cluster_listing.proofs.statistics.list_statistics.Goals as goal

pub returns-clause-listed : goal.returns-clause-listed
returns-clause-listed g c =
    let first = c.new-tally.result in
    IfSome-mapped (g.D.Disk.tape c.args.disk.now) (λ t walk. gathered_of_walk c.args.geometry c.args.filter.now statistics_text t _ _ _ _ _ _ _
    (λ records past. tallied_text-is _ records (past first [] (Adds-none first) [] c.new-tally.ensures))
    (λ e records past. past first [] (Adds-none first))
    c.walk-walked.result c.put_tally-walked.result walk c.put_tally-walked.ensures) c.walk-walked.ensures.walks

pub returns-clause-cause : goal.returns-clause-cause
returns-clause-cause g c = cause_tallied (g.D.Disk.faults c.args.disk.now) (g.D.Disk.faults c.walk-walked.new.disk) _ _ _ _ _ c.walk-walked.result c.put_tally-walked.result c.walk-walked.ensures.cause c.put_tally-walked.ensures
