use Rattle.std.proofs.Common.{[], refl, sym}
use Rattle.waldump_text.proofs.SinkLaws.{with_behind-nil}
use Rattle.cluster_listing.specs.Listing.{PutAll}
use Rattle.cluster_listing.proofs.WalkLaws.{IfSome-mapped, IsWalk-mapped}
use Rattle.cluster_listing.proofs.listing.list.Goals as goal

pub returns-clause-listed : goal.returns-clause-listed
returns-clause-listed g c =
    let none : PutAll (g.O.Sink.taken c.args.out) (g.O.Sink.taken c.args.out) (g.O.Sink.faults c.args.out) (g.O.Sink.faults c.args.out) [] = record { put = sym (with_behind-nil (g.O.Sink.taken c.args.out)); faults = refl } in
    IfSome-mapped (g.D.Disk.tape c.args.disk.now) (λ t walk. IsWalk-mapped c.args.geometry c.args.filter.now t c.walk-walked.result
    (λ records past. (past (record { form = c.args.form; out = c.args.out; line = c.new-line.result }) [] (refl, none)).1)
    (λ e records past. past (record { form = c.args.form; out = c.args.out; line = c.new-line.result }) [] (refl, none)) walk) c.walk-walked.ensures.walks
