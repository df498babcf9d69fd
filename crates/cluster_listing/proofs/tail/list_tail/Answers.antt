use Rattle.std.proofs.Common.{[], map, ap, refl}
use Rattle.cluster_listing.specs.Tail.{KeepsLast, tail_text}
use Rattle.cluster_listing.specs.declared.tail.Tail.{Tail}
use Rattle.cluster_listing.proofs.TailLaws.{cause_kept, kept_at_first, kept_from_none, tail_of_walk}
use Rattle.cluster_listing.proofs.WalkLaws.{IfSome-mapped}
use Rattle.cluster_listing.proofs.tail.list_tail.Goals as goal

pub returns-clause-listed : goal.returns-clause-listed
returns-clause-listed g c =
    let first : Tail = record { form = c.args.form; most = c.args.most; lines = c.new-lines.result } in
    let empty = ap (map (λ l. l.items)) c.new-lines.ensures.items in
    let none : KeepsLast first first [] = record { form = refl; most = refl; lines = kept_at_first c.args.form c.args.most _ empty } in
    IfSome-mapped (g.D.Disk.tape c.args.disk.now) (λ t walk. tail_of_walk c.args.geometry c.args.filter.now (tail_text c.args.form c.args.most) t _ _ _ _ _ _ _
    (λ records past. kept_from_none c.args.form c.args.most _ _ records empty (past first [] none).lines)
    (λ e records past. past first [] none)
    c.walk-walked.result c.put_kept-walked.result walk c.put_kept-walked.ensures) c.walk-walked.ensures.walks

pub returns-clause-cause : goal.returns-clause-cause
returns-clause-cause g c = cause_kept (g.D.Disk.faults c.args.disk.now) (g.D.Disk.faults c.walk-walked.new.disk) _ _ _ _ _ c.walk-walked.result c.put_kept-walked.result c.walk-walked.ensures.cause c.put_kept-walked.ensures
