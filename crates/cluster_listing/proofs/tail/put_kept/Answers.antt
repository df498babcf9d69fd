use Rattle.std.proofs.Common.{◌≡◌, true, false, [], refl, sym, ◌∙◌}
use Rattle.waldump_text.proofs.SinkLaws.{with_behind-nil}
use Rattle.cluster_listing.specs.Listing.{PutAll}
use Rattle.cluster_listing.specs.Tail.{kept_cut, kept_hidden, kept_put}
use Rattle.cluster_listing.proofs.tail.put_kept.Goals as goal

pub returns-then-not-is_shown : goal.returns-then-not-is_shown
returns-then-not-is_shown g c =
    let told : c.is_shown.result ≡ false = cc in
    let none : PutAll (g.O.Sink.taken c.args.out.now) (g.O.Sink.taken c.args.out.now) (g.O.Sink.faults c.args.out.now) (g.O.Sink.faults c.args.out.now) [] =
    record { put = sym (with_behind-nil (g.O.Sink.taken c.args.out.now)); faults = refl } in
    kept_hidden c.args.walked (sym c.is_shown.ensures ∙ told) none

pub returns-in-Ok : goal.returns-in-Ok
returns-in-Ok g c =
    let told : c.is_shown.result ≡ true = cc in
    kept_put c.args.walked (sym c.is_shown.ensures ∙ told) (record { put = c.in-Ok.ensures.0; faults = c.in-Ok.ensures.1 })

pub returns-in-Err : goal.returns-in-Err
returns-in-Err g c =
    let told : c.is_shown.result ≡ true = cc in
    let failed = c.in-Err.ensures in
    kept_cut c.args.walked c.in-Err.fault (sym c.is_shown.ensures ∙ told) (record { count = failed.0.0; put = failed.0.1; faults = (failed.1, failed.2) })
