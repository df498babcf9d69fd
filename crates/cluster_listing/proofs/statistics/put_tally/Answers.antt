use Rattle.std.proofs.Common.{◌≡◌, ℕ, List, [], true, false, refl, sym, subst, ◌∙◌}
use Rattle.waldump_text.proofs.SinkLaws.{with_behind-nil}
use Rattle.cluster_listing.specs.Listing.{PutAll}
use Rattle.cluster_listing.specs.Statistics.{tally_put, tallied_text, tally_wanting}
use Rattle.cluster_listing.specs.Tail.{PutsKept, kept_hidden}
use Rattle.cluster_listing.proofs.statistics.put_tally.Goals as goal

pub returns-then-not-is_shown : goal.returns-then-not-is_shown
returns-then-not-is_shown g c =
    let told : c.is_shown.result ≡ false = cc in
    let none : PutAll (g.O.Sink.taken c.args.out.now) (g.O.Sink.taken c.args.out.now) (g.O.Sink.faults c.args.out.now) (g.O.Sink.faults c.args.out.now) [] =
    record { put = sym (with_behind-nil (g.O.Sink.taken c.args.out.now)); faults = refl } in
    tally_put c.args.walked c.args.walked (kept_hidden c.args.walked (sym c.is_shown.ensures ∙ told) none)

pub returns-in-Ok : goal.returns-in-Ok
returns-in-Ok g c =
    let told : c.is_shown.result ≡ true = cc in
    let text : c.deref.result.now ≡ tallied_text c.args.tally.now = c.deref.ensures.value ∙ c.in-Ok.ensures in
    tally_put c.args.walked c.put_text.result
    (subst (λ (t : List ℕ). PutsKept (g.O.Sink.taken c.args.out.now) (g.O.Sink.taken c.put_text.new.out) (g.O.Sink.faults c.args.out.now) (g.O.Sink.faults c.put_text.new.out) t c.args.walked c.put_text.result) text
    (c.put_text.ensures (sym c.is_shown.ensures ∙ told)))

pub returns-in-Err : goal.returns-in-Err
returns-in-Err g c =
    let told : c.is_shown.result ≡ true = cc in
    let none : PutAll (g.O.Sink.taken c.args.out.now) (g.O.Sink.taken c.args.out.now) (g.O.Sink.faults c.args.out.now) (g.O.Sink.faults c.args.out.now) [] =
    record { put = sym (with_behind-nil (g.O.Sink.taken c.args.out.now)); faults = refl } in
    tally_wanting c.args.walked (sym c.is_shown.ensures ∙ told) none
