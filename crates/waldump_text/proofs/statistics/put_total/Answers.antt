use Rattle.std.proofs.Common.{◌≡◌, ℕ, List, refl, subst}
use Rattle.waldump_text.specs.Put.{Puts}
use Rattle.waldump_text.specs.Statistics.{total_line}
use Rattle.waldump_text.proofs.statistics.put_total.Goals as goal

pub returns : goal.returns
returns g c =
    let line : c.push_sums.new.buffer ≡ total_line c.args.sums = rw (c.push_sums.ensures, c.push.ensures.text, c.new-buffer.ensures) refl in
    subst (λ (text : List ℕ). Puts (g.O.Sink.taken c.args.out.now) (g.O.Sink.taken c.flush.new.out) (g.O.Sink.faults c.args.out.now) (g.O.Sink.faults c.flush.new.out) text c.flush.result) line c.flush.ensures.put
