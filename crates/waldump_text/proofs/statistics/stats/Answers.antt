use Rattle.std.proofs.Common.{◌≡◌, ℕ, List, take, subst, arith}
use Rattle.std.proofs.lemmas.List.{take_all}
use Rattle.waldump_filter.specs.declared.listed.Listed.{Listed}
use Rattle.waldump_text.specs.Put.{Puts}
use Rattle.waldump_text.specs.Tally.{Tallies}
use Rattle.waldump_text.proofs.StatisticsLaws.{tally_text-is_stats}
use Rattle.waldump_text.proofs.statistics.stats.Goals as goal

pub returns : goal.returns
returns g c =
    let all : take c.loop-r.r-index c.args.records.now ≡ c.args.records.now = take_all c.loop-r.r-index c.args.records.now (omega arith) in
    let tallies = subst (λ (records : List Listed). Tallies c.loop-r.tally records) all c.loop-r.invariant.tallies in
    subst (λ (text : List ℕ). Puts (g.O.Sink.taken c.args.out.now) (g.O.Sink.taken c.put_tally.new.out) (g.O.Sink.faults c.args.out.now) (g.O.Sink.faults c.put_tally.new.out) text c.put_tally.result) (tally_text-is_stats c.loop-r.tally c.args.records.now tallies) c.put_tally.ensures
