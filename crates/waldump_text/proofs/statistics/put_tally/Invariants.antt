use Rattle.std.proofs.Common.{◌-◌, ◌++◌}
use Rattle.waldump_text.specs.Put.{HasPut}
use Rattle.waldump_text.specs.Statistics.{manager_lines, total_line}
use Rattle.waldump_text.specs.Tally.{own_sums, tally_text}
use Rattle.waldump_text.proofs.statistics.put_tally.Given as goal

abbrev pub invariant-loop-rmid : goal.invariant-loop-rmid
invariant-loop-rmid g l =
    HasPut (g.O.Sink.taken l.initial.out) (g.O.Sink.taken l.out) (g.O.Sink.faults l.initial.out) (g.O.Sink.faults l.out) (tally_text l.tally) (manager_lines (own_sums l.tally) (256 - l.rmid) l.rmid ++ total_line l.tally.all)
