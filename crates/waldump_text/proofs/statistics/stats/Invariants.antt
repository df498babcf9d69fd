use Rattle.std.proofs.Common.{◌≡◌, take}
use Rattle.waldump_text.specs.Tally.{TallyFits, Tallies}
use Rattle.waldump_text.proofs.statistics.stats.Given as goal

abbrev pub invariant-loop-r : goal.invariant-loop-r
invariant-loop-r g l = record {
  sound : TallyFits l.tally;
  tallies : Tallies l.tally (take l.r-index l.records);
  counted : l.tally.all.records ≡ l.r-index;
}
