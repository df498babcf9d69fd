-- At most the highest end met and the written address have changed; what is left is how far the
-- page's end lies above the highest one met.
use Rattle.std.proofs.Common.{◌-◌}
use Rattle.wal_rule.specs.SeatedPasses.{view_of}
use Rattle.word_ring.specs.Ring.{end_of_page}
use Rattle.wal_log.specs.Copying.{MapsPage}
use Rattle.wal_log.proofs.copying.reach_page.Given as goal

abbrev pub invariant-loop-end : goal.invariant-loop-end
invariant-loop-end g l = MapsPage l.fn.seated l.seated

abbrev pub decreases-loop-end : goal.decreases-loop-end
decreases-loop-end g l = end_of_page l.page - (view_of l.seated).mapping.confirmed
