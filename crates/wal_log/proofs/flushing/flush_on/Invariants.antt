-- The tries so far told nothing: there was none; or the flushed address that was met first is below
-- the one asked for, and that was met as reserved.
use Rattle.std.proofs.Common.{◌⊎◌}
use Rattle.wal_rule.specs.SeatedPasses.{view_of}
use Rattle.wal_log.specs.Flushing.{FindsUnflushed}
use Rattle.wal_log.specs.Standing.{SeesMore}
use Rattle.wal_log.proofs.ReservedLaws.{HasJudged}
use Rattle.wal_log.proofs.Trying.{HasTriedOn}
use Rattle.wal_log.proofs.flushing.flush_on.Given as goal

abbrev pub invariant-loop : goal.invariant-loop
invariant-loop g l = record {
  goes_on : (goal.iterator-loop g).can_next l.iterator'
      × (goal.iterator-loop g).is_finite l.iterator';
  tried : HasTriedOn l.fn.seated l.seated;
  looked : SeesMore l.fn.seated l.seated ⊎ FindsUnflushed l.upto.0 (view_of l.fn.seated);
  judged : HasJudged l.upto.0 l.fn.seated l.seated;
}
