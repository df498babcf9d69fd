-- The looks so far.
use Rattle.wal_log.specs.Standing.{SeesMore}
use Rattle.wal_log.proofs.flushing.gather.Given as goal

abbrev pub invariant-loop-look : goal.invariant-loop-look
invariant-loop-look g l = SeesMore l.fn.seated l.seated
