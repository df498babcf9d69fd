-- The looks so far left the pass at its work.
use Rattle.wal_log.proofs.AwaitLaws.{HasLooked}
use Rattle.wal_log.proofs.copying.await_written.Given as goal

abbrev pub invariant-loop-look : goal.invariant-loop-look
invariant-loop-look g l = HasLooked l.fn.seated l.seated
