use Rattle.std.proofs.Common.{refl, subst, arith}
use Rattle.insert_locks.specs.Holding.{AreLocks}
use Rattle.wal_log.specs.HeldLocks.{locks_of}
use Rattle.wal_log.specs.declared.held_locks.Held.{Held}
use Rattle.wal_log.proofs.held_locks.release_held.Goals as goal

pub release-requires-clause-lock : goal.release-requires-clause-lock
release-requires-clause-lock g c = subst (λ (held : Held). AreLocks (locks_of held)) c.in-One.is
    c.requires.locks c.in-One.lock.0 (0, omega arith, refl)
