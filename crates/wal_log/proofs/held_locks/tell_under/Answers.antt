use Rattle.std.proofs.Common.{refl, subst, arith}
use Rattle.wal_rule.specs.SeatedPasses.{view_of}
use Rattle.insert_locks.specs.Holding.{AreLocks, MayTell}
use Rattle.wal_log.specs.HeldLocks.{locks_of}
use Rattle.wal_log.specs.declared.held_locks.Held.{Held}
use Rattle.wal_log.proofs.held_locks.tell_under.Goals as goal

pub advance-requires-clause-lock : goal.advance-requires-clause-lock
advance-requires-clause-lock g c = subst (λ (held : Held). AreLocks (locks_of held)) c.in-One.is
    c.requires.locks c.in-One.lock.0 (0, omega arith, refl)

pub advance-requires-clause-may : goal.advance-requires-clause-may
advance-requires-clause-may g c = subst
    (λ (held : Held). MayTell (locks_of held) c.args.upto.0 (view_of c.args.seated.now))
    c.in-One.is c.requires.may c.in-One.lock.0 (0, omega arith, refl)

pub advance_below-requires-clause-may : goal.advance_below-requires-clause-may
advance_below-requires-clause-may g c = subst
    (λ (held : Held). MayTell (locks_of held) c.args.upto.0 (view_of c.args.seated.now))
    c.in-All.is c.requires.may
