use Rattle.std.proofs.Common.{ℕ, sym, subst, arith}
use Rattle.wal_rule.specs.SeatedPasses.{view_of}
use Rattle.insert_locks.specs.Holding.{HasTold, MayTell}
use Rattle.wal_log.specs.HeldLocks.{locks_of}
use Rattle.wal_log.proofs.NextWord.{may_tell, told_low}
use Rattle.wal_log.proofs.writing.tell_progress.Goals as goal

pub tell_under-requires-clause-low : goal.tell_under-requires-clause-low
tell_under-requires-clause-low g c =
    let low = told_low c.args.seated.now (locks_of c.args.held) c.args.placed.now
    c.requires.copies in
    omega (arith, low, c.next_lsn.ensures)

pub tell_under-requires-clause-may : goal.tell_under-requires-clause-may
tell_under-requires-clause-may g c = subst
    (λ (upto : ℕ). MayTell (locks_of c.args.held) upto (view_of c.args.seated.now))
    (sym c.next_lsn.ensures)
    (may_tell c.args.seated.now (locks_of c.args.held) c.args.placed.now c.requires.copies)

pub returns : goal.returns
returns g c = record {
  told = subst (λ (upto : ℕ). HasTold (locks_of c.args.held) upto c.args.seated.now
      c.tell_under.new.seated) c.next_lsn.ensures c.tell_under.ensures.told;
}
