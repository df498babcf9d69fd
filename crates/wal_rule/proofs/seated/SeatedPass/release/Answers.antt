-- The view lets it release the lock that the operands name.
use Rattle.std.proofs.Common.{ℕ, sym, ap, subst}
use Rattle.machine_state.specs.Steps.{release, MayStep}
use Rattle.wal_rule.specs.declared.quiet.Operands.{Operands}
use Rattle.wal_rule.specs.SeatedPasses.{view_of}
use Rattle.wal_rule.proofs.seated.SeatedPass.release.Goals as goal

pub stores-requires-clause-may : goal.stores-requires-clause-may
stores-requires-clause-may g c =
    subst (λ (lock : ℕ). MayStep (view_of c.args.self.now) (release lock))
    (sym (ap (λ (o : Operands). o.first) c.lock_and.ensures)) c.requires.may
