use Rattle.std.proofs.Common.{subst}
use Rattle.pgwal_c.specs.Told.{GoesOnHeld, SeenSession}
use Rattle.pgwal_c.proofs.Telling.{held_stays, known_failed}
use Rattle.pgwal_c.proofs.session_handle.SessionHandle.make_room.Goals as goal

pub returns-then-self-saturating_add-clause-goes_on :
    goal.returns-then-self-saturating_add-clause-goes_on
returns-then-self-saturating_add-clause-goes_on c =
    subst (λ (x : SeenSession). GoesOnHeld x.session x.session) c.self.view_is
    (held_stays c.self.inside.session c.self.invariant.0)

pub returns-in_default-clause-down : goal.returns-in_default-clause-down
returns-in_default-clause-down c =
    λ down. known_failed c.flush.new.call.detail c.args.self.now c.flush.new.self
    ((c.flush.ensures.tells).down down)
