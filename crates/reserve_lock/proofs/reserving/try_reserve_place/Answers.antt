use Rattle.std.proofs.Common.{[], ◌∷◌, sym, ap, ◌∙◌, subst, arith}
use Rattle.std.proofs.lemmas.Bool.{true≢false}
use Rattle.machine_state.specs.declared.setup.Setup.{Setup}
use Rattle.wal_rule.specs.SeatedPasses.{setup_of, view_of}
use Rattle.reserve_lock.specs.Reserved.{IsInsertReserved, IsPositionLocked}
use Rattle.reserve_lock.proofs.Since.{holds_since, insert_since, locked_here}
use Rattle.reserve_lock.proofs.Steps.{same_setup}
use Rattle.reserve_lock.proofs.reserving.try_reserve_place.Goals as goal

pub returns-in-Ok-reserve_locked-clause-reserved :
    goal.returns-in-Ok-reserve_locked-clause-reserved
returns-in-Ok-reserve_locked-clause-reserved g c =
    let old = view_of c.args.seated.now in
    let mid = view_of c.lock_seen.new.seated in
    let new = view_of c.reserve_locked.new.seated in
    let r = c.in-Ok-reserve_locked.reserved in
    let given = c.in-Ok-reserve_locked.ensures.reserved in
    let same = same_setup c.args.seated.now c.lock_seen.new.seated
    c.in-Ok.ensures.stays.same_table in
    let locked = subst (λ (s : Setup). IsPositionLocked s c.in-Ok.locked.at old mid) (sym same)
    c.in-Ok.ensures.locked in
    λ lock holds.
    subst (λ (s : Setup). IsInsertReserved s c.args.body.now lock old new r.start.0 r.placed) same
    (insert_since (setup_of c.lock_seen.new.seated) c.in-Ok.locked.at old mid locked c.args.body.now new
    r.start.0 r.placed given.0 given.1 lock holds c.requires.inserted)

pub reserve_locked-requires-clause-locked : goal.reserve_locked-requires-clause-locked
reserve_locked-requires-clause-locked g c =
    let setup = setup_of c.args.seated.now in
    let same = same_setup c.args.seated.now c.lock_seen.new.seated
    c.in-Ok.ensures.stays.same_table in
    locked_here setup c.in-Ok.locked.at (view_of c.args.seated.now)
    (view_of c.lock_seen.new.seated) c.in-Ok.ensures.locked (setup_of c.lock_seen.new.seated) same
    c.geometry-geometry.result _ _
    (c.geometry-geometry.ensures ∙ ap (λ (s : Setup). s.seg_size) (c.shape.ensures ∙ sym same))
    c.in-Ok.ensures.behind c.in-Ok.ensures.start

pub reserve_locked-requires-clause-holds : goal.reserve_locked-requires-clause-holds
reserve_locked-requires-clause-holds g c =
    holds_since (setup_of c.args.seated.now) c.in-Ok.locked.at (view_of c.args.seated.now)
    (view_of c.lock_seen.new.seated) c.in-Ok.ensures.locked (c.requires.holds.0 ∷ [])
    c.requires.holds.1 c.args.body.now (omega arith)
    (λ switches. absurd (true≢false (sym switches ∙ c.requires.inserted)))
