use Rattle.std.proofs.Common.{ℕ, sym, ap, ◌∙◌, subst}
use Rattle.byte_position.specs.Position.{address_of}
use Rattle.wal_page.specs.Placed.{PlacedState}
use Rattle.wal_rule.specs.SeatedPasses.{setup_of, view_of}
use Rattle.reserve_lock.specs.Reserved.{IsInsertReserved}
use Rattle.reserve_lock.proofs.reserving.try_reserve.Goals as goal

pub returns-in-Ok-clause-reserved : goal.returns-in-Ok-clause-reserved
returns-in-Ok-clause-reserved g c =
    let setup = setup_of c.args.seated.now in
    let placed = c.in-Ok.reserved.placed in
    λ lock holds.
    let given = c.in-Ok.ensures.reserved lock holds in
    let start_is = (given.place).start_is
    ∙ sym (ap (λ (p : PlacedState). address_of setup.seg_size p.start) (given.place).placed_is) in
    subst (λ (start : ℕ). IsInsertReserved setup c.args.body.now lock (view_of c.args.seated.now)
    (view_of c.try_reserve_place.new.seated) start placed) start_is given
