use Rattle.std.proofs.Common.{ℕ, ◌%◌, refl, sym, subst, arith}
use Rattle.machine_state.specs.Steps.{load_buffer_end}
use Rattle.wal_rule.specs.SeatedPasses.{setup_of, view_of}
use Rattle.wal_rule.specs.Stepping.{Meets}
use Rattle.wal_log.proofs.PageLaws.{met_maps}
use Rattle.wal_log.proofs.RoomLaws.{end_tells}
use Rattle.wal_log.proofs.room.was_mapped.Goals as goal

pub returns-in-Present-clause-tells : goal.returns-in-Present-clause-tells
returns-in-Present-clause-tells g c =
    let met = c.in-Present.ensures.met in
    record { end = met.0; met = met.3; behind = omega (arith, met.1) }

pub returns-in-Present-clause-maps : goal.returns-in-Present-clause-maps
returns-in-Present-clause-maps g c =
    let met = c.confirm.ensures.met in
    met_maps met.0 c.args.seated.now c.confirm.new.seated met.2

pub returns-in-Other-clause-tells : goal.returns-in-Other-clause-tells
returns-in-Other-clause-tells g c =
    let met = c.in-Other.ensures.met in
    end_tells (setup_of c.args.seated.now) c.args.page c.in-Other.end
    (view_of c.args.seated.now) _ refl
    (subst (λ (end : ℕ). Meets (view_of c.args.seated.now)
    (load_buffer_end (c.args.page % (setup_of c.args.seated.now).ring_pages)) end)
    (sym met.1.0) met.3)

pub returns-in-Other-clause-maps : goal.returns-in-Other-clause-maps
returns-in-Other-clause-maps g c =
    let met = c.confirm.ensures.met in
    met_maps met.0 c.args.seated.now c.confirm.new.seated met.2
