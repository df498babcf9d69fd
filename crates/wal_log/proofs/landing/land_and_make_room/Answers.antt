use Rattle.std.proofs.Common.{◌≡◌, ◌/◌, ℕ, ap, ◌∙◌, subst, arith}
use Rattle.std.proofs.lemmas.Result.{err_from_is_err_and}
use mathlib.Core.Option.{some}
use Rattle.wal_page.specs.Order.{Entry}
use Rattle.machine_state.specs.declared.setup.Setup.{Setup}
use Rattle.wal_rule.specs.SeatedPasses.{setup_of, view_of}
use Rattle.wal_log.specs.HeldLocks.{locks_of}
use Rattle.wal_log.specs.Room.{MakesRoom, page_ahead}
use Rattle.wal_log.specs.Standing.{entry_in_flight}
use Rattle.wal_log.proofs.CopyLaws.{alone_low}
use Rattle.wal_log.proofs.RoomLaws.{fault_since, flies}
use Rattle.wal_log.proofs.Seated.{same_setup}
use Rattle.wal_log.proofs.WholeLaws.{copied_behind}
use Rattle.wal_log.proofs.landing.land_and_make_room.Given.{Over}
use Rattle.wal_log.proofs.landing.land_and_make_room.Goals as goal
use Rattle.wal_log.proofs.landing.land_and_make_room.Goals.{After-land}

module _ (g : Over) (c : After-land g) where
  in_flight : entry_in_flight (view_of c.args.seated.now)
      ≡ some ((c.requires.copies.under).copy).entry
  in_flight = flies (setup_of c.args.seated.now) (locks_of c.args.held) c.args.placed.now
      (view_of c.args.seated.now) c.requires.copies.under

pub make_room-requires-clause-up : goal.make_room-requires-clause-up
make_room-requires-clause-up g c =
    (c.in_ok-land.ensures.lands ((c.requires.copies.under).copy).entry
    (in_flight g (goal.at.make_room-requires-clause-up g c).After-land)).1

pub make_room-requires-clause-low : goal.make_room-requires-clause-low
make_room-requires-clause-low g c =
    let low = alone_low c.args.seated.now (locks_of c.args.held) c.args.placed.now
    c.requires.copies in
    omega (arith, low, c.next_lsn-page.ensures)

pub returns-in_err-make_room-clause-lands : goal.returns-in_err-make_room-clause-lands
returns-in_err-make_room-clause-lands g c =
    let p = err_from_is_err_and c.from_residual-in_err-make_room.result
    c.from_residual-in_err-make_room.ensures.1 in
    λ (e : Entry) (flying : entry_in_flight (view_of c.args.seated.now) ≡ some e).
    rw (p.1, p.2)
    (fault_since (view_of c.args.seated.now) (view_of c.land.new.seated)
    (view_of c.make_room.new.seated) c.requires.up (c.in_ok-land.ensures.lands e flying).1
    c.in_err-make_room.field-0.0 c.in_err-make_room.ensures.ends)

pub returns-in_ok-make_room-clause-lands : goal.returns-in_ok-make_room-clause-lands
returns-in_ok-make_room-clause-lands g c =
    λ (e : Entry) (flying : entry_in_flight (view_of c.args.seated.now) ≡ some e). (
      copied_behind (view_of c.args.seated.now) (view_of c.land.new.seated)
          (view_of c.make_room.new.seated) e c.make_room.ensures.rests.keeps
          (c.in_ok-land.ensures.lands e flying).0,
      c.in_ok-make_room.ensures.ends,
    )

pub returns-in_ok-make_room-clause-makes : goal.returns-in_ok-make_room-clause-makes
returns-in_ok-make_room-clause-makes g c = λ met further. record {
  landed = c.land.new.seated;
  rests = c.land.ensures.rests;
  makes = subst (λ (n : ℕ). MakesRoom g.D.Disk.tape g.D.Disk.moment g.D.Disk.faults n
      c.land.new.seated c.make_room.new.seated)
      (ap (λ (s : Setup). page_ahead s (c.next_lsn-page.result.0 / 8192))
      (same_setup c.args.seated.now c.land.new.seated c.land.ensures.rests.same_table)
      ∙ ap (λ (n : ℕ). page_ahead (setup_of c.args.seated.now) (n / 8192))
      c.next_lsn-page.ensures)
      c.in_ok-make_room.ensures.makes;
}
