use Rattle.std.proofs.Common.{ℕ, ◌/◌, refl, subst, arith}
use Rattle.wal_rule.specs.SeatedPasses.{setup_of, view_of}
use Rattle.wal_log.specs.Copying.{TellsAbsent}
use Rattle.wal_log.proofs.CopyLaws.{alone_low, copies_still, reached_stays, went_on}
use Rattle.wal_log.proofs.copying.copy_some.Goals as goal

pub reach_page-requires-clause-low : goal.reach_page-requires-clause-low
reach_page-requires-clause-low g c =
    let copies = c.requires.copies in
    let low = alone_low c.args.seated.now copies.0 c.args.placed.now copies.1 in
    omega (arith, low, c.next_lsn-next.ensures)

pub returns-in-Err-clause-copies : goal.returns-in-Err-clause-copies
returns-in-Err-clause-copies g c =
    copies_still c.args.seated.now c.reach_page.new.seated c.reach_page.ensures.maps.stays
    c.args.placed.now c.args.placed.now
    (reached_stays c.args.placed.now c.args.seated.now c.reach_page.new.seated
    c.reach_page.ensures.maps)

pub returns-in-Err-clause-copies_on : goal.returns-in-Err-clause-copies_on
returns-in-Err-clause-copies_on g c =
    went_on c.args.seated.now c.reach_page.new.seated c.reach_page.ensures.maps.stays
    c.args.placed.now c.args.placed.now
    (reached_stays c.args.placed.now c.args.seated.now c.reach_page.new.seated
    c.reach_page.ensures.maps) refl

pub returns-in-Err-clause-tells : goal.returns-in-Err-clause-tells
returns-in-Err-clause-tells g c =
    let some = c.if-most-eq0.false in
    let absent = c.in-Err.absent in
    let tells = subst (λ (n : ℕ). TellsAbsent (setup_of c.args.seated.now) (n / 8192)
    (view_of c.reach_page.new.seated) absent) c.next_lsn-next.ensures c.in-Err.ensures.ends in (
      refl,
      (
        omega (arith, some),
        record { page_is = tells.page_is; other = tells.other; why = tells.why; low = tells.low },
      ),
    )
