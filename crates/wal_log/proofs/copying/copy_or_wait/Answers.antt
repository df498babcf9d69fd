use Rattle.std.proofs.Common.{◌/◌, ap, inl, inr, sym, subst, arith}
use Rattle.wal_page.specs.Placed.{PlacedState}
use Rattle.machine_state.specs.declared.setup.Setup.{Setup}
use Rattle.machine_state.specs.Moves.{with_told}
use Rattle.machine_state.specs.Views.{View}
use Rattle.wal_rule.specs.SeatedPasses.{view_of}
use Rattle.wal_log.specs.Copying.{TellsAbsent, absent_page}
use Rattle.wal_log.proofs.CopyLaws.{copied_on}
use Rattle.wal_log.proofs.Seated.{same_setup}
use Rattle.wal_log.proofs.copying.copy_or_wait.Goals as goal

pub wait_for_page-requires-clause-absent : goal.wait_for_page-requires-clause-absent
wait_for_page-requires-clause-absent g c =
    let front = c.copy_front-copied in
    let tells = front.ensures.tells in
    let met : View = with_told tells.earlier tells.earlier_under (view_of front.new.seated) in
    let stop = rw c.in-Absent.is at tells.stop in (
      met,
      subst (λ (s : Setup). TellsAbsent s (front.new.placed.next / 8192) met
          (absent_page c.in-Absent.page c.in-Absent.end c.in-Absent.turn c.in-Absent.written))
          (sym (same_setup c.args.seated.now front.new.seated
          front.ensures.copies_on.goes_on.stays.same_table)) stop.2,
    )

pub returns-in-Asked-clause-ends : goal.returns-in-Asked-clause-ends
returns-in-Asked-clause-ends g c =
    let tells = c.copy_front-copied.ensures.tells in
    let next = ap (λ (p : PlacedState). p.next) tells.next_is in
    let stop = rw c.in-Asked.is at tells.stop in
    let all = stop.0 in (
      c.copy_front-copied.ensures.up c.requires.up,
      inl (omega (arith, next, all)),
    )

pub returns-in_ok-wait_for_page-in-Absent-clause-ends : goal.returns-in_ok-wait_for_page-in-Absent-clause-ends
returns-in_ok-wait_for_page-in-Absent-clause-ends g c =
    let waits = c.in_ok-wait_for_page-in-Absent.ensures.ends in
    let tells = c.copy_front-copied.ensures.tells in
    let met : View = with_told tells.earlier tells.earlier_under
    (view_of c.copy_front-copied.new.seated) in
    let stop = rw c.in-Absent.is at tells.stop in (
      waits.0,
      inr (
        (absent_page c.in-Absent.page c.in-Absent.end c.in-Absent.turn
            c.in-Absent.written),
        met,
        view_of c.copy_front-copied.new.seated,
        stop.2,
        c.copy_front-copied.ensures.copies_on.goes_on.keeps,
        waits.1,
      ),
    )

pub returns-in_ok-wait_for_page-in-Absent-clause-copies_on : goal.returns-in_ok-wait_for_page-in-Absent-clause-copies_on
returns-in_ok-wait_for_page-in-Absent-clause-copies_on g c =
    copied_on c.args.placed.now c.copy_front-copied.new.placed c.copy_front-copied.new.placed
    c.args.seated.now c.copy_front-copied.new.seated c.wait_for_page.new.seated
    c.copy_front-copied.ensures.copies_on c.wait_for_page.ensures.copies_on

pub returns-in_err-wait_for_page-in-Absent-clause-copies_on : goal.returns-in_err-wait_for_page-in-Absent-clause-copies_on
returns-in_err-wait_for_page-in-Absent-clause-copies_on g c =
    copied_on c.args.placed.now c.copy_front-copied.new.placed c.copy_front-copied.new.placed
    c.args.seated.now c.copy_front-copied.new.seated c.wait_for_page.new.seated
    c.copy_front-copied.ensures.copies_on c.wait_for_page.ensures.copies_on
