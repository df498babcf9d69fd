use Rattle.std.proofs.Common.{◌+◌, ◌*◌, ◌/◌, inl, inr, refl, arith}
use Rattle.wal_rule.specs.SeatedPasses.{view_of}
use Rattle.wal_log.specs.HeldLocks.{locks_of}
use Rattle.wal_log.specs.Waiting.{AsksForRoom}
use Rattle.wal_log.proofs.CopyLaws.{alone_low}
use Rattle.wal_log.proofs.Keeping.{both_up}
use Rattle.wal_log.proofs.WaitLaws.{asks_for_room, paused_alone, paused_on, waited}
use Rattle.wal_log.proofs.copying.wait_for_page.Given.{Over}
use Rattle.wal_log.proofs.copying.wait_for_page.Goals as goal
use Rattle.wal_log.proofs.copying.wait_for_page.Goals.{After-write_early}

pub await_page-requires-clause-low : goal.await_page-requires-clause-low
await_page-requires-clause-low g c =
    let low = alone_low c.args.seated.now (locks_of c.args.held) c.args.placed.now
    c.requires.copies in
    omega (arith, low, c.next_lsn-page.ensures)

-- somebody maps pages
pub returns-then-absent-ne0-clause-ends : goal.returns-then-absent-ne0-clause-ends
returns-then-absent-ne0-clause-ends g c =
    let old = view_of c.args.seated.now in
    waited old old (view_of c.await_page.new.seated) refl
    (λ up. inl (c.if-absent-ne0.true, up)) c.await_page.result c.await_page.ensures.ends

-- else it asks to write
asks : (g : Over) (c : After-write_early g)
    → AsksForRoom c.args.absent c.args.placed.now ((c.args.absent.written / 8192 + 1) * 8192)
asks g c = asks_for_room c.args.seated.now c.args.placed.now c.args.absent c.requires.absent.0
    c.requires.absent.1 c.if-absent-ne0.false ((c.args.absent.written / 8192 + 1) * 8192) refl

pub returns-in-Ok-clause-ends : goal.returns-in-Ok-clause-ends
returns-in-Ok-clause-ends g c =
    let ends = c.in-Ok.ensures.ends in (
      ends.1,
      inr (
        c.if-absent-ne0.false,
        _,
        asks g (goal.at.returns-in-Ok-clause-ends g c).After-write_early,
        inl ends.0,
      ),
    )

pub returns-in-Err-Turn-clause-ends : goal.returns-in-Err-Turn-clause-ends
returns-in-Err-Turn-clause-ends g c =
    let at = (goal.at.returns-in-Err-Turn-clause-ends g c).After-write_early in
    let old = view_of c.args.seated.now in
    let mid = view_of c.write_early.new.seated in
    let ends = rw c.in-Err-Turn.field-0-is at c.in-Err-Turn.ensures.ends in
    waited old mid (view_of c.await_written.new.seated) (both_up old mid c.requires.up ends.1)
    (λ up. inr (
      c.if-absent-ne0.false,
      _,
      asks g at,
      inr (mid, c.write_early.ensures.copies_on.goes_on.keeps, inl (_, ends.0), up),
    ))
    c.await_written.result c.await_written.ensures.ends

pub returns-in-Err-Behind-clause-ends : goal.returns-in-Err-Behind-clause-ends
returns-in-Err-Behind-clause-ends g c =
    let at = (goal.at.returns-in-Err-Behind-clause-ends g c).After-write_early in
    let old = view_of c.args.seated.now in
    let mid = view_of c.write_early.new.seated in
    let ends = rw c.in-Err-Behind.field-0-is at c.in-Err-Behind.ensures.ends in
    waited old mid (view_of c.wait_up.new.seated) (both_up old mid c.requires.up ends.1)
    (λ up. inr (
      c.if-absent-ne0.false,
      _,
      asks g at,
      inr (mid, c.write_early.ensures.copies_on.goes_on.keeps, inr (_, _, ends.0), up),
    ))
    c.wait_up.result c.wait_up.ensures.ends

pub returns-in-Err-Turn-clause-copies : goal.returns-in-Err-Turn-clause-copies
returns-in-Err-Turn-clause-copies g c = paused_alone c.write_early.new.seated
    c.await_written.new.seated (locks_of c.args.held) c.args.placed.now c.write_early.ensures.copies
    c.await_written.ensures.stays

pub returns-in-Err-Turn-clause-copies_on : goal.returns-in-Err-Turn-clause-copies_on
returns-in-Err-Turn-clause-copies_on g c = paused_on c.args.seated.now
    c.write_early.new.seated c.await_written.new.seated c.args.placed.now
    c.write_early.ensures.copies_on c.await_written.ensures.stays c.await_written.ensures.log

pub returns-in-Err-Behind-clause-copies : goal.returns-in-Err-Behind-clause-copies
returns-in-Err-Behind-clause-copies g c = paused_alone c.write_early.new.seated
    c.wait_up.new.seated (locks_of c.args.held) c.args.placed.now c.write_early.ensures.copies
    c.wait_up.ensures.stays

pub returns-in-Err-Behind-clause-copies_on : goal.returns-in-Err-Behind-clause-copies_on
returns-in-Err-Behind-clause-copies_on g c = paused_on c.args.seated.now
    c.write_early.new.seated c.wait_up.new.seated c.args.placed.now
    c.write_early.ensures.copies_on c.wait_up.ensures.stays c.wait_up.ensures.log
