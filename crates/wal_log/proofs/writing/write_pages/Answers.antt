use Rattle.std.proofs.Common.{◌≤◌, ℕ, ◌*◌, ap, subst, sym, arith}
use Rattle.std.proofs.lemmas.Result.{err_from_is_err_and}
use Rattle.machine_state.specs.declared.setup.Setup.{Setup}
use Rattle.wal_rule.specs.SeatedPasses.{setup_of, view_of}
use Rattle.word_ring.specs.InHand.{writer_in}
use Rattle.word_ring.specs.MadeCalls.{HasBrokenOff, calls_to_put_page}
use Rattle.word_ring.proofs.HandLaws.{same_setup}
use Rattle.wal_log.proofs.AddingNothing.{adds_on, hand_changed}
use Rattle.wal_log.proofs.Keeping.{changes_up}
use Rattle.wal_log.proofs.WriteLaws.{all_stored, store_adds, store_keeps, store_same, written_first, written_next}
use Rattle.wal_log.proofs.WritingCalls.{all_written, breaks_writing, none_written}
use Rattle.wal_log.proofs.writing.write_pages.Goals as goal

pub returns-then-known-written-clause-ends : goal.returns-then-known-written-clause-ends
returns-then-known-written-clause-ends g c =
    let a = c.args.seated.now in
    let b = c.store_written-written.new.seated in
    let over = c.if-known-written.true in
    let is = c.store_written-written.ensures.written in
    let same = store_keeps g.D.Disk.tape g.D.Disk.moment g.D.Disk.faults a b
    c.store_written-written.ensures.ready c.store_written-written.ensures.view in (
      all_stored g.D.Disk.tape g.D.Disk.moment g.D.Disk.faults a b
          c.store_written-written.ensures.ready c.store_written-written.ensures.view c.requires.up,
      omega (arith, over, is, same),
    )

pub returns-then-known-written-clause-adds_nothing : goal.returns-then-known-written-clause-adds_nothing
returns-then-known-written-clause-adds_nothing g c =
    store_adds g.D.Disk.tape g.D.Disk.moment g.D.Disk.faults c.args.seated.now
    c.store_written-written.new.seated c.store_written-written.ensures.ready
    c.store_written-written.ensures.view

pub loop-page-init : goal.loop-page-init
loop-page-init g c =
    let over = c.if-known-written.false in
    let is = c.store_written-written.ensures.written in
    written_first g.D.Disk.tape g.D.Disk.moment g.D.Disk.faults c.args.known _ c.args.seated.now
    c.store_written-written.new.seated c.store_written-written.ensures.ready
    c.store_written-written.ensures.view c.requires.up c.requires.known
    (omega (arith, is)) (omega (arith, is, over))

pub write_next-requires-clause-ready : goal.write_next-requires-clause-ready
write_next-requires-clause-ready g c = c.loop-page.invariant.all.ready

pub write_next-requires-clause-known : goal.write_next-requires-clause-known
write_next-requires-clause-known g c = c.loop-page.invariant.copied

pub write_next-requires-clause-page : goal.write_next-requires-clause-page
write_next-requires-clause-page g c =
    let below = c.loop-page-test.true in
    let end = c.div_ceil-page-end.ensures in
    sym (c.loop-page.invariant.begun (omega (arith, below, end))).0

pub write_next-requires-clause-left : goal.write_next-requires-clause-left
write_next-requires-clause-left g c =
    let below = c.loop-page-test.true in
    let end = c.div_ceil-page-end.ensures in
    (c.loop-page.invariant.begun (omega (arith, below, end))).1

pub store_written-requires : goal.store_written-requires
store_written-requires g c = record {
  ready = record {
    hand = c.in_ok-write_next.ensures.ends.hand;
    up = c.in_ok-write_next.ensures.ends.told.up;
  };
}

pub loop-page-preserved : goal.loop-page-preserved
loop-page-preserved g c =
    let below = c.loop-page-test.true in
    let end = c.div_ceil-page-end.ensures in
    written_next g.D.Disk.tape g.D.Disk.moment g.D.Disk.faults
    (setup_of c.loop-page.seated).seg_size c.args.known c.loop-page.page
    c.write_next.new.bytes c.args.seated.now
    c.loop-page.seated c.write_next.new.seated c.store_written.new.seated c.loop-page.invariant
    (omega (arith, below, end)) c.in_ok-write_next.ensures.ends.changes
    (ap (λ (t : Setup). t.seg_size) (same_setup c.args.seated.now c.loop-page.seated
    c.loop-page.invariant.adds.works.same_table)) c.in_ok-write_next.ensures.ends.called
    c.in_ok-write_next.ensures.ends.told c.store_written.ensures.ready c.store_written.ensures.view

pub returns-in_err-write_next-clause-ends : goal.returns-in_err-write_next-clause-ends
returns-in_err-write_next-clause-ends g c =
    let p = err_from_is_err_and c.from_residual.result c.from_residual.ensures.1 in
    rw (p.1, p.2)
    (record {
      hand = c.in_err-write_next.ensures.ends.hand;
      fault = c.in_err-write_next.ensures.ends.told;
      up = changes_up c.loop-page.seated c.write_next.new.seated
          c.in_err-write_next.ensures.ends.changes c.loop-page.invariant.all.up;
    })

pub returns-then-known-written-clause-calls : goal.returns-then-known-written-clause-calls
returns-then-known-written-clause-calls g c =
    let a = c.args.seated.now in
    let b = c.store_written-written.new.seated in
    let over = c.if-known-written.true in
    let is = c.store_written-written.ensures.written in
    none_written (setup_of a).seg_size c.args.known (writer_in (view_of a))
    (writer_in (view_of b)) (omega (arith, over, is))
    (store_same g.D.Disk.tape g.D.Disk.moment g.D.Disk.faults a b
    c.store_written-written.ensures.ready c.store_written-written.ensures.view)

pub returns-in_err-write_next-clause-calls : goal.returns-in_err-write_next-clause-calls
returns-in_err-write_next-clause-calls g c =
    let a = c.args.seated.now in
    let now = c.loop-page.seated in
    let w = writer_in (view_of now) in
    let put = c.write_next.new.seated in
    let below = c.loop-page-test.true in
    let end = c.div_ceil-page-end.ensures in
    let own = ap (λ (t : Setup). t.seg_size) (same_setup a now
    c.loop-page.invariant.adds.works.same_table) in
    let p = err_from_is_err_and c.from_residual.result c.from_residual.ensures.1 in
    rw (p.1)
    (breaks_writing (setup_of a).seg_size c.args.known (writer_in (view_of a)) w
    c.loop-page.page c.loop-page.invariant.left c.loop-page.invariant.put
    c.write_next.new.bytes (writer_in (view_of put)) (omega (arith, below, end))
    (subst (λ (n : ℕ). HasBrokenOff (calls_to_put_page n c.args.known c.loop-page.page
    c.write_next.new.bytes w) w (writer_in (view_of put))) own
    c.in_err-write_next.ensures.ends.called))

pub returns-clause-calls : goal.returns-clause-calls
returns-clause-calls g c =
    let a = c.args.seated.now in
    let over = c.loop-page-test.false in
    let end = c.div_ceil-page-end.ensures in
    let known_behind : c.args.known ≤ c.loop-page.page * 8192 = omega (arith, over, end) in
    all_written (setup_of a).seg_size c.args.known (writer_in (view_of a))
    (writer_in (view_of c.loop-page.seated)) c.loop-page.page c.loop-page.invariant.left
    c.loop-page.invariant.put c.loop-page.invariant.behind known_behind
    (c.loop-page.invariant.waits known_behind)

pub returns-in_err-write_next-clause-adds_nothing : goal.returns-in_err-write_next-clause-adds_nothing
returns-in_err-write_next-clause-adds_nothing g c =
    adds_on c.args.seated.now c.loop-page.seated c.write_next.new.seated
    c.loop-page.invariant.adds
    (hand_changed c.loop-page.seated c.write_next.new.seated
    c.in_err-write_next.ensures.ends.changes)

pub returns-clause-ends : goal.returns-clause-ends
returns-clause-ends g c =
    let over = c.loop-page-test.false in
    let end = c.div_ceil-page-end.ensures in
    (c.loop-page.invariant.all, c.loop-page.invariant.full (omega (arith, over, end)))

pub returns-clause-adds_nothing : goal.returns-clause-adds_nothing
returns-clause-adds_nothing g c = c.loop-page.invariant.adds
