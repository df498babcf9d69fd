use Rattle.std.proofs.Common.{◌≡◌, ◌-◌, List, length, take, drop, arith, subst}
use Rattle.std.proofs.lemmas.List.{take_rest}
use Rattle.segment_disk.specs.declared.disk.Call.{Call}
use Rattle.segment_disk.specs.First.{first_state}
use Rattle.segment_disk.specs.Tape.{after_calls}
use Rattle.segment_disk.specs.Crash.{HoldTaken, writes_of}
use Rattle.segment_disk.specs.Picks.{writes_to}
use Rattle.segment_disk.proofs.SegmentLeft.{LeftUpto-none, left_undecided, left_decided, left_whole}
use Rattle.segment_disk.proofs.memory.crash.segment_left.Goals as goal
use Rattle.segment_disk.proofs.memory.crash.segment_left.Goals.{then-take_writes-gt0, else-take_writes-gt0}

pub loop-page-init : goal.loop-page-init
loop-page-init c =
    let now = after_calls (first_state c.args.first.now) c.args.calls.now c.args.segment in
    rw (c.in_ok-pages.ensures.items) (LeftUpto-none c.args.pick.now c.args.numbers.now now)

pub loop-page-preserved : goal.loop-page-preserved
loop-page-preserved c =
    let start = first_state c.args.first.now in
    let now = after_calls start c.args.calls.now c.args.segment in
    let l = c.loop-page in
    let since = c.args.span.now.since in
    let behind : take (length c.args.calls.now - since) (drop since c.args.calls.now) ≡ drop since c.args.calls.now = take_rest c.args.calls.now since in
    let count = subst (λ (cs : List Call). c.take_writes.result ≡ length (writes_to (writes_of cs c.args.segment) l.page)) behind c.take_writes.ensures.count in
    let held = subst (λ (cs : List Call). HoldTaken c.args.pick.now l.rest.now (writes_to (writes_of cs c.args.segment) l.page) c.read_back.new.bytes c.take_writes.new.bytes) behind c.take_writes.ensures.words in
    let read = c.read_back.ensures.reads in
    rw (c.in_ok-push.ensures.items)
    (elim c.if-take_writes-gt0.branch [
      | then-take_writes-gt0 w ↦
          rw (w.undecided-is, w.rest-is) (left_undecided c.args.pick.now c.args.numbers.now start c.args.calls.now c.args.segment since c.args.span.now.pages c.requires.pages c.requires.since l.pages.items l.undecided l.rest.now l.page c.loop-page-test.true l.invariant c.read_back.result c.read_back.new.bytes c.take_writes.new.bytes c.take_writes.result read count held (omega arith) w.listed_behind-rest.result.now w.if-take_writes-gt0.true w.listed_behind-rest.ensures)
      | else-take_writes-gt0 w ↦
          rw (w.undecided-is, w.rest-is) (left_decided c.args.pick.now c.args.numbers.now start c.args.calls.now c.args.segment since c.args.span.now.pages c.requires.pages c.requires.since l.pages.items l.undecided l.rest.now l.page c.loop-page-test.true l.invariant c.read_back.result c.read_back.new.bytes c.take_writes.new.bytes c.take_writes.result read count held (omega arith) w.if-take_writes-gt0.false)
    ])

pub returns : goal.returns
returns c =
    let now = after_calls (first_state c.args.first.now) c.args.calls.now c.args.segment in
    let l = c.loop-page in
    let whole = left_whole c.args.pick.now c.args.numbers.now now c.args.span.now.pages l.pages.items l.undecided l.rest.now l.page c.requires.pages c.loop-page-test.false (omega arith) l.invariant in
    record { left = whole.0; undecided = whole.1 }
