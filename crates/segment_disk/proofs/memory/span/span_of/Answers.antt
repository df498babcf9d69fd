use Rattle.std.proofs.Common.{Option, Bor, Bool, subst, sym, ap, ◌∙◌, arith}
use Rattle.std.specs.Option.{option_copied}
use Rattle.segment_disk.specs.declared.disk.CallKind.TheVariants.{Create}
use Rattle.segment_disk.specs.declared.memory.first.FirstSegment.{FirstSegment}
use Rattle.segment_disk.specs.First.{first_state}
use Rattle.segment_disk.proofs.Spans.{SpansAt, Spans-first, Spans-none, spans_elsewhere, spans_undecided, spans_created, spans_synced, spans_gone, spans_there, undecided_create, undecided_sync}
use Rattle.segment_disk.proofs.memory.span.span_of.Goals as goal
use Rattle.segment_disk.proofs.memory.span.span_of.Goals.{in-Some, in_default, then-call-segment+in-Create+then-made, then-call-segment+in-Create+else-made, then-call-segment+in-Sync+then-call, then-call-segment+in-Sync+else-call, then-call-segment+in-Write, else-call-segment}

pub loop-i-init : goal.loop-i-init
loop-i-init c =
    elim c.match-find_first.branch [
      | in-Some w ↦
          rw (w.there-is) (omega arith, Spans-first c.args.first.now c.args.segment c.match-find_first.pages w.in-Some.stored.now (sym (ap (λ (o : Option (Bor FirstSegment)). option_copied o) w.in-Some.is) ∙ c.find_first.ensures) (w.pages-is ∙ w.page_count-pages.ensures))
      | in_default w ↦
          rw (w.there-is) (omega arith, Spans-none c.args.first.now c.args.segment c.match-find_first.pages (sym (ap (λ (o : Option (Bor FirstSegment)). option_copied o) w.in_default.is) ∙ c.find_first.ensures))
    ]

pub loop-i-preserved : goal.loop-i-preserved
loop-i-preserved c =
    let start = first_state c.args.first.now in
    let l = c.loop-i in
    let call = c.index-calls-i.result in
    elim c.if-call-segment.branch [
      | then-call-segment+in-Create+then-made w ↦
          rw (w.there-is, w.pages-is, w.since-is, w.pages-pages.ensures.value) (spans_created start c.args.calls.now l.i c.args.segment l.pages l.since l.there call c.loop-i-test.true c.index-calls-i.is l.invariant w.if-call-segment.true (w.in-Create.is ∙ ap (λ (made : Bool). Create made) w.if-made.true))
      | then-call-segment+in-Create+else-made w ↦
          rw (w.there-is, w.pages-is, w.since-is) (spans_undecided start c.args.calls.now l.i c.args.segment l.pages l.since l.there call c.loop-i-test.true c.index-calls-i.is l.invariant w.if-call-segment.true (rw w.in-Create.is (undecided_create _ call.done w.if-made.false)))
      | then-call-segment+in-Sync+then-call w ↦
          rw (w.there-is, w.pages-is, w.since-is) (spans_synced start c.args.calls.now l.i c.args.segment l.pages l.since l.there call c.loop-i-test.true c.index-calls-i.is l.invariant w.if-call-segment.true w.in-Sync.is w.if-call.true)
      | then-call-segment+in-Sync+else-call w ↦
          rw (w.there-is, w.pages-is, w.since-is) (spans_undecided start c.args.calls.now l.i c.args.segment l.pages l.since l.there call c.loop-i-test.true c.index-calls-i.is l.invariant w.if-call-segment.true (rw w.in-Sync.is (undecided_sync call.done w.if-call.false)))
      | then-call-segment+in-Write w ↦
          rw (w.there-is, w.pages-is, w.since-is) (spans_undecided start c.args.calls.now l.i c.args.segment l.pages l.since l.there call c.loop-i-test.true c.index-calls-i.is l.invariant w.if-call-segment.true (rw w.in-Write.is (λ d. d)))
      | else-call-segment w ↦
          rw (w.there-is, w.pages-is, w.since-is) (spans_elsewhere start c.args.calls.now l.i c.args.segment l.pages l.since l.there call c.loop-i-test.true c.index-calls-i.is l.invariant w.if-call-segment.false)
    ]

pub returns-then-there : goal.returns-then-there
returns-then-there c =
    let start = first_state c.args.first.now in
    let l = c.loop-i in
    let kept = subst (λ (there : Bool). SpansAt start c.args.calls.now c.args.segment there l.pages l.since l.i) c.if-there.true l.invariant in
    spans_there start c.args.calls.now l.i c.args.segment l.pages l.since c.loop-i-test.false (omega arith) kept

pub returns-else-there : goal.returns-else-there
returns-else-there c =
    let start = first_state c.args.first.now in
    let l = c.loop-i in
    let kept = subst (λ (there : Bool). SpansAt start c.args.calls.now c.args.segment there l.pages l.since l.i) c.if-there.false l.invariant in
    spans_gone start c.args.calls.now l.i c.args.segment l.pages l.since c.loop-i-test.false kept
