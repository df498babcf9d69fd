use Rattle.std.specs.Option.{option_copied}
use Rattle.segment_disk.specs.declared.disk.PageBytes.{PageBytes}
use Rattle.segment_disk.specs.declared.memory.first.FirstSegment.{FirstSegment}
use Rattle.std.proofs.Common.{take, List, Option, Bor, sym, ap, subst, ◌∙◌}
use Rattle.std.proofs.lemmas.List.{take_all}
use Rattle.segment_disk.specs.declared.disk.Call.{Call}
use Rattle.segment_disk.specs.Tape.{after_calls}
use Rattle.segment_disk.specs.First.{first_state}
use Rattle.segment_disk.proofs.Reading.{IsKept, bytes_of, kept_create, kept_failed_create, kept_write, kept_other_write, kept_sync, kept_first, kept_none, kept_here, kept_elsewhere, reads_kept}
use Rattle.segment_disk.proofs.memory.reading.read_back.Goals as goal
use Rattle.segment_disk.proofs.memory.reading.read_back.Goals.{in-Some, in_default, then-call-segment+in-Create+then-made, then-call-segment+in-Create+else-made, then-call-segment+in-Write+then-written-page, then-call-segment+in-Write+else-written-page, then-call-segment+in-Sync, else-call-segment, in-Some-last, in-None}

pub loop-call-preserved : goal.loop-call-preserved
loop-call-preserved c =
    let calls = c.args.calls.now in
    let i = c.loop-call.call-index in
    let call = c.call-item.result in
    let state = after_calls (first_state c.args.first.now) (take i calls) c.args.segment in
    let here = kept_here (first_state c.args.first.now) calls i c.args.segment c.args.page c.if-call-segment.pages c.if-call-segment.last call c.loop-call-test.true c.call-item.is in
    let elsewhere = kept_elsewhere (first_state c.args.first.now) calls i c.args.segment c.args.page c.if-call-segment.pages c.if-call-segment.last call c.loop-call-test.true c.call-item.is in
    elim c.if-call-segment.branch [
      | then-call-segment+in-Create+then-made w ↦
          here w.if-call-segment.true (rw (w.in-Create.is, w.if-made.true, w.pages-is, w.last-is, w.pages-pages.ensures.value) (kept_create c.args.page 0 c.loop-call.last state call.geometry call.done))
      | then-call-segment+in-Create+else-made w ↦
          here w.if-call-segment.true (rw (w.in-Create.is, w.if-made.false, w.pages-is, w.last-is) (kept_failed_create c.args.page c.loop-call.pages c.loop-call.last state call.geometry call.done c.loop-call.invariant))
      | then-call-segment+in-Write+then-written-page w ↦
          here w.if-call-segment.true (rw (w.in-Write.is, w.if-written-page.true, w.pages-is, w.last-is) (kept_write c.args.page c.loop-call.pages c.loop-call.last state call.geometry call.done _ c.loop-call.invariant))
      | then-call-segment+in-Write+else-written-page w ↦
          here w.if-call-segment.true (rw (w.in-Write.is, w.pages-is, w.last-is) (kept_other_write c.args.page c.loop-call.pages c.loop-call.last state call.geometry call.done w.in-Write.written w.in-Write.bytes w.if-written-page.false c.loop-call.invariant))
      | then-call-segment+in-Sync w ↦
          here w.if-call-segment.true (rw (w.in-Sync.is, w.pages-is, w.last-is) (kept_sync c.args.page c.loop-call.pages c.loop-call.last state call.geometry call.done c.loop-call.invariant))
      | else-call-segment w ↦ elsewhere w.if-call-segment.false (rw (w.pages-is, w.last-is) c.loop-call.invariant)
    ]

pub returns : goal.returns
returns c =
    let kept = subst (λ (calls : List Call). IsKept (after_calls (first_state c.args.first.now) calls c.args.segment) c.args.page c.loop-call.pages c.loop-call.last) (take_all c.loop-call.call-index c.args.calls.now c.loop-call-test.false) c.loop-call.invariant in
    let reads = reads_kept (after_calls (first_state c.args.first.now) c.args.calls.now c.args.segment) c.args.page c.loop-call.pages c.loop-call.last c.match-last.bytes kept in
    record { reads = elim c.match-last.branch [ in-Some-last w ↦ reads (w.bytes-is ∙ sym (ap bytes_of w.in-Some-last.is)) | in-None w ↦ reads (w.bytes-is ∙ sym (ap bytes_of w.in-None.is)) ] }

pub loop-call-init : goal.loop-call-init
loop-call-init c =
    elim c.match-find_first.branch [
      | in-Some w ↦
          kept_first c.args.first.now c.args.segment c.args.page c.match-find_first.pages c.match-find_first.last w.in-Some.stored.now
          (sym (ap (λ (o : Option (Bor FirstSegment)). option_copied o) w.in-Some.is) ∙ c.find_first.ensures) (w.pages-is ∙ w.page_count-pages.ensures) (ap (λ (o : Option (Bor PageBytes)). option_copied o) w.last-is ∙ w.page-last.ensures)
      | in_default w ↦
          kept_none c.args.first.now c.args.segment c.args.page c.match-find_first.pages c.match-find_first.last
          (sym (ap (λ (o : Option (Bor FirstSegment)). option_copied o) w.in_default.is) ∙ c.find_first.ensures) w.pages-is
    ]
