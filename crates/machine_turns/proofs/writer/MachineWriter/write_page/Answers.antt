use Rattle.std.proofs.Common.{◌≡◌, refl, sym, ap, subst, ℕ, ◌+◌, ◌%◌, ◌∙◌, is_ok, arith}
use mathlib.Core.Option.{some}
use Rattle.byte_position.specs.Geometry.{pages_of}
use Rattle.segment_disk.specs.Failing.{is_listed}
use Rattle.segment_disk.specs.Cause.{RoseByOne}
use Rattle.segment_disk.specs.MemDisk.{counts_next, faults_of, has_segment, limits_of, moment_of}
use Rattle.segment_disk.specs.Tape.{write_call}
use Rattle.machine_state.specs.Moves.{after_write}
use Rattle.machine_turns.specs.Writer.{next_outcome, page_at, segment_at, state_of}
use Rattle.machine_turns.proofs.Keeping.{counts_now, done_by, fails_counted, kept_call, listed_by, made_ok, rose_from_none, same_write, segment_is_made, some_same, writer_failed}
use Rattle.machine_turns.proofs.writer.MachineWriter.write_page.Goals as goal

pub returns-then-done-clause-kept : goal.returns-then-done-clause-kept
returns-then-done-clause-kept c =
    let e = c.write_page.ensures in
    let w = c.args.self.now in
    let due = c.requires.due in
    let kept = c.requires.kept.1 in
    let segment = c.segment-segment.result in
    let good = sym c.is_ok-done.ensures.value ∙ c.if-done.true in
    let call = write_call w.geometry segment (c.page.result % c.from.result) w.page in
    let m = made_ok w.disk c.write_page.new.self call c.write_page.result good e.answers e.cause in
    let there = segment_is_made w segment c.pages.result c.segment-segment.ensures due.is_made kept.begun c.pages.ensures.value c.pages.ensures.whole c.pages.ensures.bound.0 in (
      c.requires.kept.0,
      kept_call w.geometry w.end w.disk c.write_page.new.self w.page e.counted.limits m.faults call tt (state_of w).plain _ kept due.up m.made e.segments (omega (arith, due.rises)) due.within refl
          (λ s at. let same = some_same segment s at in (omega (arith, there.0, same), omega (arith, there.1, same))),
    )

pub returns-else-done-clause-done : goal.returns-else-done-clause-done
returns-else-done-clause-done c =
    let e = c.write_page.ensures in
    let w = c.args.self.now in
    let due = c.requires.due in
    let kept = c.requires.kept.1 in
    let g = kept.going due.up in
    let segment = c.segment-segment.result in
    let there = segment_is_made w segment c.pages.result c.segment-segment.ensures due.is_made kept.begun c.pages.ensures.value c.pages.ensures.whole c.pages.ensures.bound.0 in
    let counts = counts_now w.disk due.has_room in
    let done = done_by (counts_next w.disk) (has_segment w.disk segment) (is_listed (limits_of w.disk).failing (moment_of w.disk + 1)) (is_ok c.write_page.result) e.exact counts (g.there segment there.0 there.1) in
    c.is_ok-done.ensures.value ∙ done

pub returns-else-done-clause-writer : goal.returns-else-done-clause-writer
returns-else-done-clause-writer c =
    let e = c.write_page.ensures in
    let w = c.args.self.now in
    let new = c.write_page.new.self in
    let due = c.requires.due in
    let kept = c.requires.kept.1 in
    let g = kept.going due.up in
    let segment = c.segment-segment.result in
    let bad = sym c.is_ok-done.ensures.value ∙ c.if-done.false in
    let page = c.page.result % c.from.result in
    let call = write_call w.geometry segment page w.page in
    let there = segment_is_made w segment c.pages.result c.segment-segment.ensures due.is_made kept.begun c.pages.ensures.value c.pages.ensures.whole c.pages.ensures.bound.0 in
    let counts = counts_now w.disk due.has_room in
    let done = done_by (counts_next w.disk) (has_segment w.disk segment) (is_listed (limits_of w.disk).failing (moment_of w.disk + 1)) (is_ok c.write_page.result) e.exact counts (g.there segment there.0 there.1) in
    let listed = listed_by (is_listed (limits_of w.disk).failing (moment_of w.disk + 1)) (sym bad ∙ done) in
    let f = fails_counted w.disk new call e.counted counts c.write_page.result bad e.answers e.cause in
    let rose = rose_from_none (faults_of new) (subst (λ (n : ℕ). RoseByOne n (faults_of new)) g.unfailed f.rose) in
    let page_is : page ≡ page_at (state_of w) % pages_of w.geometry = ap (λ (n : ℕ). n % c.from.result) c.page.ensures ∙ ap (λ (n : ℕ). page_at (state_of w) % n) (c.from.ensures ∙ c.pages.ensures.value) in
    writer_failed w new call (λ o. after_write segment c.args.upto call o (state_of w).plain) f.kind (some segment) c.faults.result f.made (c.faults.ensures ∙ rose) e.counted.limits listed refl
    ∙ same_write (state_of w) (next_outcome (state_of w)) c.args.upto (segment_at (state_of w)) (page_at (state_of w) % pages_of w.geometry) segment page c.segment-segment.ensures page_is
