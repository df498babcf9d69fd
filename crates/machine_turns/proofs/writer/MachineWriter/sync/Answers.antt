use Rattle.std.proofs.Common.{refl, sym, subst, ℕ, ◌+◌, ◌∙◌, is_ok, arith}
use Rattle.segment_disk.specs.Failing.{is_listed}
use Rattle.segment_disk.specs.Cause.{RoseByOne}
use Rattle.segment_disk.specs.MemDisk.{counts_next, faults_of, has_segment, limits_of, moment_of}
use Rattle.segment_disk.specs.Tape.{sync_call}
use Rattle.machine_state.specs.Moves.{after_sync}
use Rattle.machine_turns.specs.Writer.{state_of}
use Rattle.flush_core.specs.Calls.{maybe}
use Rattle.machine_turns.proofs.Keeping.{counts_now, done_by, fails_counted, kept_call, listed_by, made_ok, rose_from_none, none_is_not_some, writer_failed}
use Rattle.machine_turns.proofs.writer.MachineWriter.sync.Goals as goal

pub returns-then-done-clause-kept : goal.returns-then-done-clause-kept
returns-then-done-clause-kept c =
    let e = c.sync.ensures in
    let w = c.args.self.now in
    let due = c.requires.due in
    let kept = c.requires.kept.1 in
    let good = sym c.is_ok-done.ensures.value ∙ c.if-done.true in
    let call = sync_call w.geometry c.args.segment in
    let m = made_ok w.disk c.sync.new.self call c.sync.result good e.answers e.cause in (
      c.requires.kept.0,
      kept_call w.geometry w.end w.disk c.sync.new.self w.page e.counted.limits m.faults call tt (state_of w).plain _ kept due.up m.made e.segments (omega arith) kept.within refl
          (λ s at. absurd (none_is_not_some s at)),
    )

pub returns-else-done-clause-done : goal.returns-else-done-clause-done
returns-else-done-clause-done c =
    let w = c.args.self.now in
    let due = c.requires.due in
    let kept = c.requires.kept.1 in
    let g = kept.going due.up in
    let there = g.waits c.args.segment due.waits in
    let counts = counts_now w.disk due.has_room in
    c.is_ok-done.ensures.value ∙ done_by (counts_next w.disk) (has_segment w.disk c.args.segment) (is_listed (limits_of w.disk).failing (moment_of w.disk + 1)) (is_ok c.sync.result) c.sync.ensures.exact counts (g.there c.args.segment there.0 there.1)

pub returns-else-done-clause-writer : goal.returns-else-done-clause-writer
returns-else-done-clause-writer c =
    let e = c.sync.ensures in
    let w = c.args.self.now in
    let new = c.sync.new.self in
    let due = c.requires.due in
    let kept = c.requires.kept.1 in
    let g = kept.going due.up in
    let there = g.waits c.args.segment due.waits in
    let bad = sym c.is_ok-done.ensures.value ∙ c.if-done.false in
    let call = sync_call w.geometry c.args.segment in
    let counts = counts_now w.disk due.has_room in
    let done = done_by (counts_next w.disk) (has_segment w.disk c.args.segment) (is_listed (limits_of w.disk).failing (moment_of w.disk + 1)) (is_ok c.sync.result) e.exact counts (g.there c.args.segment there.0 there.1) in
    let listed = listed_by (is_listed (limits_of w.disk).failing (moment_of w.disk + 1)) (sym bad ∙ done) in
    let f = fails_counted w.disk new call e.counted counts c.sync.result bad e.answers e.cause in
    let rose = rose_from_none (faults_of new) (subst (λ (n : ℕ). RoseByOne n (faults_of new)) g.unfailed f.rose) in
    writer_failed w new call (λ o. after_sync call o (state_of w).plain) f.kind (maybe w.waiting) c.faults.result f.made (c.faults.ensures ∙ rose) e.counted.limits listed refl
