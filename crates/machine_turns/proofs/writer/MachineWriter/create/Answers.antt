use Rattle.std.proofs.Common.{◌≡◌, refl, sym, ap, subst, ℕ, ◌+◌, ◌∙◌, Bool, false, is_ok, arith}
use Rattle.segment_disk.specs.Failing.{is_listed}
use Rattle.segment_disk.specs.Cause.{RoseByOne}
use Rattle.segment_disk.specs.MemDisk.{can_create, count_behind_create, counts_next, disk_state_of, faults_of, limits_of, moment_of, tape_of}
use Rattle.segment_disk.specs.Tape.{IsMade, create_call, failed_call}
use Rattle.machine_state.specs.Moves.{after_create}
use Rattle.machine_turns.specs.Writer.{state_of}
use Rattle.flush_core.specs.Calls.{maybe}
use Rattle.machine_turns.proofs.Keeping.{can_make, counts_now, done_by, err_fact, fails_counted, kept_create, listed_by, made_ok, rose_from_none, unmade_kind, writer_failed}
use Rattle.machine_turns.proofs.writer.MachineWriter.create.Goals as goal

pub returns-then-done-clause-kept : goal.returns-then-done-clause-kept
returns-then-done-clause-kept c =
    let e = c.create.ensures in
    let w = c.args.self.now in
    let good = sym c.is_ok-done.ensures.value ∙ c.if-done.true in
    let m = made_ok w.disk c.create.new.self (create_call w.geometry (w.made + 1)) c.create.result good e.answers e.cause in (
      c.requires.kept.0,
      kept_create w.geometry w.end w.disk c.create.new.self w.page e.counted.limits m.faults (state_of w).plain _ c.requires.kept.1 c.requires.due.up c.requires.due.behind c.requires.due.within m.made
          (e.segments ∙ ap (count_behind_create w.disk (w.made + 1)) good) refl refl refl,
    )

pub returns-else-done-clause-writer : goal.returns-else-done-clause-writer
returns-else-done-clause-writer c =
    let e = c.create.ensures in
    let w = c.args.self.now in
    let new = c.create.new.self in
    let kept = c.requires.kept.1 in
    let g = kept.going c.requires.due.up in
    let bad = sym c.is_ok-done.ensures.value ∙ c.if-done.false in
    let call = create_call w.geometry (w.made + 1) in
    let counts = counts_now w.disk c.requires.due.has_room in
    let can = can_make w.geometry w.end w.disk (state_of w).plain w.page kept g c.requires.due.behind c.requires.due.within in
    let done = done_by (counts_next w.disk) (can_create w.disk (w.made + 1)) (is_listed (limits_of w.disk).failing (moment_of w.disk + 1)) (is_ok c.create.result) e.exact counts can in
    let listed = listed_by (is_listed (limits_of w.disk).failing (moment_of w.disk + 1)) (sym bad ∙ done) in
    let f = fails_counted w.disk new call e.counted counts c.create.result bad e.answers e.cause in
    let unmade = err_fact c.create.result ((number : ℕ) → disk_state_of new number ≡ disk_state_of w.disk number) bad e.unmade in
    let kind = unmade_kind w.geometry w.disk new (w.made + 1) f.kind f.made (g.absent (w.made + 1) (omega arith)) unmade in
    let made = subst (λ (b : Bool). IsMade (tape_of w.disk) (tape_of new) (moment_of w.disk) (moment_of new) (failed_call b call)) kind f.made in
    let rose = rose_from_none (faults_of new) (subst (λ (n : ℕ). RoseByOne n (faults_of new)) g.unfailed f.rose) in
    writer_failed w new call (λ o. after_create (w.made + 1) call o (state_of w).plain) false (maybe w.waiting) c.faults.result made (c.faults.ensures ∙ rose) e.counted.limits listed refl
