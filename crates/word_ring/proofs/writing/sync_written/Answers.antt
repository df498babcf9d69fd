use Rattle.std.proofs.Common.{◌∷◌, [], refl, sym, ap, ◌∙◌}
use mathlib.Core.Option.{Option}
use Rattle.std.proofs.Common.{ℕ}
use Rattle.segment_disk.specs.Tape.{sync_call}
use Rattle.flush_core.specs.Calls.{waiting_calls, maybe}
use Rattle.machine_state.specs.declared.setup.Setup.{Setup}
use Rattle.wal_rule.specs.SeatedPasses.{setup_of}
use Rattle.word_ring.specs.Written.{IsSegmentSynced}
use Rattle.word_ring.proofs.HandLaws.{from_same, same_hand, same_setup, stays}
use Rattle.word_ring.proofs.writing.sync_written.Goals as goal

pub sync_segment-requires-clause-hand : goal.sync_segment-requires-clause-hand
sync_segment-requires-clause-hand g c =
    same_hand g.D.Disk.tape g.D.Disk.moment g.D.Disk.faults _ _ c.writer_now.ensures.same
    c.requires.ready.hand

pub returns-in-Some : goal.returns-in-Some
returns-in-Some g c =
    let a = c.args.seated.now in
    let b = c.writer_now.new.seated in
    let waits = sym (ap maybe c.in-Some.is) ∙ c.writer_now.ensures.read.waiting in
    let same = same_setup a b c.writer_now.ensures.same.same_table in
    record {
      ends = from_same g.D.Disk.tape g.D.Disk.moment g.D.Disk.faults a b
          c.sync_segment.new.seated c.writer_now.ensures.same c.requires.ready.hand
          IsSegmentSynced IsSegmentSynced (λ so. so) _ _
          (ap (λ (s : Setup). sync_call s.seg_size c.in-Some.segment ∷ []) same
          ∙ ap (λ (o : Option ℕ). waiting_calls (setup_of a).seg_size o) waits)
          c.sync_segment.result c.sync_segment.ensures.ends;
    }

pub returns-in-None : goal.returns-in-None
returns-in-None g c =
    let a = c.args.seated.now in
    let free = sym c.writer_now.ensures.read.waiting ∙ ap maybe c.in-None.is in
    record {
      ends = stays g.D.Disk.tape g.D.Disk.moment g.D.Disk.faults a
          c.writer_now.new.seated c.writer_now.ensures.same c.requires.ready.hand _ (record {
            up = c.requires.ready.up;
            written = refl;
            made = refl;
            waiting = free;
          }) _ (ap (λ (o : Option ℕ). waiting_calls (setup_of a).seg_size o) free);
    }
