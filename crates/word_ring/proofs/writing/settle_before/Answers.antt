use Rattle.std.proofs.Common.{[], ◌∷◌, refl, sym, ap, ◌∙◌}
use Rattle.segment_disk.specs.Tape.{sync_call}
use Rattle.flush_core.specs.Calls.{maybe, to_sync, waiting_calls}
use Rattle.flush_core.proofs.NextCalls.{none_to_sync, to_sync_waits}
use Rattle.machine_state.specs.Views.{Plain}
use Rattle.machine_state.specs.declared.setup.Setup.{Setup}
use Rattle.wal_rule.specs.SeatedPasses.{setup_of, view_of}
use Rattle.word_ring.specs.InHand.{writer_in}
use Rattle.word_ring.specs.Written.{IsSegmentSynced, LeavesAlone}
use Rattle.word_ring.proofs.HandLaws.{from_same, next_read, same_hand, same_in_hand, same_setup, stays}
use Rattle.word_ring.proofs.OutLaws.{synced_alone}
use Rattle.word_ring.proofs.writing.settle_before.Goals as goal

pub sync_segment-requires-clause-hand : goal.sync_segment-requires-clause-hand
sync_segment-requires-clause-hand g c =
    same_hand g.D.Disk.tape g.D.Disk.moment g.D.Disk.faults _ _ c.writer_now-now.ensures.same
    c.requires.ready.hand

pub sync_segment-requires-clause-next : goal.sync_segment-requires-clause-next
sync_segment-requires-clause-next g c =
    let a = c.args.seated.now in
    let w = writer_in (view_of a) in
    let same = same_in_hand a c.writer_now-now.new.seated c.writer_now-now.ensures.same in
    let next = c.next_call.ensures
    ∙ next_read w c.writer_now-now.result c.args.segment c.writer_now-now.ensures.read in
    record {
      up = ap (λ (p : Plain). p.fault) same ∙ c.requires.ready.up;
      waits = ap (λ (p : Plain). p.waiting) same
          ∙ to_sync_waits w.made c.args.segment c.in-Some.other w.waiting
          (sym (c.to_sync.ensures ∙ ap to_sync next) ∙ c.in-Some.is);
    }

pub returns-in-Some : goal.returns-in-Some
returns-in-Some g c =
    let a = c.args.seated.now in
    let b = c.writer_now-now.new.seated in
    let w = writer_in (view_of a) in
    let next = c.next_call.ensures
    ∙ next_read w c.writer_now-now.result c.args.segment c.writer_now-now.ensures.read in
    let is = sym (c.to_sync.ensures ∙ ap to_sync next) ∙ c.in-Some.is in
    record {
      ends = from_same g.D.Disk.tape g.D.Disk.moment g.D.Disk.faults a b
          c.sync_segment.new.seated c.writer_now-now.ensures.same c.requires.ready.hand
          IsSegmentSynced (LeavesAlone c.args.segment)
          (synced_alone c.args.segment w (writer_in (view_of c.sync_segment.new.seated))) _ _
          (ap (λ (s : Setup). sync_call s.seg_size c.in-Some.other ∷ [])
          (same_setup a b c.writer_now-now.ensures.same.same_table)
          ∙ sym (ap (λ o. waiting_calls (setup_of a).seg_size (maybe o)) is))
          c.sync_segment.result c.sync_segment.ensures.ends;
    }

pub returns-in-None : goal.returns-in-None
returns-in-None g c =
    let a = c.args.seated.now in
    let w = writer_in (view_of a) in
    let next = c.next_call.ensures
    ∙ next_read w c.writer_now-now.result c.args.segment c.writer_now-now.ensures.read in
    let is = sym (c.to_sync.ensures ∙ ap to_sync next) ∙ c.in-None.is in
    record {
      ends = stays g.D.Disk.tape g.D.Disk.moment g.D.Disk.faults a
          c.writer_now-now.new.seated c.writer_now-now.ensures.same c.requires.ready.hand _
          (record {
            up = c.requires.ready.up;
            written = refl;
            made = refl;
            alone = none_to_sync w.made c.args.segment w.waiting is;
          }) _ (ap (λ o. waiting_calls (setup_of a).seg_size (maybe o)) is);
    }
