use Rattle.std.proofs.Common.{ℕ, Bool, inl, inr, List, [], ◌∷◌, sym, ap, ◌∙◌, subst, arith}
use Rattle.std.proofs.lemmas.Bool.{ltb-false, ltb-true}
use Rattle.segment_disk.specs.Tape.{create_call}
use Rattle.flush_core.specs.Calls.{is_create, make_calls}
use Rattle.flush_core.proofs.NextCalls.{creates_new}
use Rattle.machine_state.specs.declared.setup.Setup.{Setup}
use Rattle.machine_state.specs.Steps.{IsNextCreate}
use Rattle.machine_state.specs.Views.{View}
use Rattle.wal_rule.specs.declared.writer.LogWriter.{LogWriter}
use Rattle.wal_rule.specs.SeatedPasses.{setup_of, view_of}
use Rattle.word_ring.specs.InHand.{lent_in, writer_in}
use Rattle.word_ring.specs.Written.{IsSegmentMade, IsSegmentThere}
use Rattle.word_ring.proofs.HandLaws.{from_same, me_same, next_read, same_hand, same_setup, stays}
use Rattle.word_ring.proofs.OutLaws.{is_there, made_there}
use Rattle.word_ring.proofs.writing.make_segment.Goals as goal

pub create_segment-requires-clause-hand : goal.create_segment-requires-clause-hand
create_segment-requires-clause-hand g c =
    same_hand g.D.Disk.tape g.D.Disk.moment g.D.Disk.faults _ _ c.writer_now-now.ensures.same
    c.requires.ready.hand

pub create_segment-requires-clause-next : goal.create_segment-requires-clause-next
create_segment-requires-clause-next g c =
    let a = c.args.seated.now in
    let b = c.writer_now-now.new.seated in
    let w = writer_in (view_of a) in
    let created = c.creates.ensures ∙ ap is_create (c.next_call.ensures
    ∙ next_read w c.writer_now-now.result c.args.segment c.writer_now-now.ensures.read) in
    let new = ltb-true w.made c.args.segment
    (sym (creates_new w.made c.args.segment w.waiting c.requires.alone) ∙ sym created
    ∙ c.if-not-creates.false) in
    let next = c.requires.next in
    let here = c.requires.here in
    let left = c.requires.left in
    subst (λ (v : View). IsNextCreate (setup_of b) c.args.segment (lent_in (v.writing).hold))
    (sym (ap (λ (m : View × List (ℕ × LogWriter g.row.D.Denot)). m.0)
    (me_same a b c.writer_now-now.ensures.same)))
    (subst (λ (s : Setup). IsNextCreate s c.args.segment (lent_in ((view_of a).writing).hold))
    (sym (same_setup a b c.writer_now-now.ensures.same.same_table)) (record {
      up = c.requires.ready.up;
      next = omega (arith, new, next);
      behind = here;
      asked = omega (arith, here, left);
      alone = elim c.requires.alone [
        | inl free ↦ free
        | inr own ↦ (let there = own.1 in absurd (omega (arith, there, new)))
      ];
    }))

pub returns-then-not-creates : goal.returns-then-not-creates
returns-then-not-creates g c =
    let a = c.args.seated.now in
    let w = writer_in (view_of a) in
    let created = c.creates.ensures ∙ ap is_create (c.next_call.ensures
    ∙ next_read w c.writer_now-now.result c.args.segment c.writer_now-now.ensures.read) in
    let old = sym (creates_new w.made c.args.segment w.waiting c.requires.alone) ∙ sym created
    ∙ c.if-not-creates.true in
    let there = ltb-false w.made c.args.segment old in
    record {
      ends = stays g.D.Disk.tape g.D.Disk.moment g.D.Disk.faults a
          c.writer_now-now.new.seated c.writer_now-now.ensures.same c.requires.ready.hand _
          (is_there c.args.segment w c.requires.ready.up (omega (arith, there))
          c.requires.alone) _
          (ap (λ (b : Bool). make_calls (setup_of a).seg_size c.args.segment b) old);
    }

pub returns : goal.returns
returns g c =
    let a = c.args.seated.now in
    let b = c.writer_now-now.new.seated in
    let w = writer_in (view_of a) in
    let created = c.creates.ensures ∙ ap is_create (c.next_call.ensures
    ∙ next_read w c.writer_now-now.result c.args.segment c.writer_now-now.ensures.read) in
    let new = sym (creates_new w.made c.args.segment w.waiting c.requires.alone) ∙ sym created
    ∙ c.if-not-creates.false in
    let next = ltb-true w.made c.args.segment new in
    record {
      ends = from_same g.D.Disk.tape g.D.Disk.moment g.D.Disk.faults a b
          c.create_segment.new.seated c.writer_now-now.ensures.same c.requires.ready.hand
          (IsSegmentMade c.args.segment) (IsSegmentThere c.args.segment)
          (made_there c.args.segment w (writer_in (view_of c.create_segment.new.seated))
          (omega (arith, next)) c.requires.alone) _ _
          (ap (λ (s : Setup). create_call s.seg_size c.args.segment ∷ [])
          (same_setup a b c.writer_now-now.ensures.same.same_table)
          ∙ sym (ap (λ (t : Bool). make_calls (setup_of a).seg_size c.args.segment t) new))
          c.create_segment.result c.create_segment.ensures.ends;
    }
