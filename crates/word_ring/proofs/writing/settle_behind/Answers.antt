use Rattle.std.proofs.Common.{ℕ, ◌/◌, ◌%◌, Bool, if◌then◌else◌, refl, subst, sym, ap, ◌∙◌, arith}
use Rattle.std.proofs.lemmas.Bool.{eq-eqb, ne_eqb}
use mathlib.Core.Option.{none, some}
use Rattle.byte_position.specs.Geometry.{IsSegmentSize, pages_of}
use Rattle.byte_position.proofs.SegmentSizes.{segment_size_in_pages}
use Rattle.flush_core.specs.Calls.{maybe, next_behind, to_sync, waiting_calls}
use Rattle.flush_core.proofs.NextCalls.{behind_none, behind_some}
use Rattle.machine_state.specs.declared.setup.Setup.{Setup}
use Rattle.wal_rule.specs.SeatedPasses.{setup_of}
use Rattle.word_ring.specs.Written.{IsSegmentSynced, IsSettledBehind}
use Rattle.word_ring.proofs.HandLaws.{from_same, stays}
use Rattle.word_ring.proofs.PageNumbers.{segment_at}
use Rattle.word_ring.proofs.writing.settle_behind.Goals as goal

pub sync_segment-requires-clause-next : goal.sync_segment-requires-clause-next
sync_segment-requires-clause-next g c =
    let size = (setup_of c.args.seated.now).seg_size in
    let size_is = c.geometry-geometry.ensures ∙ ap (λ (s : Setup). s.seg_size) c.shape.ensures in
    let due = c.to_sync.ensures ∙ ap to_sync (c.next_behind.ensures.next
    ∙ ap (λ (n : ℕ). next_behind n c.args.page c.args.upto) size_is) in
    let own = behind_some size c.args.page c.args.upto c.in-Some.segment
    (sym due ∙ c.in-Some.is) in
    record {
      up = c.requires.ready.up;
      waits = c.requires.waits ∙ ap (λ (n : ℕ). some n) (sym own.1);
    }

pub returns-in-Some : goal.returns-in-Some
returns-in-Some g c =
    let a = c.args.seated.now in
    let size = (setup_of a).seg_size in
    let upto = c.args.upto in
    let size_is = c.geometry-geometry.ensures ∙ ap (λ (s : Setup). s.seg_size) c.shape.ensures in
    let due = c.to_sync.ensures ∙ ap to_sync (c.next_behind.ensures.next
    ∙ ap (λ (n : ℕ). next_behind n c.args.page upto) size_is) in
    let is = sym due ∙ c.in-Some.is in
    let own = behind_some size c.args.page upto c.in-Some.segment is in
    record {
      ends = from_same g.D.Disk.tape g.D.Disk.moment g.D.Disk.faults a a
          c.sync_segment.new.seated (record { same_table = refl; same_seat = refl })
          c.requires.ready.hand IsSegmentSynced (IsSettledBehind size upto)
          (λ so. record {
            up = so.up;
            written = so.written;
            made = so.made;
            waiting = so.waiting ∙ sym (ap (λ (b : Bool). if b then none else some (upto / size))
                (eq-eqb (upto % size) 0 own.0));
          }) _ _ (sym (ap (λ o. waiting_calls size (maybe o)) is))
          c.sync_segment.result c.sync_segment.ensures.ends;
    }

pub returns-in-None : goal.returns-in-None
returns-in-None g c =
    let a = c.args.seated.now in
    let size = (setup_of a).seg_size in
    let page = c.args.page in
    let upto = c.args.upto in
    let size_is = c.geometry-geometry.ensures ∙ ap (λ (s : Setup). s.seg_size) c.shape.ensures in
    let due = c.to_sync.ensures ∙ ap to_sync (c.next_behind.ensures.next
    ∙ ap (λ (n : ℕ). next_behind n page upto) size_is) in
    let is = sym due ∙ c.in-None.is in
    let inside = behind_none size page upto is in
    let valid = subst IsSegmentSize size_is c.next_behind.ensures.valid in
    let whole = segment_size_in_pages size valid in
    record {
      ends = stays g.D.Disk.tape g.D.Disk.moment g.D.Disk.faults a a
          (record { same_table = refl; same_seat = refl }) c.requires.ready.hand
          (IsSettledBehind size upto) (record {
            up = c.requires.ready.up;
            written = refl;
            made = refl;
            waiting = c.requires.waits
                ∙ ap (λ (n : ℕ). some n) (segment_at size (pages_of size) page upto (sym whole.0)
                (let most = whole.1 in omega (arith, most)) c.requires.begun
                c.requires.within inside)
                ∙ sym (ap (λ (b : Bool). if b then none else some (upto / size))
                (ne_eqb (upto % size) 0 inside));
          }) _ (ap (λ o. waiting_calls size (maybe o)) is);
    }
