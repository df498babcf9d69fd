use Rattle.std.specs.Prelude.{IfSome}
use Rattle.std.proofs.Common.{◌≡◌, ℕ, List, None, sym, ap, ◌∙◌, subst, arith}
use Rattle.segment_disk.specs.Tape.{Tape, page_of_segment, state_now}
use Rattle.wal_page.specs.LogPlace.{new_place}
use Rattle.machine_state.proofs.NothingFound.{nothing_opens}
use Rattle.machine_state.specs.Opened.{IsFirstWriter, first_view}
use Rattle.machine_state.specs.Sound.{IsSetup}
use Rattle.machine_state.specs.Words.{Opening}
use Rattle.machine_state.specs.declared.setup.Setup.{Setup}
use Rattle.wal_rule.specs.declared.seats.Founding.{Founding}
use Rattle.wal_rule.specs.declared.writer.LogWriter.{LogWriter}
use Rattle.wal_rule.specs.Founded.{founded_opening}
use Rattle.wal_rule.specs.Opening.{TellsOpenErr}
use Rattle.wal_rule.specs.Passes.{view_of_pass}
use Rattle.machine_state.specs.Steps.{IsResting}
use Rattle.machine_state.specs.Views.{View}
use Rattle.wal_rule.specs.Slotted.{slot_plain}
use Rattle.wal_log.proofs.Opens.{first_rests}
use Rattle.wal_log.proofs.wal.Wal.open_with.Goals as goal

pub open-requires-clause-openable : goal.open-requires-clause-openable
open-requires-clause-openable g c =
    nothing_opens (founded_opening c.of-founding.result)
    (subst (λ (o : Opening). IsSetup o.setup) (sym c.of-founding.ensures.opening) c.requires.setup)
    (ap (λ (o : Opening). o.place) c.of-founding.ensures.opening
    ∙ ap (λ (o : Opening). new_place (o.setup).seg_size) (sym c.of-founding.ensures.opening))
    (omega (arith, ap (λ (o : Opening). o.made) c.of-founding.ensures.opening))

pub open-requires-clause-made : goal.open-requires-clause-made
open-requires-clause-made g c = ap (λ (o : Opening). o.made) c.of-founding.ensures.opening

pub open-requires-clause-writer : goal.open-requires-clause-writer
open-requires-clause-writer g c =
    let disk = c.of-founding.ensures.disk ∙ sym c.new-writer.ensures.disk in
    let setup = ap (λ (o : Opening). o.setup) c.of-founding.ensures.opening in
    let size = ap (λ (s : Setup). s.seg_size) (sym c.requires.shape) ∙ sym c.geometry.ensures in
    record {
      first = subst (λ (o : Opening). IsFirstWriter o
          (slot_plain g.D.Disk.tape g.D.Disk.moment c.new-writer.result))
          (sym c.of-founding.ensures.opening) (c.new-writer.ensures.first c.args.setup size);
      disk = disk;
      size = c.new-writer.ensures.size ∙ sym size
          ∙ sym (ap (λ (s : Setup). s.seg_size) setup);
      failed = ap (λ (o : Opening). o.faults) c.of-founding.ensures.opening
          ∙ ap g.D.Disk.faults (sym c.new-writer.ensures.disk);
    }

pub returns-in-Ok-clause-opened : goal.returns-in-Ok-clause-opened
returns-in-Ok-clause-opened g c =
    let D : Type 0 = g.row.D.Denot in
    let key = c.in-Ok.ensures.key in
    let seat = c.in-Ok.ensures.seat in
    let first : View = first_view (founded_opening c.of-founding.result) in
    let view : view_of_pass c.of_seat-pass.result ≡ first = c.of_seat-pass.ensures.view
    ∙ ap (λ (m : View × List (ℕ × LogWriter D)). m.0) seat.0 in
    record {
      opening = ap (λ (f : Founding D). founded_opening f) key ∙ c.of-founding.ensures.opening;
      began = c.in-Ok.ensures.began ∙ ap g.D.Disk.tape c.new-writer.ensures.disk;
      pass_is = record {
        of_log = c.of_seat-pass.ensures.pass _ _ seat.1;
        rests = subst IsResting (sym view) (first_rests (founded_opening c.of-founding.result));
      };
      view = view ∙ ap (λ (f : Founding D). first_view (founded_opening f)) (sym key);
      empty = subst (λ (d : D). IfSome (g.D.Disk.tape d)
          (λ (t : Tape). page_of_segment (state_now t 1) 0 ≡ None)) c.new-writer.ensures.disk
          c.in-Ok.ensures.empty;
    }

pub returns-clause-refused : goal.returns-clause-refused
returns-clause-refused g c =
    let D : Type 0 = g.row.D.Denot in
    c.open_fault.ensures c.args.setup c.args.disk c.requires.setup
    (subst (λ (d : D). TellsOpenErr g.D.Disk.tape g.D.Disk.moment g.D.Disk.faults d
    c.in-Err.error) c.new-writer.ensures.disk c.in-Err.ensures.refused)
