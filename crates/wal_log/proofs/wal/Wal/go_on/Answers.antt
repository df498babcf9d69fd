use Rattle.std.proofs.Common.{◌≡◌, ℕ, ◌+◌, ◌<◌, ◌^◌, List, refl, sym, ap, ◌∙◌, subst}
use Rattle.flush_core.specs.Planned.{IsPlanOf, call_count}
use Rattle.flush_core.specs.Settled.{HasSettled}
use Rattle.machine_state.specs.Numbers.{WordsState}
use Rattle.wal_page.specs.LogPlace.{LogPlace}
use Rattle.found_log.specs.Found.{place_of_log}
use Rattle.machine_state.specs.declared.setup.Setup.{Setup}
use Rattle.machine_state.specs.Opened.{AreFirstWords, IsOpenable, first_view}
use Rattle.machine_state.specs.Steps.{IsResting}
use Rattle.machine_state.specs.Views.{View}
use Rattle.machine_state.specs.Words.{Opening, found_end}
use Rattle.wal_rule.specs.declared.seats.Founding.{Founding}
use Rattle.wal_rule.specs.declared.writer.LogWriter.{LogWriter}
use Rattle.wal_rule.specs.Founded.{disk_of_founding, found_log_opening, founded_opening}
use Rattle.wal_rule.specs.Opening.{TellsResumeErr}
use Rattle.wal_rule.specs.Passes.{view_of_pass}
use Rattle.wal_rule.specs.Slotted.{resting_plain, slot_disk}
use Rattle.wal_rule.specs.Tables.{began_of_table, opening_of_table}
use Rattle.wal_log.proofs.Opens.{first_rests}
use Rattle.wal_log.proofs.Reopens.{fixed_end, fixed_made, fixed_openable, fixed_plan, fixed_settled, fixed_size, fixed_words}
use Rattle.wal_log.proofs.wal.Wal.go_on.Goals as goal

-- what is fixed is of the log that was found
abbrev opening_given : (founding_opening : Opening) (setup : Setup) (given place : LogPlace) (made moment faults : ℕ) → founding_opening ≡ found_log_opening setup given made moment faults → given ≡ place → founding_opening ≡ found_log_opening setup place made moment faults
opening_given founding_opening setup given place made moment faults is same = is ∙ ap (λ (p : LogPlace). found_log_opening setup p made moment faults) same

pub resume-requires-clause-openable : goal.resume-requires-clause-openable
resume-requires-clause-openable g c =
    let fixed = opening_given _ _ _ _ _ _ _ c.of_found-founding.ensures.opening c.place_of.ensures in
    fixed_openable c.args.setup c.requires.setup c.args.log.now c.requires.log _ _ _ fixed

pub resume-requires-clause-words : goal.resume-requires-clause-words
resume-requires-clause-words g c =
    let fixed = opening_given _ _ _ _ _ _ _ c.of_found-founding.ensures.opening c.place_of.ensures in
    let stored = ap (λ (w : WordsState). w.words) c.set.ensures in
    subst (λ (ws : List ℕ). AreFirstWords (founded_opening c.of_found-founding.result) ws) (sym (c.as_slice.ensures ∙ stored))
    (fixed_words c.args.setup c.requires.setup c.args.log.now c.requires.log _ _ _ fixed c.args.words.words c.requires.words)

pub resume-requires-clause-writer : goal.resume-requires-clause-writer
resume-requires-clause-writer g c =
    let D : Type 0 = g.row.D.Denot in
    let fixed = opening_given _ _ _ _ _ _ _ c.of_found-founding.ensures.opening c.place_of.ensures in
    let log = c.args.log.now in
    let end = fixed_end c.args.setup c.requires.setup log c.requires.log _ _ _ fixed in
    let made = fixed_made c.args.setup c.requires.setup log c.requires.log _ _ _ fixed in
    let size = ap (λ (s : Setup). s.seg_size) (sym c.requires.shape) ∙ sym c.geometry.ensures in
    let disk = c.of_found-founding.ensures.disk in
    let handed : D = disk_of_founding c.of_found-founding.result in
    record {
      plain = c.resume-writer.ensures.plain
          ∙ ap (λ (d : D). resting_plain (g.D.Disk.tape d) (g.D.Disk.moment d) log.end.0 log.made) (sym disk)
          ∙ ap (λ (n : ℕ). resting_plain (g.D.Disk.tape handed) (g.D.Disk.moment handed) n log.made) end
          ∙ ap (λ (n : ℕ). resting_plain (g.D.Disk.tape handed) (g.D.Disk.moment handed) (found_end (founded_opening c.of_found-founding.result)) n) made;
      disk = disk ∙ sym c.resume-writer.ensures.disk;
      size = c.resume-writer.ensures.size ∙ sym size ∙ fixed_size c.args.setup c.requires.setup log c.requires.log _ _ _ fixed;
      failed = ap (λ (o : Opening). o.faults) c.of_found-founding.ensures.opening ∙ ap g.D.Disk.faults (sym c.resume-writer.ensures.disk);
    }

pub resume-requires-clause-plan : goal.resume-requires-clause-plan
resume-requires-clause-plan g c =
    let D : Type 0 = g.row.D.Denot in
    let fixed = opening_given _ _ _ _ _ _ _ c.of_found-founding.ensures.opening c.place_of.ensures in
    let opening = founded_opening c.of_found-founding.result in
    subst (λ (d : D). IsPlanOf (opening.setup).seg_size (found_end opening) opening.made (g.D.Disk.tape d) c.args.plan.now) (sym c.resume-writer.ensures.disk)
    (fixed_plan c.args.setup c.requires.setup c.args.log.now c.requires.log _ _ _ fixed _ _ c.requires.plan)

pub resume-requires-clause-moment : goal.resume-requires-clause-moment
resume-requires-clause-moment g c =
    let D : Type 0 = g.row.D.Denot in
    subst (λ (d : D). g.D.Disk.moment d + call_count c.args.plan.now < 2 ^ 64 → c.of_found-founding.result.moment ≡ g.D.Disk.moment d + call_count c.args.plan.now)
    (sym c.resume-writer.ensures.disk) c.of_found-founding.ensures.moment

pub returns-in-Ok-clause-goes_on : goal.returns-in-Ok-clause-goes_on
returns-in-Ok-clause-goes_on g c =
    let D : Type 0 = g.row.D.Denot in
    let fixed = opening_given _ _ _ _ _ _ _ c.of_found-founding.ensures.opening c.place_of.ensures in
    let setup = c.args.setup in
    let log = c.args.log.now in
    let key = c.in-Ok.ensures.key in
    let seat = c.in-Ok.ensures.seat in
    let first : View = first_view (founded_opening c.of_found-founding.result) in
    let view : view_of_pass c.of_seat-pass.result ≡ first = c.of_seat-pass.ensures.view ∙ ap (λ (m : View × List (ℕ × LogWriter D)). m.0) seat.0 in
    let disk = c.resume-writer.ensures.disk in
    let table = c.in-Ok.table in
    record {
      opening = ap (λ (f : Founding D). founded_opening f) key ∙ fixed
          ∙ ap (λ (m : ℕ). found_log_opening setup (place_of_log log) log.made m (g.D.Disk.faults c.args.disk)) (sym (ap (λ (f : Founding D). f.moment) key));
      openable = subst (λ (f : Founding D). IsOpenable (founded_opening f)) (sym key) (fixed_openable setup c.requires.setup log c.requires.log _ _ _ fixed);
      settled = subst (λ (d : D). HasSettled setup.seg_size log.end.0 log.made (g.D.Disk.tape d) (began_of_table g.D.Disk.tape table) (g.D.Disk.moment d) (opening_of_table table).moment) disk
          (fixed_settled setup c.requires.setup log c.requires.log _ _ _ fixed _ _ _ _ c.in-Ok.ensures.settled);
      count_is = refl;
      end_is = refl;
      pass_is = record {
        of_log = c.of_seat-pass.ensures.pass _ _ seat.1;
        rests = subst IsResting (sym view) (first_rests (founded_opening c.of_found-founding.result));
      };
      view = view ∙ ap (λ (f : Founding D). first_view (founded_opening f)) (sym key);
    }

pub returns-clause-refused : goal.returns-clause-refused
returns-clause-refused g c =
    let D : Type 0 = g.row.D.Denot in
    let fixed = opening_given _ _ _ _ _ _ _ c.of_found-founding.ensures.opening c.place_of.ensures in
    let setup = c.args.setup in
    let log = c.args.log.now in
    let error = c.in-Err.error in
    let opening = founded_opening c.of_found-founding.result in
    let held : D = slot_disk c.resume-writer.result in
    let size = fixed_size setup c.requires.setup log c.requires.log _ _ _ fixed in
    let end = fixed_end setup c.requires.setup log c.requires.log _ _ _ fixed in
    c.resume_fault.ensures setup log c.args.disk
    (subst (λ (d : D). TellsResumeErr g.D.Disk.tape g.D.Disk.moment g.D.Disk.faults setup.seg_size log.end.0 d error) c.resume-writer.ensures.disk
    (subst (λ (n : ℕ). TellsResumeErr g.D.Disk.tape g.D.Disk.moment g.D.Disk.faults n log.end.0 held error) (sym size)
    (subst (λ (n : ℕ). TellsResumeErr g.D.Disk.tape g.D.Disk.moment g.D.Disk.faults (opening.setup).seg_size n held error) (sym end) c.in-Err.ensures.refused)))
