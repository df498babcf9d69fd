-- The words and the writer are those of the log that the table is of.
use Rattle.std.proofs.Common.{◌≡◌, ◌∙◌, ap, sym, subst, refl, arith}
use Rattle.segment_disk.specs.declared.memory.disk.MemDisk.{MemDisk}
use Rattle.wal_page.specs.LogPlace.{new_place}
use Rattle.machine_state.specs.Words.{Opening}
use Rattle.machine_state.specs.declared.setup.Setup.{Setup}
use Rattle.machine_state.specs.Views.{Plain}
use Rattle.machine_state.proofs.NothingFound.{nothing_opens}
use Rattle.machine_state.specs.Opened.{AreFirstWords, IsFirstWriter}
use Rattle.machine_state.specs.Sound.{IsSetup}
use Rattle.wal_rule.specs.Founded.{founded_opening}
use Rattle.log_tests.proofs.tables.open.Goals as goal

first_of : (o p : Opening) (w : Plain) → o ≡ p → IsFirstWriter p w → IsFirstWriter o w
first_of o p w is first = subst (λ (q : Opening). IsFirstWriter q w) (sym is) first

pub open-requires-clause-openable : goal.open-requires-clause-openable
open-requires-clause-openable c =
    nothing_opens (founded_opening c.of-founding.result)
    (subst (λ (o : Opening). IsSetup o.setup) (sym c.of-founding.ensures.opening) (record {
      size = refl;
      ring_low = omega arith;
      ring_high = omega arith;
      cap_low = omega arith;
      cap_high = omega arith;
      named = λ none. omega (arith, none);
      passes_low = omega arith;
      passes_high = omega arith;
    }))
    (subst (λ (o : Opening). o.place ≡ new_place (o.setup).seg_size)
    (sym c.of-founding.ensures.opening) refl)
    (omega (arith, ap (λ (o : Opening). o.made) c.of-founding.ensures.opening))

pub open-requires-clause-made : goal.open-requires-clause-made
open-requires-clause-made c = ap (λ (o : Opening). o.made) c.of-founding.ensures.opening

pub open-requires-clause-words : goal.open-requires-clause-words
open-requires-clause-words c =
    let opening = founded_opening c.of-founding.result in
    subst (λ ws. AreFirstWords opening ws) (sym c.as_slice.ensures)
    (c.in_ok-words.ensures.first opening
    (ap (λ (o : Opening). o.setup) c.of-founding.ensures.opening) refl
    (ap (λ (o : Opening). o.place) c.of-founding.ensures.opening))

pub open-requires-clause-writer : goal.open-requires-clause-writer
open-requires-clause-writer c =
    let opening = c.of-founding.ensures.opening in
    let size = ap (λ (s : Setup). s.seg_size) (sym c.in_ok-shape.ensures)
    ∙ sym c.geometry.ensures in
    record {
      first = first_of _ _ _ opening (c.new-writer.ensures.first _ size);
      disk = c.of-founding.ensures.disk ∙ sym c.new-writer.ensures.disk;
      size = c.new-writer.ensures.size ∙ sym size
          ∙ sym (ap (λ (o : Opening). (o.setup).seg_size) opening);
      failed = ap (λ (o : Opening). o.faults) opening
          ∙ ap (λ (d : MemDisk). d.calls.faults) (sym c.new-writer.ensures.disk);
    }
