use Rattle.std.proofs.Common.{◌≡◌, sym, ap, ◌∙◌, subst}
use Rattle.wal_page.specs.LogPlace.{IsPlace, new_place}
use Rattle.wal_page.proofs.PlaceLaws.{new_place-stands}
use Rattle.machine_state.specs.declared.setup.Setup.{Setup}
use Rattle.machine_state.specs.Sound.{IsSetup}
use Rattle.machine_state.specs.FirstWords.{first_end, IsEndOf}
use Rattle.machine_state.proofs.FirstWords.{no_word_below, nothing_ends_first}
use Rattle.machine_state.proofs.words.MachineWords.first.Goals as goal

pub returns-clause-first : goal.returns-clause-first
returns-clause-first c = λ opening setup_is moment_is fresh.
    let valid = subst IsSetup (sym setup_is) c.requires in
    let here = fresh ∙ ap (λ (s : Setup). new_place s.seg_size) (sym setup_is) in
    c.resume.ensures.first opening setup_is moment_is
    (subst (IsPlace c.args.setup.seg_size) (sym fresh)
    (new_place-stands c.args.setup.seg_size 0 c.requires.size))
    (subst (λ e. IsEndOf opening e) (ap (λ (s : Setup). first_end s.seg_size) setup_is
    ∙ sym c.first-end.ensures) (nothing_ends_first opening valid here))
    (no_word_below opening valid here _)
