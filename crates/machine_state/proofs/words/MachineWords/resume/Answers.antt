use Rattle.std.proofs.Common.{ℕ, sym, subst}
use Rattle.wal_page.specs.LogPlace.{IsPlace}
use Rattle.machine_state.specs.declared.setup.Setup.{Setup}
use Rattle.machine_state.specs.Sound.{IsSetup}
use Rattle.machine_state.specs.FirstWords.{GoOnBehind}
use Rattle.machine_state.proofs.FirstWords.{words_are_first}
use Rattle.machine_state.proofs.words.MachineWords.resume.Goals as goal

pub returns-clause-first : goal.returns-clause-first
returns-clause-first c = λ opening setup_is moment_is placed ends page.
    words_are_first opening (subst IsSetup (sym setup_is) c.requires.setup)
    (subst (λ (s : Setup). IsPlace s.seg_size opening.place) (sym setup_is) placed)
    c.args.page.now c.in_ok-words.words.items c.args.end ends page
    (subst (λ (x : Setup × ℕ). GoOnBehind (x.0).ring_pages x.1 c.args.end c.args.page.now
    c.in_ok-words.words.items) (λ j. (sym setup_is j, sym moment_is j)) c.in_ok-words.ensures)
