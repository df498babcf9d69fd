use Rattle.std.proofs.Common.{◌≡◌, ℕ, max, ap, ◌∙◌, subst, arith}
use Rattle.machine_state.specs.Moves.{looked, ready}
use Rattle.machine_state.specs.Steps.{load_written}
use Rattle.machine_state.specs.Views.{Ready, Stage, View}
use Rattle.wal_rule.specs.SeatedPasses.{view_of}
use Rattle.wal_rule.specs.Stepping.{Meets}
use Rattle.word_ring.proofs.Bounds.{ready_low, ready_met}
use Rattle.word_ring.proofs.Steps.{view_is}
use Rattle.word_ring.proofs.mapping.look.Given.{Over}
use Rattle.word_ring.proofs.mapping.look.Goals as goal
use Rattle.word_ring.proofs.mapping.look.Goals.{After-load_written}

ready_so : (g : Over) (c : After-load_written g) → (view_of c.load_written.new.self).mapping.stage
    ≡ Ready c.load_initialised_end-at.result c.load_written.result
ready_so g c =
    let at : ℕ = c.load_initialised_end-at.result in
    let met : ℕ = c.load_written.result in
    ap (λ (w : View). (w.mapping).stage) (view_is _ _ _ c.load_written.ensures.steps)
    ∙ ap (λ (w : View). ready met (w.mapping).stage)
    (view_is _ _ _ c.load_initialised_end-at.ensures.steps)
    ∙ ap (λ (s : Stage). ready met (looked at s)) c.requires.taken

pub returns-clause-low : goal.returns-clause-low
returns-clause-low g c = ready_low (view_of c.load_written.new.self)
    c.load_initialised_end-at.result c.load_written.result
    c.load_written.new.self.seated.stands
    (ready_so g (goal.at.returns-clause-low g c).After-load_written)

pub returns-clause-looks : goal.returns-clause-looks
returns-clause-looks g c =
    let at : ℕ = c.load_initialised_end-at.result in
    let old : View = view_of c.args.seated.now in
    let first = view_is _ _ _ c.load_initialised_end-at.ensures.steps in
    let next = view_is _ _ _ c.load_written.ensures.steps in record {
      end_met = c.load_initialised_end-at.ensures.met;
      written_met = subst (λ (w : View). Meets w load_written c.load_written.result) first
          c.load_written.ensures.met;
      rises = (let low = ready_met (view_of c.load_written.new.self) at c.load_written.result
          c.load_written.new.self.seated.stands
          (ready_so g (goal.at.returns-clause-looks g c).After-load_written) in
          let last : (view_of c.load_written.new.self).mapping.confirmed
          ≡ max old.mapping.confirmed at =
          ap (λ (w : View). w.mapping.confirmed) next
          ∙ ap (λ (w : View). w.mapping.confirmed) first in
          omega (arith, low, last));
    }
