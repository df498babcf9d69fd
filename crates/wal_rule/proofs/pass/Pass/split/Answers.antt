use Rattle.std.proofs.Common.{List, ℕ, ap, ◌∙◌}
use Rattle.wal_rule.specs.declared.writer.LogWriter.{LogWriter}
use Rattle.machine_state.specs.Views.{View}
use Rattle.machine_state.specs.Moves.{after_split, split_off}
use Rattle.wal_rule.proofs.pass.Pass.split.Goals as goal

pub split-other-requires-clause-seat : goal.split-other-requires-clause-seat
split-other-requires-clause-seat g c = c.take_seat-seat.ensures.seat _ _ c.requires.pass

pub returns-clause-left : goal.returns-clause-left
returns-clause-left g c = (
  c.keep_seat.ensures.pass _ _ c.split-other.ensures.seat,
  c.keep_seat.ensures.view
      ∙ ap (λ (m : View × List (ℕ × LogWriter g.row.D.Denot)). m.0) c.split-other.ensures.view
      ∙ ap (λ (m : View × List (ℕ × LogWriter g.row.D.Denot)). after_split m.0)
      c.take_seat-seat.ensures.view,
)

pub returns-clause-right : goal.returns-clause-right
returns-clause-right g c = (
  c.of_seat.ensures.pass _ _ c.split-other.ensures.new.1,
  c.of_seat.ensures.view
      ∙ ap (λ (m : View × List (ℕ × LogWriter g.row.D.Denot)). m.0)
      c.split-other.ensures.new.0
      ∙ ap (λ (m : View × List (ℕ × LogWriter g.row.D.Denot)). split_off m.0)
      c.take_seat-seat.ensures.view,
)
