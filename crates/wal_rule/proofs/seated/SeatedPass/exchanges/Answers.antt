use Rattle.std.proofs.Common.{ℕ, List, ◌==◌, ap, ◌∙◌}
use mathlib.Core.Option.{none}
use prog.Atomic.{either}
use Rattle.wal_rule.proofs.Allowed.{either_if}
use Rattle.wal_rule.proofs.TableSteps.{finds_there}
use Rattle.wal_rule.specs.declared.writer.LogWriter.{LogWriter}
use Rattle.machine_state.specs.Views.{View}
use Rattle.machine_state.specs.Steps.{view_behind}
use Rattle.wal_rule.proofs.SeatedSteps.{numbered_behind, seated_behind}
use Rattle.wal_rule.proofs.Steady.{steady}
use Rattle.wal_rule.proofs.seated.SeatedPass.exchanges.Goals as goal

pub compare_exchange-requires : goal.compare_exchange-requires
compare_exchange-requires g c = (
  c.args.self.now.seated.of_table,
  c.requires.there,
  finds_there g.D.Disk.tape g.D.Disk.moment g.D.Disk.faults _ _ _ _ _ c.args.self.now.seated.live
      g.K.OfKind.kind c.requires.quiet c.requires.may
      (λ (met : ℕ). either (met == c.args.expected) c.args.value met)
      (λ (met : ℕ). either_if (met == c.args.expected) c.args.value met
      ∙ c.requires.exchanges met) _ c.requires.place,
)

pub invariant_of-self : goal.invariant_of-self
invariant_of-self g c =
    let old = c.args.self.now in
    let new = c.compare_exchange.new.seat in
    let v : View = view_behind old.seat.me.0 g.K.OfKind.kind c.compare_exchange.result none in
    let is = ap (λ (m : View × List (ℕ × LogWriter g.row.D.Denot)). m.0) c.compare_exchange.ensures.2.0 in
    let keeps = steady old.seat.me.0 g.K.OfKind.kind c.requires.quiet c.compare_exchange.result none in
    record {
      seated = seated_behind _ _ old.number old.seat new old.seated old.numbered
          c.compare_exchange.ensures.0 v is keeps c.compare_exchange.ensures.2.1;
      numbered = numbered_behind _ _ old.number old.seat new old.seated old.numbered
          c.compare_exchange.ensures.0 v is keeps c.compare_exchange.ensures.2.1;
    }
