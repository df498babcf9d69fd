use Rattle.std.proofs.Common.{ℕ, List, ap}
use mathlib.Core.Option.{none}
use Rattle.wal_rule.proofs.TableSteps.{stores_there}
use Rattle.wal_rule.specs.declared.writer.LogWriter.{LogWriter}
use Rattle.machine_state.specs.Views.{View}
use Rattle.machine_state.specs.Steps.{view_behind}
use Rattle.wal_rule.proofs.SeatedSteps.{numbered_behind, seated_behind}
use Rattle.wal_rule.proofs.Steady.{steady}
use Rattle.wal_rule.proofs.seated.SeatedPass.stores_at.Goals as goal

pub store-requires : goal.store-requires
store-requires g c = rw c.requires.table (
  c.args.self.now.seated.of_table,
  c.requires.there,
  stores_there g.D.Disk.tape g.D.Disk.moment g.D.Disk.faults _ _ _ _ _ c.args.self.now.seated.live
      g.K.OfKind.kind c.requires.quiet c.requires.may _ c.requires.stores c.requires.meets_none
      _ c.requires.place,
)

pub invariant_of-self : goal.invariant_of-self
invariant_of-self g c =
    let old = c.args.self.now in
    let new = c.store.new.seat in
    let v : View = view_behind old.seat.me.0 g.K.OfKind.kind c.args.value none in
    let is = ap (λ (m : View × List (ℕ × LogWriter g.row.D.Denot)). m.0) c.store.ensures.2.0 in
    let keeps = steady old.seat.me.0 g.K.OfKind.kind c.requires.quiet c.args.value none in
    record {
      seated = seated_behind _ _ old.number old.seat new old.seated old.numbered
          c.store.ensures.0 v is keeps c.store.ensures.2.1;
      numbered = numbered_behind _ _ old.number old.seat new old.seated old.numbered
          c.store.ensures.0 v is keeps c.store.ensures.2.1;
    }
