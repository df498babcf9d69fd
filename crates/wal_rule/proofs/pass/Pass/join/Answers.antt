use Rattle.std.proofs.Common.{◌≡◌, List, ℕ, sym, ap, ◌∙◌, subst}
use Rattle.wal_rule.specs.declared.writer.LogWriter.{LogWriter}
use Rattle.wal_rule.specs.Passes.{HasNumbers, view_of_pass}
use Rattle.machine_state.specs.Views.{View}
use Rattle.machine_state.specs.Moves.{after_join}
use Rattle.wal_rule.proofs.PassNumbers.{joined_numbers, same_numbers}
use Rattle.wal_rule.proofs.pass.Pass.join.Goals as goal

pub join-requires-clause-seat : goal.join-requires-clause-seat
join-requires-clause-seat g c = c.take_seat-seat.ensures.seat _ _ c.requires.pass

pub join-requires-clause-other : goal.join-requires-clause-other
join-requires-clause-other g c = c.take_seat.ensures.seat _ _ c.requires.other

pub returns-clause-pass : goal.returns-clause-pass
returns-clause-pass g c = c.keep_seat.ensures.pass _ _ c.join.ensures.seat

pub keep_seat-requires-clause-numbers : goal.keep_seat-requires-clause-numbers
keep_seat-requires-clause-numbers g c =
    let me : View = view_of_pass c.args.self.now in
    let them : View = view_of_pass c.args.other in
    let view : c.join.new.seat.me.0 ≡ after_join me them =
    ap (λ (m : View × List (ℕ × LogWriter g.row.D.Denot)). m.0) c.join.ensures.view
    ∙ ap (λ (m : View × List (ℕ × LogWriter g.row.D.Denot)).
    after_join m.0 (c.take_seat.result.me).0) c.take_seat-seat.ensures.view
    ∙ ap (λ (m : View × List (ℕ × LogWriter g.row.D.Denot)). after_join me m.0)
    c.take_seat.ensures.view in
    subst (λ (v : View). HasNumbers c.take_seat-seat.new.self.number c.spares_of.result.0
    c.spares_of.result.1 v) (sym view)
    (joined_numbers me them _ _ _ _ _ _
    (same_numbers c.args.self.now c.take_seat-seat.new.self me c.take_seat-seat.ensures.numbers
    c.requires.pass.numbers)
    (same_numbers c.args.other c.take_seat.new.self them c.take_seat.ensures.numbers
    c.requires.other.numbers)
    c.spares_of.result c.spares_of.ensures.own c.spares_of.ensures.taken)
