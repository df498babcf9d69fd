use Rattle.std.proofs.Common.{◌≡◌, ℕ, [], ◌∷◌, List, get_or, sym, ap, ◌∙◌, subst}
use Rattle.segment_disk.specs.Tape.{IsUncalled}
use Rattle.wal_rule.specs.declared.writer.LogWriter.{LogWriter}
use Rattle.wal_rule.specs.Beginning.{IsUnbegunWriter}
use Rattle.machine_state.specs.Views.{View}
use Rattle.wal_rule.specs.Slotted.{slot_disk}
use Rattle.wal_rule.specs.Tables.{began_of_table, opening_of_table}
use Rattle.wal_rule.proofs.Begins.{Whole, ends_waiting}
use Rattle.wal_rule.proofs.InMemory.{ends_by_number}
use Rattle.wal_rule.proofs.table.LogTable.end_unbegun.Goals as goal

in_same : {A : Type 0} (w x : A) (have : List (ℕ × A)) → have ≡ (0, w) ∷ [] → have ≡ (0, x) ∷ []
    → w ≡ x
in_same {A = A} w x have is too =
    ap (λ (c : List (ℕ × A)). (get_or c 0 (0, w)).1) (sym is ∙ too)

pub returns : goal.returns
returns g c = λ w is.
    let D : Type 0 = g.row.D.Denot in
    let tape = g.D.Disk.tape in
    let moment = g.D.Disk.moment in
    let faults = g.D.Disk.faults in
    let opening = opening_of_table c.args.self in
    let began = began_of_table tape c.args.self in
    let out = c.requires.out in
    let ours = subst (IsUnbegunWriter tape opening began)
    (in_same out.0 w c.args.seat.me.1
    (ap (λ (m : View × List (ℕ × LogWriter D)). m.1) out.2) is) out.1 in
    subst (λ (d : D). IsUncalled tape moment (slot_disk w) d × (faults d ≡ faults (slot_disk w)))
    (sym c.into_disk.ensures)
    (ends_waiting tape moment faults opening began w ours c.wait_again.new.seat.id
    c.wait_again.new.seat.me.0
    (ap (λ (m : View × List (ℕ × LogWriter D)). m.0) (c.wait_again.ensures.waits w is))
    _ _ c.take-writer.result
    (ends_by_number (Whole tape moment faults opening began) _ _ _ _
    c.close_with-closed.ensures.values.2) c.take-writer.ensures.value)
