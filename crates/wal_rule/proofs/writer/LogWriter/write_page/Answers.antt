use Rattle.std.proofs.Common.{◌≡◌, ℕ, ◌+◌, Some, arith, refl, sym, ap, ◌∙◌}
use Rattle.segment_disk.specs.Tape.{write_call}
use Rattle.wal_rule.specs.declared.writer.LogWriter.{LogWriter}
use Rattle.wal_rule.specs.Slotted.{slot_segment_size}
use Rattle.wal_rule.proofs.CallsEnd.{call_failed}
use Rattle.wal_rule.proofs.writer.LogWriter.write_page.Goals as goal
use Rattle.wal_rule.proofs.writer.LogWriter.write_page.Goals.{then-moment-counted, else-moment-counted}

one_more : (n m : ℕ) → n ≡ m → n ≡ m + 1 → ⊥
one_more n m same more = omega (arith, same, more)

pub returns-after-moment-counted : goal.returns-after-moment-counted
returns-after-moment-counted g c =
    let D : Type 0 = g.row.D.Denot in
    let failed = call_failed g.D.Disk.tape g.D.Disk.moment g.D.Disk.faults c.args.self.now
    c.write_page.new.self (write_call (slot_segment_size c.args.self.now) c.args.segment
    c.args.page c.args.bytes.now) in
    elim c.if-moment-counted.branch [
      | then-moment-counted w ↦ failed _ (Some c.args.segment) c.fail.result (λ made rose. refl)
          (λ same. absurd (w.if-moment-counted.true (c.moment.ensures ∙ same ∙ sym c.moment-counted.ensures)))
          c.in-Err.ensures.answers c.in-Err.ensures.cause _
          (c.fail.ensures.kept
          ∙ ap (λ (x : LogWriter D). record x { fault = Some c.fail.result.faults }) w.self-is)
          (c.fail.ensures.told ∙ ap (λ (x : LogWriter D). g.D.Disk.faults x.disk) w.self-is)
      | else-moment-counted w ↦ failed _ (c.args.self.now).waiting c.fail.result
          (λ made rose. absurd (one_more c.moment.result c.moment-counted.result
          w.if-moment-counted.false
          (c.moment.ensures ∙ rose ∙ ap (λ (n : ℕ). n + 1) (sym c.moment-counted.ensures))))
          (λ same. refl)
          c.in-Err.ensures.answers c.in-Err.ensures.cause _
          (c.fail.ensures.kept
          ∙ ap (λ (x : LogWriter D). record x { fault = Some c.fail.result.faults }) w.self-is)
          (c.fail.ensures.told ∙ ap (λ (x : LogWriter D). g.D.Disk.faults x.disk) w.self-is)
    ]
