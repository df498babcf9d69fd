use Rattle.std.proofs.Common.{◌≡◌, ℕ, ◌+◌, ◌-◌, ◌*◌, take, drop, sym, ◌∙◌, ap, arith}
use Rattle.segment_disk.specs.Crash.{takes_write}
use Rattle.segment_disk.proofs.TakenWords.{taken_not, taken_here}
use Rattle.segment_disk.proofs.memory.taking.take_words.Goals as goal
use Rattle.segment_disk.proofs.memory.taking.take_words.Goals.{then-takes_write, else-takes_write}

pub loop-word-preserved : goal.loop-word-preserved
loop-word-preserved c =
    let takes = takes_write c.args.pick.now c.args.rest.now c.args.number in
    let n = c.loop-word.word in
    let eight : 8 * n + 8 - 8 * n ≡ 8 = omega arith in
    elim c.if-takes_write.branch [
      | then-takes_write w ↦ rw (w.bytes-is) (taken_here takes c.args.bytes.now c.args.written.now c.loop-word.bytes n c.loop-word.invariant c.loop-word-test.true _ w.copy_from_slice.new.self (omega arith) (omega arith) (omega arith) (w.copy_from_slice.ensures.after ∙ ap (λ (m : ℕ). take m (drop (8 * n) c.args.written.now)) eight) (sym c.takes_write.ensures ∙ w.if-takes_write.true))
      | else-takes_write w ↦ rw (w.bytes-is) (taken_not takes c.args.bytes.now c.args.written.now c.loop-word.bytes n c.loop-word.invariant c.loop-word-test.true (sym c.takes_write.ensures ∙ w.if-takes_write.false))
    ]

pub returns : goal.returns
returns c = λ k below. c.loop-word.invariant.done k (omega arith)
