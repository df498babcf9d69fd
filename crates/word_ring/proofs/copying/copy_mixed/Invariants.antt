use Rattle.std.proofs.Common.{◌-◌, ◌≤◌}
use Rattle.word_ring.specs.CopyRuns.{HasCopied}
use Rattle.word_ring.proofs.copying.copy_mixed.Given as goal

-- so many words are copied
abbrev pub invariant-loop-done : goal.invariant-loop-done
invariant-loop-done g l =
    HasCopied l.done l.initial.seated l.seated l.initial.placed l.placed × (l.done ≤ l.count)

abbrev pub decreases-loop-done : goal.decreases-loop-done
decreases-loop-done g l = l.count - l.done
