use Rattle.std.proofs.Common.{◌-◌, ◌≤◌, length}
use Rattle.wal_rule.specs.SeatedPasses.{HasView, view_of}
use Rattle.word_ring.specs.Copied.{copied_view}
use Rattle.word_ring.proofs.copying.store_chunks.Given as goal

-- so many words are stored
abbrev pub invariant-loop-done : goal.invariant-loop-done
invariant-loop-done g l = (l.done ≤ length l.fn.chunks)
    × HasView (copied_view l.done (view_of l.initial.seated)) l.initial.seated l.seated

abbrev pub decreases-loop-done : goal.decreases-loop-done
decreases-loop-done g l = length l.fn.chunks - l.done
