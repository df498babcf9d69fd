use Rattle.wal_rule.specs.SeatedPasses.{HasView, view_of}
use Rattle.word_ring.specs.Copied.{copied_view}
use Rattle.word_ring.proofs.copying.store_few.Given as goal

-- so many words are stored
abbrev pub invariant-loop-n : goal.invariant-loop-n
invariant-loop-n g l =
    HasView (copied_view l.n (view_of l.initial.seated)) l.initial.seated l.seated
