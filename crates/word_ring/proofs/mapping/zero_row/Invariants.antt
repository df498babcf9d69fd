use Rattle.std.proofs.Common.{◌+◌}
use Rattle.machine_state.specs.Views.{Zeroing}
use Rattle.wal_rule.specs.SeatedPasses.{HasView, view_of}
use Rattle.word_ring.specs.Mapped.{staged_view}
use Rattle.word_ring.proofs.mapping.zero_row.Given as goal

-- so many words are zeroed
abbrev pub invariant-loop-n : goal.invariant-loop-n
invariant-loop-n g l = HasView (staged_view (Zeroing l.at (l.done + l.n))
    (view_of l.initial.seated)) l.initial.seated l.seated
