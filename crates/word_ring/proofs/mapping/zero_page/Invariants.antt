use Rattle.std.proofs.Common.{◌*◌}
use Rattle.machine_state.specs.Views.{Zeroing}
use Rattle.wal_rule.specs.SeatedPasses.{HasView, view_of}
use Rattle.word_ring.specs.Mapped.{staged_view}
use Rattle.word_ring.proofs.mapping.zero_page.Given as goal

-- so many rows are zeroed
abbrev pub invariant-loop-row : goal.invariant-loop-row
invariant-loop-row g l = HasView (staged_view (Zeroing l.at (8 * l.row))
    (view_of l.initial.seated)) l.initial.seated l.seated
