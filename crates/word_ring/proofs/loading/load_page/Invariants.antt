use Rattle.std.proofs.Common.{◌*◌}
use Rattle.wal_rule.specs.SeatedPasses.{view_of}
use Rattle.word_ring.specs.InHand.{Loads}
use Rattle.word_ring.specs.Loaded.{IsFrontLoaded, staged_in}
use Rattle.word_ring.proofs.loading.load_page.Given as goal

-- so many rows are loaded
abbrev pub invariant-loop-row : goal.invariant-loop-row
invariant-loop-row g l = Loads g.D.Disk.tape g.D.Disk.moment g.D.Disk.faults
    (staged_in (view_of l.seated)) l.initial.seated l.seated
    × IsFrontLoaded (8 * l.row) l.page l.bytes (staged_in (view_of l.seated))
