use Rattle.wal_log_laws.proofs.LoneCalls.{begins_unhindered, flushes_unhindered, stops_unhindered}
use Rattle.wal_log_laws.proofs.unhindered.lone_passes_are_not_held_up.Goals as goal

pub returns-clause-begins : goal.returns-clause-begins
returns-clause-begins g c = λ wal body old answer alone.
    begins_unhindered c.calls_keep_numbers.ensures old alone wal body answer

pub returns-clause-flushes : goal.returns-clause-flushes
returns-clause-flushes g c = λ asked old new answer alone keeps rests.
    flushes_unhindered c.calls_keep_numbers.ensures old alone asked new keeps rests answer

pub returns-clause-copies : goal.returns-clause-copies
returns-clause-copies g c = λ setup most placed next old new copied alone keeps away.
    stops_unhindered c.calls_keep_numbers.ensures old alone setup most placed next new copied keeps
    away
