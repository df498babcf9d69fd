-- The position and the scripts that are left come to where the log ends.
use Rattle.std.proofs.Common.{◌≡◌, ◌+◌, ◌≤◌, All, min, drop, take}
use Rattle.machine_turns.specs.Scripts.{InsertsLogRecord}
use Rattle.machine_state.specs.Words.{log_limit, log_start}
use Rattle.wal_core.specs.Cores.{rooms_of_scripts}
use Rattle.wal_core.proofs.beginning.log_end.Given as goal

abbrev pub invariant-loop-script : goal.invariant-loop-script
invariant-loop-script l = (log_start l.shape ≤ l.position) × (l.position ≤ log_limit l.shape)
    × (min (l.position + rooms_of_scripts (drop l.script-index l.scripts)) (log_limit l.shape)
    ≡ min (log_start l.shape + rooms_of_scripts l.scripts) (log_limit l.shape))
    × All (All InsertsLogRecord) (take l.script-index l.scripts)
