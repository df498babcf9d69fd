use Rattle.std.proofs.Common.{◌≡◌}
use Rattle.backend_cli.proofs.ReplayScripts.{scripts_of}
use Rattle.backend_cli.proofs.replay.scripts_of.Given as goal

-- the scripts so far are those of the backends so far
abbrev pub invariant-loop-lines : goal.invariant-loop-lines
invariant-loop-lines l = l.scripts.items ≡ scripts_of l.yielded
