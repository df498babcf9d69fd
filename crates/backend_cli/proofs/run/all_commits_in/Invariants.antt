use Rattle.std.proofs.Common.{◌≡◌, take}
use Rattle.run_laws.specs.Counts.{all_commits_of}
use Rattle.run_backends.specs.Backends.{lists_of}
use Rattle.backend_cli.proofs.run.all_commits_in.Given as goal

abbrev pub invariant-loop-backend : goal.invariant-loop-backend
invariant-loop-backend l = l.count ≡ all_commits_of (lists_of (take l.backend-index l.backends))
