use Rattle.std.proofs.Common.{◌≡◌, take}
use Rattle.run_laws.specs.Counted.{all_reserved_count}
use Rattle.run_backends.specs.Backends.{lists_of}
use Rattle.backend_cli.proofs.run.all_records_in.Given as goal

abbrev pub invariant-loop-backend : goal.invariant-loop-backend
invariant-loop-backend l = l.count ≡ all_reserved_count (lists_of (take l.backend-index l.backends))
