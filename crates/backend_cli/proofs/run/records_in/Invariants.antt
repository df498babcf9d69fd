use Rattle.std.proofs.Common.{◌≡◌, take}
use Rattle.run_laws.specs.Counts.{reserved_count}
use Rattle.backend_cli.proofs.run.records_in.Given as goal

abbrev pub invariant-loop-answer : goal.invariant-loop-answer
invariant-loop-answer l = l.count ≡ reserved_count (take l.answer-index l.told)
