use Rattle.std.proofs.Common.{◌≡◌, take}
use Rattle.run_laws.specs.Counts.{commits_of}
use Rattle.backend_cli.proofs.run.commits_in.Given as goal

abbrev pub invariant-loop-answer : goal.invariant-loop-answer
invariant-loop-answer l = l.count ≡ commits_of (take l.answer-index l.told)
