use Rattle.std.proofs.Common.{◌≡◌, length}
use Rattle.log_workers.proofs.records.commits.Given as goal

-- so many commits are made
abbrev pub invariant-loop-number : goal.invariant-loop-number
invariant-loop-number l = length l.commits.items ≡ l.number
