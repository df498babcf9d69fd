use Rattle.std.proofs.Common.{◌≡◌, ◌-◌, ◌<◌, length, drop}
use Rattle.wal_types.specs.LsnText.{without_leading_zeros}
use Rattle.wal_types.proofs.lsn.leading_zeros.Given as goal

abbrev pub invariant-loop-zeros : goal.invariant-loop-zeros
invariant-loop-zeros l = record {
  within : l.zeros < length l.digits;
  rest : without_leading_zeros (drop l.zeros l.digits) ≡ without_leading_zeros l.digits;
}

abbrev pub decreases-loop-zeros : goal.decreases-loop-zeros
decreases-loop-zeros l = length l.digits - l.zeros
