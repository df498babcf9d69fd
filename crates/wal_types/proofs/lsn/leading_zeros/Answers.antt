use Rattle.std.proofs.Common.{◌∙◌}
use Rattle.wal_types.proofs.Digits.{drop_to_last}
use Rattle.wal_types.proofs.lsn.leading_zeros.Goals as goal

pub returns-after-loop-zeros-clause-rest : goal.returns-after-loop-zeros-clause-rest
returns-after-loop-zeros-clause-rest c =
    drop_to_last c.args.digits.now c.loop-zeros.zeros c.loop-zeros.invariant.within c.loop-zeros-test.false ∙ c.loop-zeros.invariant.rest
