use Rattle.std.proofs.Common.{◌∙◌, ap}
use Rattle.wal_types.specs.LsnText.{without_leading_zeros}
use Rattle.wal_types.proofs.lsn.upper_half.Goals as goal

pub returns-clause-digits : goal.returns-clause-digits
returns-clause-digits c = c.with_start.ensures.digits ∙ ap without_leading_zeros c.upper_hexadecimal.ensures
