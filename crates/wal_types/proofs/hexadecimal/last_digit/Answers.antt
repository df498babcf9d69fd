use Rattle.std.proofs.Common.{◌%◌, refl, arith}
use Rattle.wal_types.proofs.Digits.{digit_in_table}
use Rattle.wal_types.proofs.hexadecimal.last_digit.Goals as goal

pub returns : goal.returns
returns c = digit_in_table (c.args.n % 16) (c.args.n % 16) (omega arith) refl
