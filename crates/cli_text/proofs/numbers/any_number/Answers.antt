use Rattle.std.proofs.Common.{sym, arith}
use Rattle.cli_text.proofs.Decimals.{number_of_too_large}
use Rattle.cli_text.proofs.numbers.any_number.Goals as goal

pub returns-in_err-checked_mul : goal.returns-in_err-checked_mul
returns-in_err-checked_mul c =
    rw c.from_residual.ensures (sym (number_of_too_large c.args.most c.args.field.now c.loop-byte.byte-index c.loop-byte.value c.loop-byte-test.true (omega (arith, c.in_err-checked_mul.ensures, c.ranges.most.fits)) c.loop-byte.invariant))

pub returns-in_err-value : goal.returns-in_err-value
returns-in_err-value c =
    rw c.from_residual-in_err-value.ensures (sym (number_of_too_large c.args.most c.args.field.now c.loop-byte.byte-index c.loop-byte.value c.loop-byte-test.true (omega (arith, c.in_err-value.ensures, c.in_ok-checked_mul.ensures, c.from.ensures, c.ranges.most.fits)) c.loop-byte.invariant))
