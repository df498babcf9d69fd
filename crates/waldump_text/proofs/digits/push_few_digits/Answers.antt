use Rattle.std.proofs.Common.{◌∙◌, arith}
use Rattle.waldump_text.proofs.HexadecimalLaws.{encode_lower-is_hexadecimal}
use Rattle.waldump_text.proofs.digits.push_few_digits.Goals as goal

pub returns : goal.returns
returns c =
    let written = rw c.unwrap.ensures at c.encode_to_slice.ensures.written in
    rw (← (written ∙ encode_lower-is_hexadecimal c.args.bytes.now (λ i. omega (arith, c.type_inv.bytes i)))) c.push.ensures.text
