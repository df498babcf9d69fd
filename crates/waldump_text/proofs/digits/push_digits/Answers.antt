use Rattle.std.proofs.Common.{◌≤◌, ◌++◌, ◌∙◌, length, ap, arith}
use Rattle.waldump_text.specs.Names.{hexadecimal}
use Rattle.waldump_text.proofs.HexadecimalLaws.{digits_again, enough_made}
use Rattle.waldump_text.proofs.digits.push_digits.Goals as goal

pub drop_back-requires : goal.drop_back-requires
drop_back-requires c =
    enough_made c.args.buffer.now c.loop-sixteen.buffer c.loop-sixteen.rest.now c.args.bytes.now c.loop-sixteen.invariant.0 c.in-Some-last_chunk.ensures.cases.0

pub returns-in-Some-last_chunk : goal.returns-in-Some-last_chunk
returns-in-Some-last_chunk c =
    let few : length c.loop-sixteen.rest.now ≤ 16 = omega (arith, c.in_default.ensures.cases) in
    let again = digits_again c.args.buffer.now c.loop-sixteen.buffer c.loop-sixteen.rest.now c.args.bytes.now c.in-Some-last_chunk.last.now c.loop-sixteen.invariant.0 c.in-Some-last_chunk.ensures.cases.0 few c.in-Some-last_chunk.ensures.cases.1.same in
    c.push_sixteen-in-Some-last_chunk.ensures ∙ ap (λ l. l ++ hexadecimal c.in-Some-last_chunk.last.now) c.drop_back.ensures.text ∙ again
