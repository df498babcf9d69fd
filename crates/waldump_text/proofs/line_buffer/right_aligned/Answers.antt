use Rattle.std.proofs.Common.{◌≤◌, ◌++◌, ◌∙◌, length, replicate, ap, arith}
use Rattle.std.specs.Fmt.{decimal}
use Rattle.std.proofs.lemmas.Fmt.{length-decimal-le}
use Rattle.waldump_text.proofs.AlignedLaws.{at_end_of_blanks}
use Rattle.waldump_text.proofs.line_buffer.right_aligned.Goals as goal

pub write_digits-start-requires : goal.write_digits-start-requires
write_digits-start-requires c =
    let short : length (decimal c.from.result) ≤ 10 = length-decimal-le 10 c.from.result (omega arith) (omega arith) (omega arith) in
    (omega arith, omega arith)

pub returns-clause-text : goal.returns-clause-text
returns-clause-text c =
    at_end_of_blanks c.write_digits-start.new.buf (decimal c.from.result) c.write_digits-start.result (omega arith) c.write_digits-start.ensures.before c.write_digits-start.ensures.written
    ∙ ap (λ n. replicate c.write_digits-start.result 32 ++ decimal n) c.from.ensures

pub returns-clause-short : goal.returns-clause-short
returns-clause-short c = length-decimal-le 10 c.args.n (omega arith) (omega arith) (omega arith)
