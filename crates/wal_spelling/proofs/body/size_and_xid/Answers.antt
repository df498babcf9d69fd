use Rattle.std.proofs.Common.{◌≡◌, ◌+◌, ◌*◌, ◌%◌, ◌∙◌, arith}
use Rattle.wal_spelling.proofs.Words.{halves, halves_bytes}
use Rattle.wal_spelling.proofs.body.size_and_xid.Goals as goal

pub returns-clause-number : goal.returns-clause-number
returns-clause-number c =
    let sum : c.from.result + c.from-2.result * 4294967296 % 18446744073709551616 ≡ c.args.size + c.args.xid.0 * 4294967296 = omega (arith, c.from.ensures, c.from-2.ensures) in
    sum ∙ halves c.args.size c.args.xid.0 (omega arith) (omega arith)

pub returns-clause-bytes : goal.returns-clause-bytes
returns-clause-bytes c = halves_bytes c.args.size c.args.xid.0 _ (omega arith) (omega arith) (omega (arith, c.from.ensures, c.from-2.ensures))
