use Rattle.std.proofs.Common.{arith}
use Rattle.wal_spelling.proofs.Words.{two_bytes}
use Rattle.wal_spelling.proofs.body.info_and_manager.Goals as goal

pub returns-clause-bytes : goal.returns-clause-bytes
returns-clause-bytes c = two_bytes c.args.info c.args.rmid _ (omega arith) (omega arith) (omega (arith, c.from.ensures, c.from-2.ensures))
