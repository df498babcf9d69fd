use Rattle.std.proofs.Common.{[]}
use Rattle.wal_redo.proofs.put_calls.PutCalls.none.Given as goal

abbrev pub ghosts-of : goal.ghosts-of
ghosts-of a = record {
  calls = [];
}
