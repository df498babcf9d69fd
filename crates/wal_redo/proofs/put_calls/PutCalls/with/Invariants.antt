use Rattle.wal_redo.specs.Calls.{with_put_call}
use Rattle.wal_redo.proofs.put_calls.PutCalls.with.Given as goal

abbrev pub ghosts-with_picked : goal.ghosts-with_picked
ghosts-with_picked a = record {
  calls = with_put_call (a.self.now).calls a._block (a._page.now) a._answer;
}
