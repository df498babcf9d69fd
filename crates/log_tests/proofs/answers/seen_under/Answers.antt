use Rattle.log_tests.proofs.answers.seen_under.Goals as goal

pub try_reserve-requires-clause-holds : goal.try_reserve-requires-clause-holds
try_reserve-requires-clause-holds c = (c.args.lock.0, c.requires.holds)
