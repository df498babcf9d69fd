use Rattle.wal_log_laws.proofs.Promised.{commit_tells, hard_promises, reserved, still_entry, still_promise, told_promises, was_promised}
use Rattle.wal_log_laws.proofs.laws.what_was_told_was_promised.Goals as goal

pub returns-clause-entry : goal.returns-clause-entry
returns-clause-entry c = reserved

pub returns-clause-flush : goal.returns-clause-flush
returns-clause-flush c = told_promises

pub returns-clause-hard : goal.returns-clause-hard
returns-clause-hard c = hard_promises

pub returns-clause-commit : goal.returns-clause-commit
returns-clause-commit c = commit_tells

pub returns-clause-still_entry : goal.returns-clause-still_entry
returns-clause-still_entry c = still_entry

pub returns-clause-still_promise : goal.returns-clause-still_promise
returns-clause-still_promise c = still_promise

pub returns-clause-closed : goal.returns-clause-closed
returns-clause-closed c = was_promised
