use Rattle.wal_log_laws.proofs.Grown.{begin_grows, behind_grows, behind_try_grows, commit_grows, flush_try_grows, hard_grows, has_after_join, insert_grows, switch_grows, try_switch_grows}
use Rattle.wal_log_laws.proofs.laws.logs_only_grow.Goals as goal

pub returns-clause-join : goal.returns-clause-join
returns-clause-join g c = has_after_join

pub returns-clause-commits : goal.returns-clause-commits
returns-clause-commits g c = commit_grows

pub returns-clause-begins : goal.returns-clause-begins
returns-clause-begins g c = begin_grows

pub returns-clause-tries : goal.returns-clause-tries
returns-clause-tries g c = flush_try_grows

pub returns-clause-hard : goal.returns-clause-hard
returns-clause-hard g c = hard_grows

pub returns-clause-inserts : goal.returns-clause-inserts
returns-clause-inserts g c = insert_grows

pub returns-clause-switches : goal.returns-clause-switches
returns-clause-switches g c = switch_grows

pub returns-clause-switch_tries : goal.returns-clause-switch_tries
returns-clause-switch_tries g c = try_switch_grows

pub returns-clause-behind : goal.returns-clause-behind
returns-clause-behind g c = behind_grows

pub returns-clause-behind_tries : goal.returns-clause-behind_tries
returns-clause-behind_tries g c = behind_try_grows
