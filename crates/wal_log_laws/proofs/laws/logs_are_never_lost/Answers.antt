use Rattle.wal_log_laws.proofs.Grown.{grown_after_join, grown_after_split, grown_behind_call, own_grown}
use Rattle.wal_log_laws.proofs.laws.logs_are_never_lost.Goals as goal

pub returns-clause-own : goal.returns-clause-own
returns-clause-own c = own_grown

pub returns-clause-calls : goal.returns-clause-calls
returns-clause-calls c = grown_behind_call

pub returns-clause-split : goal.returns-clause-split
returns-clause-split c = grown_after_split

pub returns-clause-join : goal.returns-clause-join
returns-clause-join c = grown_after_join
