use Rattle.std.proofs.Common.{refl}
use Rattle.wal_log_laws.proofs.SharedOrders.{has_logs, logs_of_both}
use Rattle.wal_log_laws.proofs.laws.passes_hand_on_their_logs.Goals as goal

pub returns-clause-has : goal.returns-clause-has
returns-clause-has c = has_logs

pub returns-clause-join : goal.returns-clause-join
returns-clause-join c = logs_of_both

pub returns-clause-split : goal.returns-clause-split
returns-clause-split c = λ v. record { none = refl; alone = refl }
