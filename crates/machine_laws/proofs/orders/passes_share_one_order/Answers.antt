use Rattle.machine_laws.proofs.OrderKept.{split_keeps, join_keeps, give_up_keeps}
use Rattle.machine_laws.proofs.orders.passes_share_one_order.Goals as goal

pub returns-clause-split : goal.returns-clause-split
returns-clause-split c = split_keeps

pub returns-clause-join : goal.returns-clause-join
returns-clause-join c = join_keeps

pub returns-clause-give_up : goal.returns-clause-give_up
returns-clause-give_up c = give_up_keeps
