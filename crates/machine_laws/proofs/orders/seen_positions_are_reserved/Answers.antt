use Rattle.machine_laws.proofs.OrderKept.{load_position_keeps, load_flushed_keeps}
use Rattle.machine_laws.proofs.orders.seen_positions_are_reserved.Goals as goal

pub returns-clause-load_position : goal.returns-clause-load_position
returns-clause-load_position c = load_position_keeps

pub returns-clause-load_flushed : goal.returns-clause-load_flushed
returns-clause-load_flushed c = load_flushed_keeps
