-- What was found is an order's first entries.
use Rattle.standby_laws.proofs.LaterOrders.{frames_stay_of_log, later_orders_begin}
use Rattle.standby_laws.proofs.laws.later_orders_begin.Goals as goal

pub returns-clause-begin : goal.returns-clause-begin
returns-clause-begin c = later_orders_begin

pub returns-clause-frames : goal.returns-clause-frames
returns-clause-frames c = frames_stay_of_log
