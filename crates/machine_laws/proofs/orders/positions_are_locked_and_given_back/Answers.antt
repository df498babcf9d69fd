use Rattle.machine_laws.proofs.OrderKept.{lock_position_keeps, load_prev_keeps, store_prev_keeps, give_position_back_keeps, stay_keeps}
use Rattle.machine_laws.proofs.orders.positions_are_locked_and_given_back.Goals as goal

pub returns-clause-lock_position : goal.returns-clause-lock_position
returns-clause-lock_position c = lock_position_keeps

pub returns-clause-load_prev : goal.returns-clause-load_prev
returns-clause-load_prev c = load_prev_keeps

pub returns-clause-store_prev : goal.returns-clause-store_prev
returns-clause-store_prev c = store_prev_keeps

pub returns-clause-give_position_back : goal.returns-clause-give_position_back
returns-clause-give_position_back c = give_position_back_keeps

pub returns-clause-stay : goal.returns-clause-stay
returns-clause-stay c = stay_keeps
