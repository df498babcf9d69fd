use Rattle.machine_laws.proofs.PositionKept.{store_written_keeps, store_moment_keeps, store_flushed_keeps, set_down_keeps, flushed_is_reserved, written_rises, flushed_rises}
use Rattle.machine_laws.proofs.positions.positions_only_rise.Goals as goal

pub returns-clause-store_written : goal.returns-clause-store_written
returns-clause-store_written c = store_written_keeps

pub returns-clause-store_moment : goal.returns-clause-store_moment
returns-clause-store_moment c = store_moment_keeps

pub returns-clause-store_flushed : goal.returns-clause-store_flushed
returns-clause-store_flushed c = store_flushed_keeps

pub returns-clause-set_down : goal.returns-clause-set_down
returns-clause-set_down c = set_down_keeps

pub returns-clause-reserved : goal.returns-clause-reserved
returns-clause-reserved c = flushed_is_reserved

pub returns-clause-written_rises : goal.returns-clause-written_rises
returns-clause-written_rises c = written_rises

pub returns-clause-flushed_rises : goal.returns-clause-flushed_rises
returns-clause-flushed_rises c = flushed_rises
