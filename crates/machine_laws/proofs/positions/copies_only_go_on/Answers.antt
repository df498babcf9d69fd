use Rattle.machine_laws.proofs.PositionKept.{store_word_keeps, release_keeps, store_position_keeps}
use Rattle.machine_laws.proofs.positions.copies_only_go_on.Goals as goal

pub returns-clause-store_ring_word : goal.returns-clause-store_ring_word
returns-clause-store_ring_word c = store_word_keeps

pub returns-clause-release : goal.returns-clause-release
returns-clause-release c = release_keeps

pub returns-clause-store_position : goal.returns-clause-store_position
returns-clause-store_position c = store_position_keeps
