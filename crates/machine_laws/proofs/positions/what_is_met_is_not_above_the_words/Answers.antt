use Rattle.machine_laws.proofs.PositionKept.{take_write_turn_keeps, release_write_turn_keeps, load_word_keeps, load_written_keeps, load_flushed_keeps, load_moment_keeps, load_down_keeps}
use Rattle.machine_laws.proofs.positions.what_is_met_is_not_above_the_words.Goals as goal

pub returns-clause-take_write_turn : goal.returns-clause-take_write_turn
returns-clause-take_write_turn c = take_write_turn_keeps

pub returns-clause-release_write_turn : goal.returns-clause-release_write_turn
returns-clause-release_write_turn c = release_write_turn_keeps

pub returns-clause-load_ring_word : goal.returns-clause-load_ring_word
returns-clause-load_ring_word c = load_word_keeps

pub returns-clause-load_written : goal.returns-clause-load_written
returns-clause-load_written c = load_written_keeps

pub returns-clause-load_flushed : goal.returns-clause-load_flushed
returns-clause-load_flushed c = load_flushed_keeps

pub returns-clause-load_moment : goal.returns-clause-load_moment
returns-clause-load_moment c = load_moment_keeps

pub returns-clause-load_down : goal.returns-clause-load_down
returns-clause-load_down c = load_down_keeps
