use Rattle.wal_reader.proofs.NextPositionLaws.{next_position-end, next_position-last}
use Rattle.wal_reader.proofs.laws.switches_end_their_segment.Goals as goal

pub returns-clause-end : goal.returns-clause-end
returns-clause-end c = λ size position total value valid switches. next_position-end size valid position total value switches

pub returns-clause-whole : goal.returns-clause-whole
returns-clause-whole c = λ size position total value valid switches some ends. next_position-last size valid position total value switches some ends
