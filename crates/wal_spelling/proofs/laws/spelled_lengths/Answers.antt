use Rattle.wal_spelling.proofs.SpellingLaws.{length-spelled, length-filled, room_is}
use Rattle.wal_spelling.proofs.laws.spelled_lengths.Goals as goal

pub returns : goal.returns
returns c = record { spelled = length-spelled; filled = length-filled; room = room_is }
