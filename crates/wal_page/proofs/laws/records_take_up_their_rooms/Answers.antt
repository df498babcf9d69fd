use Rattle.wal_page.proofs.StreamLaws.{length-stream_of}
use Rattle.wal_page.proofs.laws.records_take_up_their_rooms.Goals as goal

pub returns : goal.returns
returns c = length-stream_of
