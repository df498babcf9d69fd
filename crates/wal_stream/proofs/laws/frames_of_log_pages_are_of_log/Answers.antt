-- What stands below the address is sent as it is.
use Rattle.wal_stream.proofs.FrameLaws.{frames_of_log_pages}
use Rattle.wal_stream.proofs.laws.frames_of_log_pages_are_of_log.Goals as goal

pub returns : goal.returns
returns c = frames_of_log_pages
