use Rattle.wal_spelling.proofs.SpellingLaws.{header_spelled}
use Rattle.wal_spelling.proofs.laws.spelled_header.Goals as goal

pub returns : goal.returns
returns c = header_spelled
