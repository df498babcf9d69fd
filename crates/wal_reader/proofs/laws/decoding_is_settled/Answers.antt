use Rattle.wal_reader.proofs.SettledLaws.{decoding_is_settled, steps_tell_decoding}
use Rattle.wal_reader.proofs.laws.decoding_is_settled.Goals as goal

pub returns : goal.returns
returns c = record { settled = decoding_is_settled; told = steps_tell_decoding }
