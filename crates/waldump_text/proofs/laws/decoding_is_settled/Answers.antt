use Rattle.wal_reader.proofs.SoFarLaws.{log_is_settled}
use Rattle.waldump_text.proofs.laws.decoding_is_settled.Goals as goal

pub returns : goal.returns
returns c = log_is_settled
