use Rattle.log_lives_laws.proofs.Receipts.{receipts_tell_durable}
use Rattle.log_lives_laws.proofs.laws.receipts_tell_durable.Goals as goal

pub returns : goal.returns
returns c = receipts_tell_durable
