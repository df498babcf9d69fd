use Rattle.written_log_laws.proofs.AgreeingLaws.{agreeing_logs_decode_alike}
use Rattle.written_log_laws.proofs.laws.agreeing_logs_decode_alike.Goals as goal

pub returns : goal.returns
returns c = agreeing_logs_decode_alike
