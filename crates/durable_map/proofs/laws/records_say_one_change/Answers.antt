use Rattle.durable_map.proofs.Spelled.{own_record, same_change}
use Rattle.durable_map.proofs.laws.records_say_one_change.Goals as goal

pub returns : goal.returns
returns c = record { own = own_record; one = same_change }
