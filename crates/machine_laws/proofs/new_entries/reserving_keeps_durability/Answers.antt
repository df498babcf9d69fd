use Rattle.machine_laws.proofs.DurableReserving.{store_position_keeps}
use Rattle.machine_laws.proofs.new_entries.reserving_keeps_durability.Goals as goal

pub returns : goal.returns
returns c = record {
  store_position = λ first. store_position_keeps;
}
