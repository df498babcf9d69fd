use Rattle.machine_laws.proofs.GrowthLaws.{logs_lose_only, logs_stay_whole}
use Rattle.machine_laws.proofs.growing.logs_are_only_added_to.Goals as goal

pub returns : goal.returns
returns c = record {
  loses = λ first. logs_lose_only;
  whole = λ first. logs_stay_whole;
}
