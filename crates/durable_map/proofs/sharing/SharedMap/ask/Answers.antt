use Rattle.std.proofs.Common.{arith, refl}
use Rattle.durable_map.proofs.LaneLaws.{lanes_kept, one_share}
use Rattle.durable_map.proofs.sharing.SharedMap.ask.Goals as goal

pub returns-in-Ok-clause-kept : goal.returns-in-Ok-clause-kept
returns-in-Ok-clause-kept g c =
    one_share c.calls_keep_numbers.ensures c.passes_share_numbers.ensures.kept
    c.args.self.now.log _ _ _ _ c.index_mut.ensures.value c.in-Ok.ensures.part c.requires

pub returns-in-Ok-clause-asked : goal.returns-in-Ok-clause-asked
returns-in-Ok-clause-asked g c = record {
  log = refl;
  within = omega (arith, c.lane_of-lane.ensures.within, c.args.self.now.lanes.ok.0);
  was = c.index_mut.result.now;
  was_there = c.index_mut.ensures.value;
  now = c.leave.new.self;
  lanes = refl;
  so = c.in-Ok.ensures;
}

pub returns-in-Err-clause-kept : goal.returns-in-Err-clause-kept
returns-in-Err-clause-kept g c =
    one_share c.calls_keep_numbers.ensures c.passes_share_numbers.ensures.kept
    c.args.self.now.log _ _ _ _ c.index_mut.ensures.value c.in-Err.ensures.part c.requires

pub returns-in-Err-clause-asked : goal.returns-in-Err-clause-asked
returns-in-Err-clause-asked g c =
    lanes_kept c.args.self.now _ _ _ _ refl refl c.index_mut.ensures.value c.in-Err.ensures
