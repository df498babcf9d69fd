use Rattle.std.proofs.Common.{arith, refl}
use Rattle.durable_map.proofs.LaneLaws.{given_share, told_given}
use Rattle.durable_map.proofs.sharing.SharedMap.told.Goals as goal

pub returns-then-lane-len-clause-kept : goal.returns-then-lane-len-clause-kept
returns-then-lane-len-clause-kept g c =
    given_share c.calls_keep_numbers.ensures c.passes_share_numbers.ensures.kept
    c.args.self.now.log _ _ _ _ c.take_told.result c.index_mut.ensures.value c.take_told.ensures
    c.requires

pub returns-then-lane-len-clause-told : goal.returns-then-lane-len-clause-told
returns-then-lane-len-clause-told g c =
    told_given c.args.self.now _ c.args.lane _ _ c.take_told.result
    (omega (arith, c.args.self.now.lanes.ok.0)) refl refl c.index_mut.ensures.value
    c.take_told.ensures
