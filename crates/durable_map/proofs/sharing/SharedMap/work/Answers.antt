use Rattle.durable_map.proofs.LaneLaws.{worked_in_place, worked_share}
use Rattle.durable_map.proofs.sharing.SharedMap.work.Goals as goal

pub returns-clause-kept : goal.returns-clause-kept
returns-clause-kept g c =
    worked_share c.calls_keep_numbers.ensures c.passes_share_numbers.ensures.kept
    c.args.self.now.log c.args.self.now.lanes.items _
    (worked_in_place c.args.self.now.log _ c.args.self.now.lanes.items _ _ _
    c.deref_mut.ensures.value c.args.self.now.lanes.ok.0 c.run_lanes.ensures.same
    c.run_lanes.ensures.each) c.requires

pub returns-clause-work : goal.returns-clause-work
returns-clause-work g c =
    worked_in_place c.args.self.now.log _ c.args.self.now.lanes.items _ _ _
    c.deref_mut.ensures.value c.args.self.now.lanes.ok.0 c.run_lanes.ensures.same
    c.run_lanes.ensures.each
