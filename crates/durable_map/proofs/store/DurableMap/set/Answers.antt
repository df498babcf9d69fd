use Rattle.durable_map.proofs.Shared.{still_open}
use Rattle.durable_map.proofs.store.DurableMap.set.Goals as goal

pub returns-clause-kept : goal.returns-clause-kept
returns-clause-kept g c =
    still_open c.calls_keep_numbers.ensures c.args.self.now.log c.args.self.now.part
    c.set.new.self c.set.ensures.pass c.set.ensures.keeps c.requires.kept
