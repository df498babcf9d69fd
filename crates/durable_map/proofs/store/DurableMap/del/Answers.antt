use Rattle.durable_map.proofs.Shared.{still_open}
use Rattle.durable_map.proofs.store.DurableMap.del.Goals as goal

pub returns-clause-kept : goal.returns-clause-kept
returns-clause-kept g c =
    still_open c.calls_keep_numbers.ensures c.args.self.now.log c.args.self.now.part
    c.del.new.self c.del.ensures.pass c.del.ensures.keeps c.requires.kept
