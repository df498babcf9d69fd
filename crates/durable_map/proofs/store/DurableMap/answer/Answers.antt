use Rattle.durable_map.proofs.Shared.{still_open}
use Rattle.durable_map.proofs.store.DurableMap.answer.Goals as goal

pub returns-clause-kept : goal.returns-clause-kept
returns-clause-kept g c =
    still_open c.calls_keep_numbers.ensures c.args.self.now.log c.args.self.now.part
    c.answer.new.self c.answer.ensures.pass c.answer.ensures.keeps c.requires.kept
