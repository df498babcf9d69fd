use Rattle.wal_rule.specs.Passes.{view_of_pass}
use Rattle.wal_log.specs.Logs.{setup_of_log}
use Rattle.durable_map.proofs.sharing.SharedMap.close.Goals as goal

pub close-requires-clause-numbers : goal.close-requires-clause-numbers
close-requires-clause-numbers g c =
    c.passes_share_numbers.ensures.all (setup_of_log c.args.self.log).passes
    (view_of_pass c.join_lanes-pass.result)
    c.join_lanes-pass.ensures.numbers

pub returns : goal.returns
returns g c = record {
  pass = c.join_lanes-pass.result;
  all = c.join_lanes-pass.ensures.logs;
  closes = c.close.ensures;
}
