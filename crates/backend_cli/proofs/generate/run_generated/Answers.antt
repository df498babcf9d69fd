use Rattle.std.proofs.Common.{refl}
use Rattle.run_script.specs.Generated.{generated_script}
use Rattle.backend_cli.proofs.generate.run_generated.Goals as goal

pub returns-in-Ok-clause-holds : goal.returns-in-Ok-clause-holds
returns-in-Ok-clause-holds g c = λ source. record {
  unread = refl;
  plays = c.run_prepared.ensures.holds source source (generated_script c.args.options.now.lines)
      c.in-Ok.ensures;
}
