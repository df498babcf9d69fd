use Rattle.std.specs.Prelude.{map}
use Rattle.std.specs.List.{range_with_len}
use Rattle.run_script.specs.Generated.{generated_lines}
use Rattle.run_script.specs.ReplayReading.{AreBackendsOf}
use Rattle.run_script.proofs.generating.generate.Given as goal

abbrev pub invariant-loop-backend : goal.invariant-loop-backend
invariant-loop-backend l = AreBackendsOf (map (λ backend. generated_lines backend l.lines) (range_with_len 0 l.backend)) l.backends.items
