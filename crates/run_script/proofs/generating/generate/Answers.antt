use Rattle.std.proofs.Common.{◌≡◌, ℕ, ◌+◌, suc, List, map, sym, subst, arith}
use Rattle.std.specs.Global.{Vec}
use Rattle.std.specs.List.{range_with_len}
use Rattle.run_script.specs.declared.line.Line.{Line}
use Rattle.run_script.specs.Asked.{AskedLine}
use Rattle.run_script.specs.ReplayReading.{AreBackendsOf}
use Rattle.run_script.specs.Generated.{generated_lines}
use Rattle.run_script.proofs.GeneratedScripts.{AreBackendsOf-more}
use Rattle.run_script.proofs.generating.generate.Goals as goal

pub loop-backend-preserved : goal.loop-backend-preserved
loop-backend-preserved c =
    let asked : ℕ → List AskedLine = λ backend. generated_lines backend c.args.lines in
    let backend = c.loop-backend.backend in
    let lines = c.in_ok-backend_lines.field-0 in
    let next : suc backend ≡ backend + 1 = omega arith in
    let more = AreBackendsOf-more asked 0 backend backend c.loop-backend.backends.items lines (omega arith) c.loop-backend.invariant c.in_ok-backend_lines.ensures in
    subst (λ (n : ℕ). AreBackendsOf (map asked (range_with_len 0 n)) c.push.new.self.items) next (subst (λ (backends : List (Vec Line)). AreBackendsOf (map asked (range_with_len 0 (suc backend))) backends) (sym {A = List (Vec Line)} c.in_ok-push.ensures.items) more)
