use Rattle.std.proofs.Common.{◌≡◌, true, rules, tests}
use Rattle.std.proofs.lemmas.Iterator.{cases_from_any, YieldsList-from_slice}
use Rattle.std.specs.Prelude.{◌↔◌, IsTrue}
use Rattle.run_laws.specs.Told.{IsFullAnswer, SomeAnswer, SomeTold}
use Rattle.run_backends.specs.Backends.{lists_of}
use Rattle.run_backends.specs.declared.backend.AnsweredLines.{AnsweredLines}
use Rattle.backend_cli.proofs.AnySome.{some_from_any}
use Rattle.backend_cli.proofs.run.found_full.Goals as goal

pub returns : goal.returns
returns c =
    let backends = c.args.backends.now in
    let Finds : AnsweredLines → Type 0 = λ b. SomeAnswer IsFullAnswer b.told.items in
    let decides : IsTrue c.any.result ↔ SomeTold IsFullAnswer (lists_of backends) =
    some_from_any (λ bs. SomeTold IsFullAnswer (lists_of bs)) Finds (λ none. none) (λ x xs found. found) (λ x xs found. found) backends c.any.result
    (cases_from_any _ _ _ Finds (λ b. Finds b → ⊥) c.any.ensures.ran (YieldsList-from_slice backends cc) (λ x q k. search (rules, tests)) (λ x q k. search (rules, tests))) in
    record {
      full = decides.0;
      room = λ fails found. (let is : c.any.result ≡ true = decides.1 found in cc);
    }
