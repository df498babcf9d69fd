use Rattle.std.proofs.Common.{rules, tests}
use Rattle.std.proofs.lemmas.Iterator.{cases_from_any, YieldsList-from_slice}
use Rattle.run_laws.specs.Told.{IsFullAnswer, SomeAnswer}
use Rattle.backend_cli.proofs.AnySome.{some_from_any}
use Rattle.backend_cli.proofs.run.has_found_full.Goals as goal

pub returns : goal.returns
returns c =
    let told = c.args.backend.now.told.items in
    some_from_any (SomeAnswer IsFullAnswer) IsFullAnswer (λ none. none) (λ x xs found. found) (λ x xs found. found) told c.any.result
    (cases_from_any _ _ _ IsFullAnswer (λ x. IsFullAnswer x → ⊥) c.any.ensures.ran (YieldsList-from_slice told cc) (λ x q k. search (rules, tests)) (λ x q k. search (rules, tests)))
