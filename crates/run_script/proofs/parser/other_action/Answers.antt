use Rattle.std.proofs.Common.{◌≡◌, ◌∷◌, arith}
use Rattle.std.proofs.lemmas.Grind.{common_steps}
use Rattle.run_script.specs.Asked.{Commit, CommitAsync}
use Rattle.run_script.specs.Meaning.{asks, line_with}
use Rattle.run_script.proofs.Words.{line_with_long_word}
use Rattle.run_script.proofs.parser.other_action.Goals as goal

pub returns-in_ok-commit-in-C : goal.returns-in_ok-commit-in-C
returns-in_ok-commit-in-C c =
    let read = c.in_ok-commit-in-C.ensures in
    let means : line_with (c.args.word.now ∷ c.args.fields) ≡ asks (Commit read.0) = grind (arith, common_steps) in
    (Commit read.0, means, read.2)

pub returns-in_ok-commit-in-A : goal.returns-in_ok-commit-in-A
returns-in_ok-commit-in-A c =
    let read = c.in_ok-commit-in-A.ensures in
    let means : line_with (c.args.word.now ∷ c.args.fields) ≡ asks (CommitAsync read.0) = grind (arith, common_steps) in
    (CommitAsync read.0, means, read.2)

pub returns-in_default : goal.returns-in_default
returns-in_default c = grind (arith, common_steps, line_with_long_word, c.requires)
