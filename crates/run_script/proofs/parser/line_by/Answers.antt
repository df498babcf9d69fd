use Rattle.std.proofs.Common.{◌≡◌, ◌∷◌, arith}
use Rattle.std.proofs.lemmas.Grind.{common_steps}
use Rattle.run_script.specs.Asked.{Insert}
use Rattle.run_script.specs.Meaning.{asks_as, insert_of, line_with}
use Rattle.run_script.proofs.Words.{LineGives-insert, is_text-long}
use Rattle.run_script.proofs.parser.line_by.Goals as goal

pub returns-in-I : goal.returns-in-I
returns-in-I c =
    let means : line_with (c.args.word.now ∷ c.args.fields) ≡ asks_as Insert (insert_of c.args.fields) = grind (arith, common_steps) in
    rw means (LineGives-insert c.args.number _ _ c.insert.result (insert_of c.args.fields) c.insert.ensures)

pub other_line-requires : goal.other_line-requires
other_line-requires c = grind (arith, common_steps, is_text-long)
