use Rattle.std.proofs.Common.{◌+◌, rules, add-one, refl, sym}
use Rattle.std.proofs.lemmas.List.{take_rest}
use Rattle.cli_line.proofs.Cuts.{cut_at_slash-first, cut_at_slash-none}
use Rattle.cli_line.proofs.meanings.cut_at_slash.Goals as goal

pub returns-in-Some : goal.returns-in-Some
returns-in-Some c =
    let text = c.args.text.now in
    rw (take_rest text (c.in-Some.end + 1), add-one, cut_at_slash-first text c.in-Some.end (search rules) (search rules) (search rules)) refl

pub returns-in-None : goal.returns-in-None
returns-in-None c = sym (cut_at_slash-none c.args.text.now (search rules))
