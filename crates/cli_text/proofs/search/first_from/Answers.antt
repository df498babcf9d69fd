use Rattle.std.proofs.Common.{◌==◌, sym, rules, arith}
use Rattle.std.proofs.lemmas.List.Sums.{position_or_len_is}
use Rattle.cli_text.proofs.search.first_from.Goals as goal

pub returns-else-text-end : goal.returns-else-text-end
returns-else-text-end c =
    sym (position_or_len_is (λ x. x == c.args.separator) c.args.text.now c.loop-end.end 0 c.loop-end.invariant.0 c.loop-end.invariant.1 (λ _. search rules))

pub returns-after-loop-end : goal.returns-after-loop-end
returns-after-loop-end c =
    sym (position_or_len_is (λ x. x == c.args.separator) c.args.text.now c.loop-end.end 0 c.loop-end.invariant.0 c.loop-end.invariant.1 (λ lt. absurd (omega arith)))
