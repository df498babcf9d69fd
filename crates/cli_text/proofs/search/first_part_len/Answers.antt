use Rattle.std.proofs.Common.{◌==◌, ◌+◌, sym, arith, inl, inr}
use Rattle.std.proofs.lemmas.Bool.{cases_lt}
use Rattle.std.proofs.lemmas.List.Sums.{position_or_len_is}
use Rattle.cli_text.proofs.search.first_part_len.Goals as goal

pub returns-then-place-lt-BLOCK : goal.returns-then-place-lt-BLOCK
returns-then-place-lt-BLOCK c =
    let at = c.loop-passed.passed in
    let block = c.first_in_block-place.ensures in
    sym (position_or_len_is (λ x. x == c.args.separator) c.args.text.now (at + c.first_in_block-place.result) 0 (omega arith) (λ k lt.
    elim (cases_lt k at) [
      | inl early ↦ c.loop-passed.invariant.1 k early
      | inr late ↦ block.before k late lt
    ]) (λ _. block.there (omega arith)))
