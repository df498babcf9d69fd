use Rattle.std.proofs.Common.{◌==◌, ◌+◌, arith}
use Rattle.std.proofs.lemmas.List.{take_rest}
use Rattle.std.proofs.lemmas.List.Sums.{fails_before_first, passes_at_first}
use Rattle.cli_text.proofs.Cuts.{slice_split-at_first, slice_split-lacking}
use Rattle.cli_text.proofs.parts.cut.Goals as goal

pub returns-then-end-text-clause-parts : goal.returns-then-end-text-clause-parts
returns-then-end-text-clause-parts c =
    let text = c.args.text.now in
    let end = c.first_part_len-end in
    rw (take_rest text (end.result + 1))
    (slice_split-at_first c.args.separator text end.result (omega arith)
    (λ k lt. fails_before_first (λ x. x == c.args.separator) text k 0 (omega (arith, end.ensures)))
    (rw end.ensures (passes_at_first (λ x. x == c.args.separator) text 0 (omega (arith, end.ensures)))))

pub returns-else-end-text-clause-parts : goal.returns-else-end-text-clause-parts
returns-else-end-text-clause-parts c =
    slice_split-lacking c.args.separator c.args.text.now
    (λ k lt. fails_before_first (λ x. x == c.args.separator) c.args.text.now k 0 (omega (arith, c.first_part_len-end.ensures)))
