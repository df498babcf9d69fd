use Rattle.std.proofs.Common.{ℕ, ◌==◌, List, length, ap, arith}
use Rattle.std.proofs.lemmas.List.Splits.{length-slice_split}
use Rattle.std.proofs.lemmas.List.Sums.{count_by-le-length}
use Rattle.run_script.proofs.schedule_parser.parse_schedule.Goals as goal

pub overflow_add-number : goal.overflow_add-number
overflow_add-number c =
    let IsEnd = λ (b : ℕ). b == 10 in
    let left = ap (λ (texts : List (List ℕ)). length texts) c.in-Some.ensures.steps in
    omega (arith, left, length-slice_split IsEnd c.args.bytes.now, count_by-le-length IsEnd c.args.bytes.now)
