use Rattle.std.proofs.Common.{sym, arith}
use Rattle.std.proofs.lemmas.List.{length-take-le}
use Rattle.run_script.proofs.parser.within_limit.Goals as goal

pub slice_bounds-line_feeds-end : goal.slice_bounds-line_feeds-end
slice_bounds-line_feeds-end c = sym (length-take-le 67108864 c.args.script.now (omega arith))

pub line_feeds-requires : goal.line_feeds-requires
line_feeds-requires c =
    omega (arith, length-take-le 67108864 c.args.script.now (omega arith))

pub overflow_add-result : goal.overflow_add-result
overflow_add-result c =
    omega (arith, length-take-le 67108864 c.args.script.now (omega arith))
