use Rattle.std.proofs.Common.{w8, ◌==◌, sym, ◌∙◌, arith}
use Rattle.std.proofs.lemmas.Simd.{bitmask_splat, none_from_empty_mask, run_in_chunk_fails, run_in_chunk_le, run_in_chunk_stops, length-chunk}
use lib.Dec.{eqb}
use lib.Lanes.{chunk}
use Rattle.cli_text.proofs.Blocks.{lowest_mark}
use Rattle.cli_text.proofs.search.first_in_block.Goals as goal

pub returns-then-marks-eq0-clause-before : goal.returns-then-marks-eq0-clause-before
returns-then-marks-eq0-clause-before c =
    let text = c.args.text.now in
    let are = bitmask_splat w8 eqb (chunk c.args.at 16 text) 16 c.args.separator (length-chunk c.args.at 16 text c.requires) (omega arith) in
    none_from_empty_mask (λ x. x == c.args.separator) text c.args.at 16 0 c.requires (sym are ∙ c.if-marks-eq0.true)

pub returns-else-marks-eq0-clause-within : goal.returns-else-marks-eq0-clause-within
returns-else-marks-eq0-clause-within c =
    let text = c.args.text.now in
    let are = bitmask_splat w8 eqb (chunk c.args.at 16 text) 16 c.args.separator (length-chunk c.args.at 16 text c.requires) (omega arith) in
    run_in_chunk_le (λ x. x == c.args.separator) text c.args.at 16 _ 0 c.requires (lowest_mark c.args.separator c.args.at _ text c.requires are c.if-marks-eq0.false)

pub returns-else-marks-eq0-clause-before : goal.returns-else-marks-eq0-clause-before
returns-else-marks-eq0-clause-before c =
    let text = c.args.text.now in
    let are = bitmask_splat w8 eqb (chunk c.args.at 16 text) 16 c.args.separator (length-chunk c.args.at 16 text c.requires) (omega arith) in
    run_in_chunk_fails (λ x. x == c.args.separator) text c.args.at 16 _ 0 c.requires (lowest_mark c.args.separator c.args.at _ text c.requires are c.if-marks-eq0.false)

pub returns-else-marks-eq0-clause-there : goal.returns-else-marks-eq0-clause-there
returns-else-marks-eq0-clause-there c =
    let text = c.args.text.now in
    let are = bitmask_splat w8 eqb (chunk c.args.at 16 text) 16 c.args.separator (length-chunk c.args.at 16 text c.requires) (omega arith) in
    run_in_chunk_stops (λ x. x == c.args.separator) text c.args.at 16 _ 0 c.requires (lowest_mark c.args.separator c.args.at _ text c.requires are c.if-marks-eq0.false)
