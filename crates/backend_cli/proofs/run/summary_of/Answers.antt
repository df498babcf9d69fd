-- A log ends behind the position at which it ended before, by as many bytes as its records take up.
use Rattle.std.proofs.Common.{◌≡◌, ℕ, ◌+◌, ◌-◌, ◌/◌, ap, ◌∙◌, arith, rules}
use Rattle.byte_position.specs.Geometry.{IsSegmentSize}
use Rattle.byte_position.specs.Position.{position_of}
use Rattle.byte_position.proofs.EndAddresses.{le-end_address_of, position_of-end_address_of}
use Rattle.backend_cli.proofs.RunTexts.{starts_behind_zero}
use Rattle.backend_cli.specs.Printing.{EndsBehind}
use Rattle.backend_cli.proofs.run.summary_of.Goals as goal

-- the difference of the positions of both ends
ends_are : (size : ℕ) → IsSegmentSize size → (place used from end first last : ℕ)
    → EndsBehind size place used from end → first ≡ position_of size from
    → last ≡ position_of size end → last ≡ first + used
ends_are size valid place used from end first last ends first_is last_is =
    omega (
      arith,
      first_is ∙ ap (position_of size) ends.from_is ∙ position_of-end_address_of size valid place,
      last_is ∙ ap (position_of size) ends.end_is
          ∙ position_of-end_address_of size valid (place + used),
    )

pub overflow_sub-result : goal.overflow_sub-result
overflow_sub-result c =
    let ends = c.requires.ends in
    omega (
      arith,
      ends_are c.args.geometry (search rules) ends.0 ends.1 _ _ _ _ ends.2
          c.position_of-2.ensures c.position_of.ensures,
    )

pub overflow_sub-result-2 : goal.overflow_sub-result-2
overflow_sub-result-2 c =
    let size = c.args.geometry in
    let valid : IsSegmentSize size = search rules in
    let ends = c.requires.ends in
    omega (
      arith,
      (ends.2).end_is,
      (ends.2).within,
      starts_behind_zero size valid,
      le-end_address_of size valid (ends.0 + ends.1),
    )

pub returns : goal.returns
returns c = λ place used ends.
    let last = ends_are c.args.geometry (search rules) place used _ _ _ _ ends
    c.position_of-2.ensures c.position_of.ensures in
    record {
      records = c.all_records_in.ensures;
      commits = c.all_commits_in.ensures;
      bytes = omega (arith, last);
      end = ends.end_is;
      segments = ap (λ (n : ℕ). (c.args.end.0 - 1) / n) c.segment_size.ensures.value;
    }
