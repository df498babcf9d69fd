use Rattle.waldump_text.specs.Statistics.{sums_pieces}
use Rattle.waldump_text.proofs.JoinedLaws.{pushed-is_joined}
use Rattle.waldump_text.proofs.statistics.push_sums.Goals as goal

pub returns : goal.returns
returns c =
    rw (
      c.push-5.ensures.text,
      c.push_sum-4.ensures.text,
      c.push-4.ensures.text,
      c.push_sum-3.ensures.text,
      c.push-3.ensures.text,
      c.push_sum-2.ensures.text,
      c.push-2.ensures.text,
      c.push_sum.ensures.text,
      c.from.ensures,
      c.push.ensures.text,
    ) (pushed-is_joined c.args.buffer.now (sums_pieces c.args.sums))
