use Rattle.std.proofs.Common.{ℕ, ◌/◌, ◌^◌, ◌<◌, subst}
use Rattle.wal_rule.proofs.Addresses.{has_low_number}
use Rattle.wal_rule.proofs.writer.has_address.Goals as goal

pub returns : goal.returns
returns c = subst (λ (n : ℕ). c.args.segment < 2 ^ 64 / n) c.segment_size.ensures.value
    (has_low_number c.segment_size.result c.args.address c.args.segment
    c.segment_size.ensures.valid c.ranges.address.fits c.if-prove.false)
