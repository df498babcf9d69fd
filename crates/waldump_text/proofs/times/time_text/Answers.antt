use Rattle.std.proofs.Common.{int_le, to_z-of_z, ap, sym, ◌∙◌, arith}
use Rattle.jiff_core.proofs.SignedLemmas.{signed_casts}
use Rattle.waldump_text.specs.TimeText.{first_time, last_time}
use Rattle.waldump_text.proofs.TimeLaws.{date_since-is_time}
use Rattle.waldump_text.proofs.times.time_text.Goals as goal

pub returns-then-time-le-LAST : goal.returns-then-time-le-LAST
returns-then-time-le-LAST c =
    let same = sym (to_z-of_z c.ranges.time) in
    let low = ap (int_le first_time) same ∙ c.if-time-ge-FIRST.true in
    let high = ap (λ time. int_le time last_time) same ∙ c.if-time-le-LAST.true in
    c.date_text.ensures ∙ date_since-is_time c.args.time _ (omega (arith, signed_casts, low, c.ranges.time)) low high
