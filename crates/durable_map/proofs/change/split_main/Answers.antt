use Rattle.std.proofs.Common.{◌≤◌, length, drop, arith, rules}
use Rattle.durable_map.proofs.Mains.{is_set_main}
use Rattle.durable_map.proofs.change.split_main.Goals as goal

pub returns : goal.returns
returns c =
    let main = c.args.main.now in
    let count = c.from_le_bytes-count.result in
    let cases = c.in-Some.ensures.cases in
    let parts = c.split_at.ensures in
    let within : count ≤ length (drop 4 main) = rw cases.1 at c.if-count-rest.false in
    let is = is_set_main main count (λ i. let f = c.type_inv.main i in search (rules, f)) (omega (arith, cases.2)) (rw cases.0 at c.from_le_bytes-count.ensures) within in
    record { is_of = rw (parts.front, parts.back, cases.1) is; key_short = omega (arith, parts.front_len, c.if-count-gt-LONGEST.false); value_short = omega (arith, parts.back_len, c.if-rest-count-gt-LONGEST.false) }
