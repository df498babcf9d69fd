use Rattle.std.proofs.Common.{◌≡◌, length}
use Rattle.durable_map.proofs.sharing.deal.Given as goal

-- there are so many lanes
abbrev pub invariant-loop-lane : goal.invariant-loop-lane
invariant-loop-lane l = length l.dealt.items ≡ l._lane

abbrev pub invariant-loop-key : goal.invariant-loop-key
invariant-loop-key l = length l.dealt.items ≡ l.fn.count
