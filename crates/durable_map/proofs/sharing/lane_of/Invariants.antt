use Rattle.std.proofs.Common.{◌≡◌, drop}
use Rattle.durable_map.specs.Dealing.{key_sum}
use Rattle.durable_map.proofs.sharing.lane_of.Given as goal

-- what is left of the key adds up to the whole sum
abbrev pub invariant-loop-byte : goal.invariant-loop-byte
invariant-loop-byte l = key_sum (drop l.byte-index l.key) l.sum ≡ key_sum l.key 2166136261
