use Rattle.std.proofs.Common.{◌≡◌, ◌++◌, drop}
use Rattle.waldump_text.specs.Names.{hexadecimal}
use Rattle.cluster_listing.proofs.pieces.push_hexadecimal.Given as goal

abbrev pub invariant-loop-byte : goal.invariant-loop-byte
invariant-loop-byte l = l.line.items ++ hexadecimal (drop l.byte-index l.bytes) ≡ l.initial.line.items ++ hexadecimal l.bytes
