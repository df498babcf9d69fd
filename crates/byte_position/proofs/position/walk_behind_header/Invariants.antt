use Rattle.std.proofs.Common.{◌≡◌, ◌-◌}
use Rattle.byte_position.specs.Position.{behind_header}
use Rattle.byte_position.proofs.position.walk_behind_header.Given as goal

-- what is behind the header is ahead still
abbrev pub invariant-loop-geometry : goal.invariant-loop-geometry
invariant-loop-geometry l = behind_header l.geometry l.address ≡ behind_header l.geometry l.from

abbrev pub decreases-loop-geometry : goal.decreases-loop-geometry
decreases-loop-geometry l = behind_header l.geometry l.from - l.address
