-- Which segments the calls of a device make: each one the next. So a disk that had the segments
-- from 1 to some number and no other has them so behind each call, and whatever a crash leaves of
-- it too, since a segment that is made is there for good.
use Rattle.std.specs.Prelude.{◌≡◌, ℕ, ◌+◌, List, [], ◌∷◌, if◌then◌else◌}
use Rattle.segment_disk.specs.declared.disk.Call.{Call}
use Rattle.segment_disk.specs.declared.disk.CallKind.{CallKind}
use Rattle.segment_disk.specs.declared.disk.CallKind.TheVariants.{Create, Write, Sync}

-- a create is of the segment behind the last one
abbrev pub MakesNext : (last segment : ℕ) → CallKind → Type 0
MakesNext last segment (Create made) = segment ≡ last + 1
MakesNext last segment (Write page bytes) = Unit {0}
MakesNext last segment Sync = Unit {0}

-- the last segment behind a call: a create may fail and have made it nevertheless
abbrev pub last_behind : ℕ → CallKind → ℕ
last_behind last (Create made) = if made then last + 1 else last
last_behind last (Write page bytes) = last
last_behind last Sync = last

-- the calls make one segment behind another, up to this one
abbrev pub MakeInTurn : (last : ℕ) → List Call → (upto : ℕ) → Type 0
MakeInTurn last [] upto = last ≡ upto
MakeInTurn last (call ∷ calls) upto =
    MakesNext last call.segment call.kind × MakeInTurn (last_behind last call.kind) calls upto
