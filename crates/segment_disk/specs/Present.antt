-- Which segments are there after a list of calls.
use Rattle.std.specs.Prelude.{◌≡◌, ℕ, zero, suc, ◌+◌, ◌≤◌, List, [], ◌∷◌, ◌++◌, None, is_some, if◌then◌else◌}
use Rattle.segment_disk.specs.declared.disk.Call.{Call}
use Rattle.segment_disk.specs.declared.disk.CallKind.{CallKind}
use Rattle.segment_disk.specs.declared.disk.CallKind.TheVariants.{Create, Write, Sync}
use Rattle.segment_disk.specs.Failing.{is_listed}
use Rattle.segment_disk.specs.Tape.{DiskState, after_calls}

-- the list has the numbers of those that are there
abbrev pub ListsPresent : List ℕ → DiskState → List Call → Type 0
ListsPresent numbers at_first calls =
    (segment : ℕ) → is_listed numbers segment ≡ is_some (after_calls at_first calls segment)

-- how many of the segments below a number are there
abbrev pub present_below : DiskState → ℕ → ℕ
present_below state zero = 0
present_below state (suc segment) =
    present_below state segment + (if is_some (state segment) then 1 else 0)

-- so many segments are there: below some number, and from there on none
abbrev pub HasSegments : DiskState → ℕ → Type 0
HasSegments state count =
    (bound : ℕ) × ((segment : ℕ) → bound ≤ segment → state segment ≡ None)
    × (count ≡ present_below state bound)

-- the call neither makes a segment nor takes one away
abbrev pub MakesNone : CallKind → Type 0
MakesNone (Create made) = ⊥
MakesNone (Write page bytes) = Unit {0}
MakesNone Sync = Unit {0}

-- a list of numbers with this one
abbrev pub with_number : List ℕ → ℕ → List ℕ
with_number numbers number = if is_listed numbers number then numbers else numbers ++ number ∷ []
