-- Who knows that the disk has failed. The down word is set by the pass that has the writer in hand,
-- which knows it from then on, and so does whoever takes that pass in. So where the word is not 0 a
-- live pass knows it. What was given up behind a fault, with its locks, then holds up nobody who is
-- alone and knows of no fault.
use Rattle.std.specs.Prelude.{◌≡◌, ◌≢◌, ◌⊎◌, ℕ, true, List}
use Rattle.machine_state.specs.Views.{HasAt, View}

-- a pass met a down value last, or set one
abbrev pub KnowsOfFault : View → Type 0
KnowsOfFault v = ((v.writing).down_met ≢ 0) ⊎ ((v.writing).down_set ≢ 0)

-- a live view does
abbrev pub SomeKnowsOfFault : List View → Type 0
SomeKnowsOfFault views = (id : ℕ) × (v : View) × HasAt views id v × ((v.reserving).live ≡ true)
    × KnowsOfFault v

-- `down` is the down word
abbrev pub FaultIsKnown : (down : ℕ) → List View → Type 0
FaultIsKnown down views = down ≢ 0 → SomeKnowsOfFault views
