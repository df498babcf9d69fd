-- What sources and sinks do with their bytes, where they tell them.
use Rattle.std.specs.Prelude.{◌≡◌, ℕ, ◌+◌, List, ◌++◌, take, Option, Some, None, option_map, nat_lt, ◌==◌, ◌&&◌, if◌then◌else◌}

-- these bytes are taken off the front of what is left, where that is told
abbrev pub LosesFront : Option (List ℕ) → Option (List ℕ) → List ℕ → Type 0
LosesFront None None front = Unit {0}
LosesFront (Some old) (Some new) front = old ≡ front ++ new
LosesFront None (Some new) front = ⊥
LosesFront (Some old) None front = ⊥

-- a read of n bytes into a piece takes them off the front of what is left
abbrev pub Takes : Option (List ℕ) → Option (List ℕ) → ℕ → List ℕ → Type 0
Takes old new n piece = LosesFront old new (take n piece)

-- from one moment of a source to a later one: what was left is what it handed out in between, and
-- then what is left now
abbrev pub HandsOut : Option (List ℕ) → Option (List ℕ) → List ℕ → List ℕ → Type 0
HandsOut old_left new_left old_handed new_handed =
    (between : List ℕ) × (new_handed ≡ old_handed ++ between)
    × LosesFront old_left new_left between

-- how often a source has answered that nothing is left, once a read into a piece of this room gave
-- so many bytes: none into a piece that is not empty is one more
abbrev pub ends_after : ℕ → ℕ → ℕ → ℕ
ends_after before room count = if count == 0 && nat_lt 0 room then before + 1 else before

-- what was taken, with further bytes behind it
abbrev pub with_behind : Option (List ℕ) → List ℕ → Option (List ℕ)
with_behind taken bytes = option_map (λ before. before ++ bytes) taken
