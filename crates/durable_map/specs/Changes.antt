-- What a map of keys to values, both bytes, is: that of a list of changes, the last one of each key
-- wins.
use Rattle.std.specs.Prelude.{ℕ, List, [], ◌∷◌, Option, None}
use Rattle.std.specs.Map.{update}
use Rattle.std.specs.Str.{bytes_eq}

-- a key's new value, or that it has none from now on
pub record MapChange : Type 0 where
  pub key : List ℕ
  pub value : Option (List ℕ)

-- what each key has
abbrev pub MapMeaning : Type 0
MapMeaning = List ℕ → Option (List ℕ)

-- no key has anything
abbrev pub empty_map : MapMeaning
empty_map key = None

-- the map behind a change
abbrev pub map_behind : MapMeaning → MapChange → MapMeaning
map_behind map change = update bytes_eq map change.key change.value

-- .. and behind some, in their order
abbrev pub map_behind_all : MapMeaning → List MapChange → MapMeaning
map_behind_all map [] = map
map_behind_all map (change ∷ changes) = map_behind_all (map_behind map change) changes

-- the map of some changes
abbrev pub map_of : List MapChange → MapMeaning
map_of changes = map_behind_all empty_map changes
