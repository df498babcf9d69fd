-- What one item of a schedule spells: a backend, or a backend and how many turns it has.
use Rattle.std.specs.Prelude.{ℕ, ◌-◌, ◌^◌, ◌<◌, ◌&&◌, List, [], ◌∷◌, Option, Some, None, ◌==◌, nat_lt, if◌then◌else◌}
use Rattle.std.specs.List.{slice_split}
use Rattle.cli_text.specs.Numbers.{number_of}
use Rattle.run_script.specs.declared.item.Item.{Item}

-- an item with a turn, of a backend that is there, among so many
pub record IsPlayable (backends : ℕ) (item : Item) : Type 0 where
  pub there : item.backend < backends
  pub some : 0 < item.turns

-- turns of a backend, where it is there, among so many, and has at least one
abbrev pub item_from : ℕ → Option ℕ → Option ℕ → Option Item
item_from backends None turns = None
item_from backends (Some backend) None = None
item_from backends (Some backend) (Some turns) =
    if nat_lt backend backends && nat_lt 0 turns
    then Some (record { backend = backend; turns = turns }) else None

-- the parts of a word: a backend, and how many turns it has, up to 1,000,000; one where that is not
-- said
abbrev pub item_with : ℕ → List (List ℕ) → Option Item
item_with backends [] = None
item_with backends (backend ∷ []) =
    item_from backends (number_of (2 ^ 32 - 1) backend) (Some 1)
item_with backends (backend ∷ turns ∷ []) =
    item_from backends (number_of (2 ^ 32 - 1) backend) (number_of 1000000 turns)
item_with backends (backend ∷ turns ∷ part ∷ parts) = None

-- the item that a word spells, `b` or `b*n`, where there are so many backends
abbrev pub item_of : ℕ → List ℕ → Option Item
item_of backends word = item_with backends (slice_split (λ c. c == 42) word)
