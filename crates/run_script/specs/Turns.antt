-- The turns that a schedule stands for.
use Rattle.std.specs.Prelude.{ℕ, List, replicate}
use Rattle.std.specs.List.{flat_map, sum_by}
use Rattle.run_script.specs.declared.item.Item.{Item}

-- how many turns there are
abbrev pub turns_of : List Item → ℕ
turns_of items = sum_by (λ item. item.turns) items

-- the backend of each turn, in order
abbrev pub backends_in_turn : List Item → List ℕ
backends_in_turn items = flat_map (λ item. replicate item.turns item.backend) items

-- how many turns there may be
abbrev pub most_turns : ℕ
most_turns = 10000000
