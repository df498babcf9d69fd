-- Pages by their blocks, and what puts one behind another make of them.
use Rattle.std.specs.Prelude.{◌≡◌, ℕ, false, List, [], ◌∷◌, Option, Some, None, option_map, if◌then◌else◌}
use Rattle.std.specs.List.{list_any}
use Rattle.wal_redo.specs.declared.block_id.BlockId.{BlockId}
use Rattle.wal_redo.specs.BlockOrder.{is_block}

-- the page of each block that has one
abbrev pub BlockMap : Type 0
BlockMap = BlockId → Option (List ℕ)

-- blocks that are none of these have no page
abbrev pub IsFinite : BlockMap → Type 0
IsFinite map =
    (blocks : List BlockId)
    × ((block : BlockId) → list_any (is_block block) blocks ≡ false → map block ≡ None)

-- a page that is put in a block's place
pub record PagePut : Type 0 where
  pub block : BlockId
  pub page : List ℕ

-- the first, or where there is none the second
abbrev pub or_else : Option (List ℕ) → Option (List ℕ) → Option (List ℕ)
or_else None other = other
or_else (Some page) other = Some page

-- the page that a put gives a block, if it is that block's
abbrev pub put_gives : PagePut → BlockId → Option (List ℕ)
put_gives put block = if is_block put.block block then Some put.page else None

-- what puts give each block: the last page that is put in its place
abbrev pub last_put : List PagePut → BlockMap
last_put [] block = None
last_put (put ∷ puts) block = or_else (last_put puts block) (put_gives put block)

-- a map, overridden by another
abbrev pub overridden : BlockMap → BlockMap → BlockMap
overridden map by block = or_else (by block) (map block)

-- what a store tells, with one page put, or overridden by what puts give
abbrev pub told_with : Option BlockMap → BlockId → List ℕ → Option BlockMap
told_with told block page =
    option_map (λ map. overridden map (put_gives (record { block = block; page = page }))) told

abbrev pub told_behind : Option BlockMap → List PagePut → Option BlockMap
told_behind told puts = option_map (λ map. overridden map (last_put puts)) told
