-- A store in memory: its pages in their order, and the puts that fail.
use Rattle.std.specs.Prelude.{◌≡◌, ℕ, Bool, true, false, cond, ◌||◌, ◌==◌, List, [], ◌∷◌, length, Option, Some, None, IfSome, map, refl}
use Rattle.std.specs.List.{list_any}
use Rattle.std.proofs.lemmas.Bool.{true≢false}
use Rattle.std.specs.Map.{keys_of, lookup}
use Rattle.segment_disk.specs.Failing.{Failing}
use Rattle.wal_redo.specs.declared.block_id.BlockId.{BlockId}
use Rattle.wal_redo.specs.declared.mem_blocks.MemBlocks.{MemBlocks}
use Rattle.wal_redo.specs.BlockMap.{BlockMap, IsFinite}
use Rattle.wal_redo.specs.BlockOrder.{is_block}

-- the blocks that have a page, and their pages
abbrev pub stored_pages : MemBlocks → List (BlockId × List ℕ)
stored_pages store = map (λ e. (e.0, e.1.value)) store.pages.entries

-- the page of each block, which the store always tells
abbrev pub pages_told : MemBlocks → Option BlockMap
pages_told store = Some (λ block. lookup (is_block block) (stored_pages store))

-- the puts that fail
abbrev pub puts_failing : MemBlocks → Failing
puts_failing store = record { numbers = store.fail.items; made = store.called }

-- whether no put is listed to fail
abbrev pub lists_none : MemBlocks → Bool
lists_none store = length store.fail.items == 0

-- a block that is none of those that have a page has none
none_listed : (block : BlockId) (entries : List (BlockId × List ℕ))
    → list_any (is_block block) (keys_of entries) ≡ false → lookup (is_block block) entries ≡ None
none_listed block [] none = refl
none_listed block (e ∷ entries) none = behind (is_block block e.0) none (none_listed block entries)
  where
    behind : (is : Bool) → is || list_any (is_block block) (keys_of entries) ≡ false
        → (list_any (is_block block) (keys_of entries) ≡ false
        → lookup (is_block block) entries ≡ None)
        → cond is (Some e.1) (lookup (is_block block) entries) ≡ None
    behind true none others = absurd (true≢false none)
    behind false none others = others none

pub pages_told-finite : (store : MemBlocks) → IfSome (pages_told store) IsFinite
pages_told-finite store =
    (keys_of (stored_pages store), λ block. none_listed block (stored_pages store))
