-- The lines of a redo.
use Rattle.std.specs.Prelude.{ℕ, List, [], ◌∷◌, ◌++◌, length, not, ◌==◌, codes, count_by, slice_index_or}
use Rattle.std.specs.Fmt.{decimal}
use Rattle.std.specs.List.{flat_map}
use Rattle.waldump_filter.specs.Names.{fork_names}
use Rattle.waldump_text.specs.Put.{joined}
use Rattle.wal_redo.specs.declared.block_id.BlockId.{BlockId}

-- a block's line: its relation, fork and number, and how many bytes of its page are not 0
abbrev pub block_line : BlockId × List ℕ → List ℕ
block_line e =
    joined (codes "rel " ∷ decimal e.0.rel.spc ∷ codes "/" ∷ decimal e.0.rel.db ∷ codes "/" ∷
    decimal e.0.rel.rel ∷ codes " fork " ∷ slice_index_or fork_names e.0.fork [] ∷
    codes " blk " ∷ decimal e.0.blk ∷ codes " nonzero " ∷
    decimal (count_by (λ byte. not (byte == 0)) e.1) ∷ codes "\n" ∷ [])

abbrev pub counts_line : ℕ → ℕ → List ℕ
counts_line images blocks =
    joined (codes "images " ∷ decimal images ∷ codes " blocks " ∷ decimal blocks ∷ codes "\n" ∷ [])

-- a line for each block, and that of the counts
abbrev pub redo_text : List (BlockId × List ℕ) → ℕ → List ℕ
redo_text entries images = flat_map block_line entries ++ counts_line images (length entries)
