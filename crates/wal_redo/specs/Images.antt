-- The pages that the images of records put in the places of blocks (PostgreSQL's RestoreBlockImage
-- of xlogreader.c).
use Rattle.std.specs.Prelude.{◌≡◌, ℕ, ◌+◌, ◌≤◌, List, [], ◌∷◌, ◌++◌, length, take, drop, replicate, Option, Some, None, IfSome, if◌then◌else◌}
use Rattle.std.specs.List.{flat_map}
use Rattle.wal_types.specs.declared.record.Block.{Block}
use Rattle.wal_types.specs.declared.record.Image.{Image}
use Rattle.wal_reader.specs.declared.found.FoundRecord.{FoundRecord}
use Rattle.wal_redo.specs.declared.block_id.BlockId.{BlockId}
use Rattle.wal_redo.specs.BlockMap.{PagePut}

-- the page of an image: its bytes, with zeros in the hole; the page's own LSN stays as it is
abbrev pub page_of : Image → List ℕ
page_of image =
    take image.hole_offset image.bytes
    ++ (replicate image.hole_len 0 ++ drop image.hole_offset image.bytes)

-- the block that a reference names
abbrev pub block_named : Block → BlockId
block_named b = record { rel = b.rel; fork = b.fork; blk = b.blk }

-- an image is put where it has the apply flag
abbrev pub put_of : BlockId → Option Image → List PagePut
put_of block None = []
put_of block (Some image) =
    if image.apply then record { block = block; page = page_of image } ∷ [] else []

-- what the blocks of a record put, in their order
abbrev pub puts_of : List Block → List PagePut
puts_of blocks = flat_map (λ b. put_of (block_named b) b.image) blocks

-- what records put, in their order
abbrev pub puts_in : List FoundRecord → List PagePut
puts_in found = flat_map (λ f. puts_of f.value.blocks) found

-- an image and its hole make a page
pub record MakesPage (image : Image) : Type 0 where
  pub whole : length image.bytes + image.hole_len ≡ 8192
  pub within : image.hole_offset + image.hole_len ≤ 8192

-- a block's image, where it has one, is a page's
pub record IsRedoable (b : Block) : Type 0 where
  pub image : IfSome b.image MakesPage
