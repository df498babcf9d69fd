-- Block references as scripts spell them: `spc/db/rel:fork:blk:data:image`.
use Rattle.std.specs.Prelude.{ℕ, ◌+◌, ◌-◌, ◌^◌, Bool, true, false, ◌&&◌, min, List, [], ◌∷◌, Option, Some, None, Result, Ok, Err, codes, replicate, ◌==◌, nat_le, if◌then◌else◌}
use Rattle.std.specs.Option.{ok_or}
use Rattle.wal_types.specs.declared.record.Block.{Block}
use Rattle.wal_types.specs.declared.record.Image.{Image}
use Rattle.wal_types.specs.declared.record.Rel.{Rel}
use Rattle.run_script.specs.declared.blocks.Fork.{Fork}
use Rattle.run_script.specs.declared.images.Filler.{Filler}
use Rattle.run_script.specs.declared.line.ScriptFault.{ScriptFault}
use Rattle.run_script.specs.declared.line.ScriptFault.TheVariants as faults
use Rattle.run_script.specs.Text.{is_text, pieces_of}
use Rattle.cli_text.specs.Numbers.{number_of}
use Rattle.run_script.specs.Hexadecimal.{byte_spelled, data_of}
use Rattle.run_script.specs.Fields.{◌>>=◌}

-- `spc/db/rel`: three numbers
abbrev pub relation_with : List (List ℕ) → Result Rel ScriptFault
relation_with (tablespace ∷ database ∷ relation ∷ []) = do
  spc ← ok_or (number_of (2 ^ 32 - 1) tablespace) faults.Number
  db ← ok_or (number_of (2 ^ 32 - 1) database) faults.Number
  rel ← ok_or (number_of (2 ^ 32 - 1) relation) faults.Number
  Ok (record { spc = spc; db = db; rel = rel })
relation_with others = Err faults.Block

-- a fork by its digit, `0` to `3`
abbrev pub fork_with : ℕ → Bool → Option Fork
fork_with digit will_init =
    if nat_le 48 digit && nat_le digit 51
    then Some (record { number = digit - 48; will_init = will_init }) else None

-- a fork; `i` behind it has redo make the page anew
abbrev pub fork_of : List ℕ → Option Fork
fork_of (digit ∷ []) = fork_with digit false
fork_of (digit ∷ c ∷ []) = if c == 105 then fork_with digit true else None
fork_of others = None

-- an image's other bytes, `hh`
abbrev pub filler_with : Option ℕ → Bool → Option Filler
filler_with None apply = None
filler_with (Some byte) apply = Some (record { byte = byte; apply = apply })

-- `v` behind them has redo not apply the image
abbrev pub filler_of : List ℕ → Option Filler
filler_of (high ∷ low ∷ []) = filler_with (byte_spelled (high ∷ low ∷ [])) true
filler_of (high ∷ low ∷ c ∷ []) =
    if c == 118 then filler_with (byte_spelled (high ∷ low ∷ [])) false else None
filler_of others = None

-- `OFFSET+LENGTH+hh`: the page's 8192 bytes without its hole
abbrev pub page_image_with : List (List ℕ) → Result Image ScriptFault
page_image_with (offset ∷ len ∷ others ∷ []) = do
  hole_offset ← ok_or (number_of 8192 offset) faults.Image
  hole_len ← ok_or (number_of 8192 len) faults.Image
  filler ← ok_or (filler_of others) faults.Image
  Ok (record {
    apply = filler.apply;
    hole_offset = hole_offset;
    hole_len = hole_len;
    bytes = replicate (8192 - hole_len) filler.byte;
  })
page_image_with others = Err faults.Image

-- an image, or `-` for none
abbrev pub image_spelled : List ℕ → Result (Option Image) ScriptFault
image_spelled field = if is_text field (codes "-") then Ok None else (do
  image ← page_image_with (pieces_of 43 field)
  Ok (Some image))

-- the five parts of a reference, judged from the left
abbrev pub block_with : ℕ → List (List ℕ) → Result Block ScriptFault
block_with id (relation ∷ fork ∷ number ∷ bytes ∷ page ∷ []) = do
  rel ← relation_with (pieces_of 47 relation)
  kind ← ok_or (fork_of fork) faults.Block
  blk ← ok_or (number_of (2 ^ 32 - 2) number) faults.Number
  content ← ok_or (data_of bytes) faults.Hex
  image ← image_spelled page
  Ok (record {
    id = id;
    rel = rel;
    fork = kind.number;
    blk = blk;
    will_init = kind.will_init;
    content = content;
    image = image;
  })
block_with id others = Err faults.Block

-- references numbered from `id` on in their order; from 255 on all have 255, which is as wrong as
-- any number above 32
abbrev pub references_from : ℕ → List (List ℕ) → Result (List Block) ScriptFault
references_from id [] = Ok []
references_from id (field ∷ fields) = do
  block ← block_with id (pieces_of 58 field)
  blocks ← references_from (min (id + 1) 255) fields
  Ok (block ∷ blocks)
