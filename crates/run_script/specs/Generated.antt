-- The script that the generator makes: four backends with as many lines each, all inserts and
-- commits. Lengths and offsets are in bytes; a line's index counts from 0, its number from 1.
use Rattle.std.specs.Prelude.{ℕ, ◌+◌, ◌*◌, ◌%◌, true, false, List, [], ◌∷◌, None, Some, ◌==◌, if◌then◌else◌, map, replicate}
use Rattle.std.specs.List.{range_with_len}
use Rattle.wal_types.specs.declared.record.Block.{Block}
use Rattle.wal_types.specs.declared.record.Image.{Image}
use Rattle.wal_types.specs.declared.record.Record.{Record}
use Rattle.run_script.specs.Asked.{Asked, AskedLine, Commit, Insert}
use Rattle.run_script.specs.Meaning.{commit_record}

-- an insert's main data: one byte, up to 1499 times
abbrev pub generated_data : (backend index : ℕ) → List ℕ
generated_data backend index =
    replicate ((7 * index * index + 17 * index + 131 * backend) % 1500) ((index + backend) % 256)

-- a page's image: the 8000 bytes from 64 on are its hole, and the other 192 are one byte; redo
-- applies it
abbrev pub generated_image : (index : ℕ) → Image
generated_image index =
    record { apply = true; hole_offset = 64; hole_len = 8000; bytes = replicate 192 (index % 256) }

-- a block of the backend's own relation, with its image and no data
abbrev pub generated_block : (backend index : ℕ) → Block
generated_block backend index =
    record {
      id = 0;
      rel = record { spc = 1663; db = 5; rel = 16384 + backend };
      fork = 0;
      blk = index;
      will_init = false;
      content = [];
      image = Some (generated_image index);
    }

-- one of ten lines has such a block
abbrev pub generated_blocks : (backend index : ℕ) → List Block
generated_blocks backend index =
    if index % 10 == 4 then generated_block backend index ∷ [] else []

-- an insert's record: manager 10 is that of heap
abbrev pub generated_record : (backend index : ℕ) → Record
generated_record backend index =
    record {
      xid = record { 0 = 100 + backend };
      rmid = 10;
      info = 0;
      origin = None;
      top_xid = None;
      blocks = generated_blocks backend index;
      main = generated_data backend index;
    }

-- one of ten lines commits, its index being the time in microseconds; all others insert
abbrev pub generated_asked : (backend index : ℕ) → Asked
generated_asked backend index =
    if index % 10 == 9 then Commit (commit_record (100 + backend) index)
    else Insert (generated_record backend index)

-- the line, with its number
abbrev pub generated_line : (backend index : ℕ) → AskedLine
generated_line backend index =
    record { number = index + 1; asked = generated_asked backend index }

-- the lines of one backend
abbrev pub generated_lines : (backend n : ℕ) → List AskedLine
generated_lines backend n = map (generated_line backend) (range_with_len 0 n)

-- the lines of all four
unfoldable pub generated_script : (n : ℕ) → List (List AskedLine)
generated_script n = map (λ backend. generated_lines backend n) (range_with_len 0 4)
