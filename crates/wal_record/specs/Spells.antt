-- All spellings of a record that a reader accepts.
use Rattle.std.specs.Prelude.{◌≡◌, ℕ, ◌^◌, ◌<◌, Bool, true, false, List, [], ◌∷◌, ◌++◌, length, IsTrue, not, Option, Some, None, ◌⊎◌}
use Rattle.std.specs.Bool.{OnTrue}
use Rattle.std.specs.Int.{w32, to_le_bytes}
use Rattle.std.specs.List.{flat_map}
use Rattle.wal_types.specs.declared.record.Record.{Record}
use Rattle.wal_types.specs.declared.record.Block.{Block}
use Rattle.wal_types.specs.declared.record.Rel.{Rel}
use Rattle.wal_spelling.specs.Record.{Fits, are_right_blocks, is_free_manager}
use Rattle.wal_spelling.specs.Spelling.{block_header, block_payload, is_same_relation, main_header, origin_item, top_xid_item}

-- these bytes are the headers of blocks, behind a block of the relation `before`; each may leave
-- out its relation if the block before has the same
abbrev pub SpellsBlockHeaders : Option Rel → List Block → List ℕ → Type 0
SpellsBlockHeaders before [] text = text ≡ []
SpellsBlockHeaders before (b ∷ bs) text =
    (same : Bool)
    × (OnTrue same (IsTrue (is_same_relation before b.rel))
    × ((rest : List ℕ)
    × ((text ≡ block_header b same ++ rest) × SpellsBlockHeaders (Some b.rel) bs rest)))

-- these bytes are the record: its size and fields, the headers of its items, and the payload; the
-- start of the record before, two bytes behind the manager and the CRC are not looked at
pub record Spells (bytes : List ℕ) (r : Record) : Type 0 where
  pub fits : Fits r
  pub size : length bytes < 2 ^ 32
  pub manager : IsTrue (not (is_free_manager r.rmid))
  pub blocks : IsTrue (are_right_blocks 0 r.blocks)
  pub prev : List ℕ
  pub prev_length : length prev ≡ 8
  pub spare : List ℕ
  pub spare_length : length spare ≡ 2
  pub crc : List ℕ
  pub crc_length : length crc ≡ 4
  pub headers : List ℕ
  pub headers_spelled : SpellsBlockHeaders None r.blocks headers
  -- no header of main data if there is none, a short one if it has room for the length, or a long
  -- one
  pub main_head : List ℕ
  pub main_spelled :
      ((main_head ≡ []) × (length r.main ≡ 0))
      ⊎ (((length r.main < 256) × (main_head ≡ main_header true (length r.main)))
      ⊎ (main_head ≡ main_header false (length r.main)))
  pub spelled :
      bytes
      ≡ to_le_bytes w32 (length bytes)
      ++ to_le_bytes w32 r.xid.0
      ++ prev
      ++ (r.info ∷ r.rmid ∷ spare)
      ++ crc
      ++ headers
      ++ origin_item r.origin
      ++ top_xid_item r.top_xid
      ++ main_head
      ++ flat_map block_payload r.blocks
      ++ r.main
