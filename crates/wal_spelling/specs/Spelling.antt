-- How a record is spelled in the log: the writer's one spelling (PostgreSQL's xloginsert.c).
--
-- A record's bytes are, numbers with their lowest byte first:
--   the header of 24 bytes: the record's size (4), the transaction (4), the start of the record
--     before (8), info (1), the manager (1), two zeros, and the CRC (4)
--   the headers of its block references, by rising numbers: the number (1), the fork with flags
--     (1), the length of the data (2); where there is an image its length (2), its hole offset (2)
--     and its flags (1); the relation (12), unless the block before has it; the block's number (4)
--   the origin, where there is one: 253 and two bytes
--   the top-level transaction, where there is one: 252 and four bytes
--   the main data's header, where there is any: 255 and a byte of length, or 254 and four
--   the payload: for each block its image and its data, and then the main data
-- The CRC runs over all that stands behind the header, and then over the header's first 20 bytes.
use Rattle.std.specs.Prelude.{◌≡◌, ℕ, ◌+◌, ◌-◌, ◌*◌, ◌/◌, ◌^◌, ◌<◌, ◌≤◌, Bool, false, ◌&&◌, not, IsTrue, All, List, [], ◌∷◌, ◌++◌, length, take, drop, replicate, Option, Some, None, is_some, ◌==◌, nat_lt, if◌then◌else◌}
use Rattle.std.specs.List.{flat_map}
use Rattle.std.specs.Int.{w16, w32, w64, to_le_bytes, from_le_bytes}
use Rattle.wal_crc32c.specs.Crc32c.{crc32c}
use Rattle.wal_types.specs.declared.record.Record.{Record}
use Rattle.wal_types.specs.declared.record.Block.{Block}
use Rattle.wal_types.specs.declared.record.Image.{Image}
use Rattle.wal_types.specs.declared.record.Rel.{Rel}
use Rattle.wal_types.specs.declared.record.Xid.{Xid}
use Rattle.wal_spelling.specs.Layout.{long_main_tag, longest_record, origin_tag, record_header_size, short_main_tag, top_xid_tag}
use Rattle.wal_spelling.specs.Record.{IsWellFormed, Fits, are_right_blocks, ends_segment, is_free_manager, plain_record, switch_record}

-- a bit of a flag byte
abbrev pub flag : Bool → ℕ → ℕ
flag is worth = if is then worth else 0

-- an image's header: its length, where its hole begins, and flags for a hole (1) and for redo (2)
abbrev pub image_header : Option Image → List ℕ
image_header None = []
image_header (Some i) =
    to_le_bytes w16 (length i.bytes)
    ++ to_le_bytes w16 i.hole_offset
    ++ (flag (nat_lt 0 i.hole_len) 1 + flag i.apply 2) ∷ []

-- whether a block's relation is that of the block just before it, which is then not spelled again
abbrev pub is_same_relation : Option Rel → Rel → Bool
is_same_relation None rel = false
is_same_relation (Some before) rel =
    (before.spc == rel.spc) && (before.db == rel.db) && (before.rel == rel.rel)

abbrev pub relation_bytes : Rel → List ℕ
relation_bytes rel = to_le_bytes w32 rel.spc ++ to_le_bytes w32 rel.db ++ to_le_bytes w32 rel.rel

-- a block's fork, with flags for an image (16), for data (32), for a page that is made anew (64)
-- and for the relation of the block before (128)
abbrev pub fork_byte : Block → Bool → ℕ
fork_byte b same =
    b.fork
    + flag (is_some b.image) 16
    + flag (nat_lt 0 (length b.content)) 32
    + flag b.will_init 64
    + flag same 128

-- a block's header, without its relation if that is to be the one of the block before
abbrev pub block_header : Block → Bool → List ℕ
block_header b same =
    b.id ∷ fork_byte b same ∷ to_le_bytes w16 (length b.content)
    ++ image_header b.image
    ++ (if same then [] else relation_bytes b.rel)
    ++ to_le_bytes w32 b.blk

-- the headers of blocks, behind a block of the relation `before`
abbrev pub block_headers : Option Rel → List Block → List ℕ
block_headers before [] = []
block_headers before (b ∷ bs) =
    block_header b (is_same_relation before b.rel) ++ block_headers (Some b.rel) bs

-- what a block carries: its image, then its data
abbrev pub image_bytes : Option Image → List ℕ
image_bytes None = []
image_bytes (Some i) = i.bytes

abbrev pub block_payload : Block → List ℕ
block_payload b = image_bytes b.image ++ b.content

-- the replication origin
abbrev pub origin_item : Option ℕ → List ℕ
origin_item None = []
origin_item (Some n) = origin_tag ∷ to_le_bytes w16 n

-- the top-level transaction
abbrev pub top_xid_item : Option Xid → List ℕ
top_xid_item None = []
top_xid_item (Some x) = top_xid_tag ∷ to_le_bytes w32 x.0

-- the main data's header: a short one, with one byte of length, or a long one
abbrev pub main_header : Bool → ℕ → List ℕ
main_header short len =
    if short then short_main_tag ∷ len ∷ [] else long_main_tag ∷ to_le_bytes w32 len

-- what stands behind a record's header; main data has a header of its own unless it is empty, a
-- short one below 256 bytes
abbrev pub after_header : Record → List ℕ
after_header r =
    block_headers None r.blocks
    ++ origin_item r.origin
    ++ top_xid_item r.top_xid
    ++ (if length r.main == 0 then []
    else main_header (nat_lt (length r.main) 256) (length r.main))
    ++ flat_map block_payload r.blocks
    ++ r.main

-- the same of a record that has main data alone, whatever its header says
abbrev pub plain_after_header : List ℕ → List ℕ
plain_after_header main = after_header (plain_record (record { 0 = 0 }) 0 0 main)

-- how many bytes a record is spelled in, and how many it takes up: the next multiple of 8
abbrev pub size_of : Record → ℕ
size_of r = record_header_size + length (after_header r)

abbrev pub room_of : Record → ℕ
room_of r = (size_of r + 7) / 8 * 8

-- the writer's spelling of a record behind one that starts at `prev`: the header up to its CRC; the
-- CRC, which runs over what stands behind the header, and then over the header's front; the rest
abbrev pub spelling : Record → ℕ → List ℕ
spelling r prev =
    let front =
    to_le_bytes w32 (size_of r)
    ++ to_le_bytes w32 r.xid.0
    ++ to_le_bytes w64 prev
    ++ r.info ∷ r.rmid ∷ 0 ∷ 0 ∷ [] in
    let crc = crc32c (after_header r ++ front) in
    front ++ to_le_bytes w32 crc ++ after_header r

-- filled with zeros up to its room
abbrev pub filled_spelling : Record → ℕ → List ℕ
filled_spelling r prev = spelling r prev ++ replicate (room_of r - size_of r) 0

-- a record as it is ready to be written: all of its spelling but what depends on its place
pub record Assembled : Type 0 where
  pub xid : ℕ
  pub rmid : ℕ
  pub info : ℕ
  pub after_header : List ℕ

abbrev pub assembled : Record → Assembled
assembled r =
    record { xid = r.xid.0; rmid = r.rmid; info = r.info; after_header = after_header r }

-- the same of its four parts, as a body keeps them
abbrev pub assembled_of : ℕ → ℕ → ℕ → List ℕ → Assembled
assembled_of xid rmid info bytes =
    record { xid = xid; rmid = rmid; info = info; after_header = bytes }

-- how many bytes it is spelled in, and how many it takes up: the next multiple of 8
abbrev pub assembled_size : Assembled → ℕ
assembled_size a = record_header_size + length a.after_header

abbrev pub assembled_room : Assembled → ℕ
assembled_room a = (assembled_size a + 7) / 8 * 8

-- the header up to its CRC
abbrev pub header_front : Assembled → ℕ → List ℕ
header_front a prev =
    to_le_bytes w32 (assembled_size a)
    ++ to_le_bytes w32 a.xid
    ++ to_le_bytes w64 prev
    ++ a.info ∷ a.rmid ∷ 0 ∷ 0 ∷ []

-- the CRC runs over what stands behind the header, and then over the header's front
abbrev pub crc_of : Assembled → ℕ → ℕ
crc_of a prev = crc32c (a.after_header ++ header_front a prev)

abbrev pub spelled : Assembled → ℕ → List ℕ
spelled a prev = header_front a prev ++ to_le_bytes w32 (crc_of a prev) ++ a.after_header

-- filled with zeros up to its room
abbrev pub filled : Assembled → ℕ → List ℕ
filled a prev = spelled a prev ++ replicate (assembled_room a - assembled_size a) 0

-- the n-th word of bytes, eight of them, the lowest first
abbrev pub word_at : List ℕ → ℕ → ℕ
word_at bytes n = from_le_bytes w64 (take 8 (drop (8 * n) bytes))

-- a record that can be inserted
pub record IsWritable (r : Record) : Type 0 where
  pub well_formed : IsWellFormed r
  pub fits : Fits r
  pub size : size_of r ≤ longest_record

-- a record that is read back from its spelling: it has a manager, its blocks are right, its numbers
-- fit their fields, and its size does
pub record IsReadable (r : Record) : Type 0 where
  pub manager : IsTrue (not (is_free_manager r.rmid))
  pub blocks : IsTrue (are_right_blocks 0 r.blocks)
  pub fits : Fits r
  pub size : size_of r < 2 ^ 32

-- a record that the log may hold: one that can be inserted, or that of a segment switch
pub data IsLogRecord (r : Record) : Type 0 where
  inserted : IsWritable r → IsLogRecord r
  switched : r ≡ switch_record → IsLogRecord r

-- whether what is assembled ends its segment
abbrev pub is_assembled_switch : Assembled → Bool
is_assembled_switch a = ends_segment a.rmid a.info

-- what is assembled of a record that the log may hold
pub record AssembledFits (a : Assembled) : Type 0 where
  pub size : assembled_size a ≤ longest_record
  pub xid : a.xid < 2 ^ 32
  pub manager : a.rmid < 256
  pub info : a.info < 256
  pub bytes : All (λ b. b < 256) a.after_header

-- the record that it was assembled of
pub record RecordOf (a : Assembled) : Type 0 where
  pub value : Record
  pub logged : IsLogRecord value
  pub same : a ≡ assembled value
