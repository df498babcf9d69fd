-- Which records the log can hold (PostgreSQL's xloginsert.c and xlogrecord.h).
use Rattle.std.specs.Prelude.{ℕ, ◌+◌, ◌/◌, ◌%◌, ◌^◌, ◌<◌, Bool, true, IsTrue, ◌&&◌, not, List, [], ◌∷◌, length, Option, Some, None, IfSome, All, ◌==◌, nat_lt, nat_le, if◌then◌else◌}
use Rattle.wal_types.specs.declared.record.Record.{Record}
use Rattle.wal_types.specs.declared.record.Block.{Block}
use Rattle.wal_types.specs.declared.record.Image.{Image}
use Rattle.wal_types.specs.declared.record.Xid.{Xid}
use Rattle.wal_spelling.specs.Layout.{data_page_size, first_free_manager, last_block_id, last_fork, last_free_manager, longest_content}

-- whether no manager has this number
abbrev pub is_free_manager : ℕ → Bool
is_free_manager rmid = nat_le first_free_manager rmid && nat_le rmid last_free_manager

-- whether a record of this manager and info ends its segment (XLOG_SWITCH)
abbrev pub ends_segment : ℕ → ℕ → Bool
ends_segment rmid info = (rmid == 0) && (info / 16 % 16 == 4)

-- whether a record is a segment switch, which is none to insert
abbrev pub is_switch : Record → Bool
is_switch r = ends_segment r.rmid r.info

-- the one such record that a log is given: of no transaction, and with no data
abbrev pub switch_record : Record
switch_record = record {
  xid = record { 0 = 0 };
  rmid = 0;
  info = 64;
  origin = None;
  top_xid = None;
  blocks = [];
  main = [];
}

-- a record that has main data alone
abbrev pub plain_record : Xid → ℕ → ℕ → List ℕ → Record
plain_record xid rmid info main = record {
  xid = xid;
  rmid = rmid;
  info = info;
  origin = None;
  top_xid = None;
  blocks = [];
  main = main;
}

-- whether an image, where there is one, is that of a page; a hole is not at the page's start
abbrev pub is_right_image : Option Image → Bool
is_right_image None = true
is_right_image (Some i) =
    (length i.bytes + i.hole_len == data_page_size)
    && (if i.hole_len == 0 then i.hole_offset == 0
    else nat_lt 0 i.hole_offset && nat_le (i.hole_offset + i.hole_len) data_page_size)

-- whether a block may stand where the next number is at least `floor`
abbrev pub is_right_block : ℕ → Block → Bool
is_right_block floor b =
    nat_le floor b.id
    && nat_le b.id last_block_id
    && nat_le b.fork last_fork
    && nat_le (length b.content) longest_content
    && is_right_image b.image

-- whether blocks have rising numbers up to 32, and each is right
abbrev pub are_right_blocks : ℕ → List Block → Bool
are_right_blocks floor [] = true
are_right_blocks floor (b ∷ bs) = is_right_block floor b && are_right_blocks (b.id + 1) bs

-- a record that can be inserted, whatever its size
pub record IsWellFormed (r : Record) : Type 0 where
  pub manager : IsTrue (not (is_free_manager r.rmid))
  pub no_switch : IsTrue (not (is_switch r))
  pub blocks : IsTrue (are_right_blocks 0 r.blocks)

-- an image's numbers fit their fields
pub record ImageFits (i : Image) : Type 0 where
  pub hole_offset : i.hole_offset < 2 ^ 16
  pub hole_len : i.hole_len < 2 ^ 16
  pub bytes : All (λ b. b < 256) i.bytes

-- the numbers that a block has beside its image fit their fields
pub record NumbersFit (b : Block) : Type 0 where
  pub id : b.id < 256
  pub tablespace : b.rel.spc < 2 ^ 32
  pub database : b.rel.db < 2 ^ 32
  pub relation : b.rel.rel < 2 ^ 32
  pub fork : b.fork < 256
  pub number : b.blk < 2 ^ 32

-- all that a block has fits its fields
pub record BlockFits (b : Block) : Type 0 where
  pub numbers : NumbersFit b
  pub content : All (λ b. b < 256) b.content
  pub image : IfSome b.image ImageFits

-- a record's numbers fit their fields, as those of a program's value do
pub record Fits (r : Record) : Type 0 where
  pub xid : r.xid.0 < 2 ^ 32
  pub manager : r.rmid < 256
  pub info : r.info < 256
  pub origin : IfSome r.origin (λ n. n < 2 ^ 16)
  pub top_xid : IfSome r.top_xid (λ x. x.0 < 2 ^ 32)
  pub blocks : All BlockFits r.blocks
  pub main : All (λ b. b < 256) r.main
