-- The numbers of a record's layout, each once (PostgreSQL's xlogrecord.h).
use Rattle.std.specs.Prelude.{ℕ}

-- the header's length (SizeOfXLogRecord), and where its fields begin
abbrev pub record_header_size : ℕ
record_header_size = 24

abbrev pub size_offset : ℕ
size_offset = 0

abbrev pub xid_offset : ℕ
xid_offset = 4

abbrev pub prev_offset : ℕ
prev_offset = 8

abbrev pub info_offset : ℕ
info_offset = 16

abbrev pub manager_offset : ℕ
manager_offset = 17

abbrev pub crc_offset : ℕ
crc_offset = 20

-- the bytes that items begin with: main data with one byte of length (XLR_BLOCK_ID_DATA_SHORT) and
-- with four (XLR_BLOCK_ID_DATA_LONG), the origin (XLR_BLOCK_ID_ORIGIN), the top-level transaction
-- (XLR_BLOCK_ID_TOPLEVEL_XID), and the numbers of blocks up to XLR_MAX_BLOCK_ID
abbrev pub short_main_tag : ℕ
short_main_tag = 255

abbrev pub long_main_tag : ℕ
long_main_tag = 254

abbrev pub origin_tag : ℕ
origin_tag = 253

abbrev pub top_xid_tag : ℕ
top_xid_tag = 252

abbrev pub last_block_id : ℕ
last_block_id = 32

-- the last of a relation's forks (INIT_FORKNUM), and the length of its pages (BLCKSZ)
abbrev pub last_fork : ℕ
last_fork = 3

abbrev pub data_page_size : ℕ
data_page_size = 8192

-- a block's data has a length of two bytes
abbrev pub longest_content : ℕ
longest_content = 65535

-- the longest record that is written
abbrev pub longest_record : ℕ
longest_record = 1048576

-- no manager has a number from 22 on, behind PostgreSQL's own, up to 127; 128 on are custom ones
abbrev pub first_free_manager : ℕ
first_free_manager = 22

abbrev pub last_free_manager : ℕ
last_free_manager = 127
