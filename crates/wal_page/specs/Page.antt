-- Page headers, and the checks of a page in their order (PostgreSQL's xlog_internal.h and
-- XLogReaderValidatePageHeader of xlogreader.c).
use Rattle.std.specs.Prelude.{ℕ, ◌+◌, ◌*◌, ◌/◌, ◌%◌, Bool, ◌&&◌, not, List, [], ◌∷◌, ◌++◌, Option, ◌==◌, nat_lt, if◌then◌else◌}
use Rattle.std.specs.Int.{w16, w32, w64, to_le_bytes}
pub use Rattle.byte_position.specs.Position.{is_first_page, header_size}
pub use Rattle.wal_spelling.specs.Checks.{first_fault}
use Rattle.wal_spelling.specs.Numbers.{number_at}
use Rattle.wal_page.specs.declared.checks.PageErr.{PageErr}
use Rattle.wal_page.specs.declared.checks.PageErr.TheVariants.{Magic, Flags, NoLong, LongInside, SegSize, PageSize, SysId, Address, Timeline}

-- the header of a page into which a record continues with `remaining` bytes still to come (0: none
-- does): magic, flags (1 continuation, 2 long, 4 always), timeline 1, address, those bytes, four
-- zeros, and in a long one the system id, the segment's size and the page's
abbrev pub page_header : ℕ → ℕ → ℕ → ℕ → List ℕ
page_header size sysid page remaining =
    to_le_bytes w16 0xD113
    ++ to_le_bytes w16 ((if nat_lt 0 remaining then 1 else 0)
    + (if is_first_page size page then 2 else 0) + 4)
    ++ to_le_bytes w32 1
    ++ to_le_bytes w64 (page * 8192)
    ++ to_le_bytes w32 remaining
    ++ (0 ∷ 0 ∷ 0 ∷ 0 ∷ [])
    ++ (if is_first_page size page
    then to_le_bytes w64 sysid ++ to_le_bytes w32 size ++ to_le_bytes w32 8192 else [])

-- the fields of a page's header
abbrev pub info_of : List ℕ → ℕ
info_of bytes = number_at w16 bytes 2

abbrev pub timeline_of : List ℕ → ℕ
timeline_of bytes = number_at w32 bytes 4

abbrev pub remaining_of : List ℕ → ℕ
remaining_of bytes = number_at w32 bytes 16

-- whether the page's flags say that a record continues into it, that its header is long, that the
-- record that began before it was overwritten
abbrev pub is_continued : List ℕ → Bool
is_continued bytes = info_of bytes % 2 == 1

abbrev pub is_long : List ℕ → Bool
is_long bytes = info_of bytes / 2 % 2 == 1

abbrev pub is_overwritten : List ℕ → Bool
is_overwritten bytes = info_of bytes / 8 % 2 == 1

-- the checks of a long header, in their order, each with what it met
abbrev pub long_header_rows : ℕ → List ℕ → List (Bool × PageErr)
long_header_rows size bytes =
    let segment_size = number_at w32 bytes 32 in
    let page_size = number_at w32 bytes 36 in
    (not (segment_size == size), SegSize segment_size)
    ∷ (not (page_size == 8192), PageSize page_size)
    ∷ (number_at w64 bytes 24 == 0, SysId)
    ∷ []

-- the checks of a page, in their order, each with what it met; `last_timeline` is that of the page
-- read before
abbrev pub page_rows : ℕ → ℕ → List ℕ → ℕ → List (Bool × PageErr)
page_rows size page bytes last_timeline =
    let magic = number_at w16 bytes 0 in
    let address = number_at w64 bytes 8 in
    (not (magic == 0xD113), Magic magic)
    ∷ (nat_lt 15 (info_of bytes), Flags (info_of bytes))
    ∷ (is_first_page size page && not (is_long bytes), NoLong)
    ∷ (not (is_first_page size page) && is_long bytes, LongInside)
    ∷ ((if is_long bytes then long_header_rows size bytes else [])
    ++ (not (address == page * 8192), Address (record { 0 = address }))
    ∷ (nat_lt (timeline_of bytes) last_timeline, Timeline (timeline_of bytes))
    ∷ [])

-- the first check that fails
abbrev pub page_fault : ℕ → ℕ → List ℕ → ℕ → Option PageErr
page_fault size page bytes last_timeline = first_fault (page_rows size page bytes last_timeline)
