-- The bytes of the log that an order of entries gives, each at its address (PostgreSQL's xlog.c,
-- CopyXLogRecordToWAL).
use Rattle.std.specs.Prelude.{◌≡◌, ℕ, ◌+◌, ◌-◌, ◌/◌, ◌%◌, ◌&&◌, ◌⊎◌, List, [], ◌∷◌, ◌++◌, replicate, slice_index, Option, Some, None, nat_lt, nat_le, if◌then◌else◌}
use Rattle.std.specs.Int.{w64, from_le_bytes, to_le_bytes}
use Rattle.byte_position.specs.Position.{is_in_header, position_of, address_of, first_position}
use Rattle.wal_spelling.specs.Spelling.{filled_spelling, room_of, size_of}
use Rattle.wal_page.specs.Order.{Entry, padding_at, position_behind}
use Rattle.wal_page.specs.Page.{page_header}

-- an entry's bytes behind a record that starts at `prev`: its record's, and the zeros that follow
abbrev pub bytes_of_entry : ℕ → ℕ → Entry → List ℕ
bytes_of_entry size prev e =
    filled_spelling e.value prev ++ replicate (padding_at size e.start e.value) 0

-- those of entries, one behind another; `prev` is the start of the record before the first
abbrev pub stream_from : ℕ → ℕ → List Entry → List ℕ
stream_from size prev [] = []
stream_from size prev (e ∷ es) =
    bytes_of_entry size prev e ++ stream_from size (address_of size e.start) es

-- all records of an order
abbrev pub stream_of : ℕ → List Entry → List ℕ
stream_of size es = stream_from size 0 es

-- the entry in whose room a byte position lies
abbrev pub owner_of : ℕ → List Entry → ℕ → Option Entry
owner_of size [] position = None
owner_of size (e ∷ es) position =
    if nat_le e.start position && nat_lt position (position_behind size e) then Some e
    else owner_of size es position

-- how many bytes of an entry's record are still to come at a byte position behind its start; 0 at
-- its start
abbrev pub remaining_at : Entry → ℕ → ℕ
remaining_at e position =
    if nat_lt e.start position then e.start + size_of e.value - position else 0

-- a byte of a page header: of the header that the entry of the page's first other byte gives it, 0
-- where no entry has that byte, or where it is one of the zeros behind a switch, which then fill
-- the page
abbrev pub header_byte : ℕ → ℕ → ℕ → ℕ → Option Entry → ℕ
header_byte size sysid address position None = 0
header_byte size sysid address position (Some e) =
    let header = page_header size sysid (address / 8192) (remaining_at e position) in
    if nat_lt position (e.start + room_of e.value) then slice_index header (address % 8192) else 0

-- the byte of the log at an address: a header's, or the stream's at its byte position; 0 where
-- nothing stands
abbrev pub log_byte : ℕ → ℕ → List Entry → ℕ → ℕ
log_byte size sysid es address =
    let position = position_of size address in
    if is_in_header size address
    then header_byte size sysid address position (owner_of size es position)
    else (if nat_lt position (first_position size) then 0
    else slice_index (stream_of size es) (position - first_position size))

-- the word of the log at an address: eight bytes, the lowest first
abbrev pub log_word : ℕ → ℕ → List Entry → ℕ → ℕ
log_word size sysid es address =
    let byte = λ (k : ℕ). log_byte size sysid es (address + k) in
    from_le_bytes w64 (byte 0 ∷ byte 1 ∷ byte 2 ∷ byte 3 ∷ byte 4 ∷ byte 5 ∷ byte 6 ∷ byte 7 ∷ [])

-- the entry whose word it is; a header's is the entry of the page's first other word
abbrev pub owner_at : ℕ → List Entry → ℕ → Option Entry
owner_at size es address = owner_of size es (position_of size address)

-- the word of a log at an address as a disk holds it: eight bytes, the lowest first
abbrev pub log_word_bytes : ℕ → ℕ → List Entry → ℕ → List ℕ
log_word_bytes size sysid es address = to_le_bytes w64 (log_word size sysid es address)

-- the eight bytes at an address are 0 or the log's word there
abbrev pub IsLawfulWord : ℕ → ℕ → List Entry → ℕ → List ℕ → Type 0
IsLawfulWord size sysid es address word =
    (word ≡ replicate 8 0) ⊎ (word ≡ log_word_bytes size sysid es address)
