-- Byte positions, which count the bytes that are in no page header, and the addresses of these
-- bytes (PostgreSQL's xlog.c). Everywhere `size` is the size of a segment in bytes.
use Rattle.std.specs.Prelude.{ℕ, zero, suc, ◌+◌, ◌-◌, ◌*◌, ◌%◌, Bool, IsTrue, not, ◌||◌, ◌==◌, nat_lt, if◌then◌else◌}
use Rattle.byte_position.specs.Geometry.{pages_of}
use Rattle.byte_position.specs.Layout.{long_header_size, page_size, short_header_size}

-- whether a page is its segment's first, which has the long header
abbrev pub is_first_page : ℕ → ℕ → Bool
is_first_page size page = page % pages_of size == 0

-- how many bytes a page's header has
abbrev pub header_size : ℕ → ℕ → ℕ
header_size size page =
    if is_first_page size page then long_header_size else short_header_size

-- how many bytes of a segment are in no header: all but a short header of each page, less the bytes
-- by which the first header is longer
abbrev pub usable_bytes_in_segment : ℕ → ℕ
usable_bytes_in_segment size =
    pages_of size * (page_size - short_header_size) - (long_header_size - short_header_size)

-- whether the byte at an address is in a page header: a long one in a segment's first page, a short
-- one in each other
abbrev pub is_in_header : ℕ → ℕ → Bool
is_in_header size address =
    nat_lt (address % size) long_header_size || nat_lt (address % page_size) short_header_size

-- how many bytes below an address are in no header: the byte position of a byte that is in none
unfoldable pub position_of : ℕ → ℕ → ℕ
position_of size zero = 0
position_of size (suc address) =
    position_of size address + (if is_in_header size address then 0 else 1)

-- the first address from this one on that is in no header
abbrev pub behind_header : ℕ → ℕ → ℕ
behind_header size address =
    if nat_lt (address % size) long_header_size
    then address - address % size + long_header_size
    else (if nat_lt (address % page_size) short_header_size
    then address - address % page_size + short_header_size else address)

-- the address of a byte position: these are the addresses in no header, one after another
unfoldable pub address_of : ℕ → ℕ → ℕ
address_of size zero = behind_header size 0
address_of size (suc position) = behind_header size (address_of size position + 1)

-- the end form: just behind the last byte before the position, so that what fills a page ends at
-- the page's end
unfoldable pub end_address_of : ℕ → ℕ → ℕ
end_address_of size zero = 0
end_address_of size (suc position) = address_of size position + 1

-- the log's first byte position: it begins with segment 1
abbrev pub first_position : ℕ → ℕ
first_position size = position_of size size

-- whether an address has a byte position: in no header, or at a page's start, which stands for the
-- page's first byte behind its header
abbrev pub HasPosition : ℕ → ℕ → Type 0
HasPosition size address = IsTrue (address % page_size == 0 || not (is_in_header size address))
