-- The numbers of a page's layout, each once (PostgreSQL's xlog_internal.h).
use Rattle.std.specs.Prelude.{ℕ}

-- the size of a page of the log (XLOG_BLCKSZ)
abbrev pub page_size : ℕ
page_size = 8192

-- the length of the header of a segment's first page (SizeOfXLogLongPHD), and of each other page
-- (SizeOfXLogShortPHD)
abbrev pub long_header_size : ℕ
long_header_size = 40

abbrev pub short_header_size : ℕ
short_header_size = 24
