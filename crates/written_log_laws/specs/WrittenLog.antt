-- What a written log of many pages reads back as.
use Rattle.std.specs.Prelude.{◌≡◌, ℕ, ◌+◌, ◌*◌, ◌^◌, ◌<◌, ◌≤◌, List, length, map, slice_index, Some, None, IfSome, IsSome}
use Rattle.std.specs.List.{range_with_len}
use Rattle.byte_position.specs.Geometry.{IsSegmentSize, pages_of}
use Rattle.byte_position.specs.Position.{end_address_of}
use Rattle.wal_page.specs.Order.{Entry, IsChained, end_position}
use Rattle.wal_page.specs.Log.{log_byte}
use Rattle.wal_reader.specs.Pages.{Pages}
use Rattle.wal_reader.specs.Decodes.{Decodes, ended}
use Rattle.written_log_laws.specs.Written.{found_of}

-- a page of the log as a reader needs it: its first 8192 bytes are the log's, whatever follows them
pub record BeginsAsLogPage (size sysid : ℕ) (es : List Entry) (page : ℕ) (bytes : List ℕ)
    : Type 0 where
  pub long : 8192 ≤ length bytes
  pub each : (k : ℕ) → k < 8192 → slice_index bytes k ≡ log_byte size sysid es (page * 8192 + k)

-- pages that hold an order's log: each page from the log's first on that is there is the log's, and
-- each that begins below the log's end is there
pub record HavePagesOfLog (size sysid : ℕ) (pages : Pages) (es : List Entry) : Type 0 where
  pub is_log : (page : ℕ) → pages_of size ≤ page
      → IfSome (pages page) (BeginsAsLogPage size sysid es page)
  pub there : (page : ℕ) → pages_of size ≤ page → page * 8192
      < end_address_of size (end_position size es) → IsSome (pages page)

-- the log's own pages: each is there, each byte the log's
abbrev pub log_pages : ℕ → ℕ → List Entry → Pages
log_pages size sysid es page =
    Some (map (λ k. log_byte size sysid es (page * 8192 + k)) (range_with_len 0 8192))

-- an order's log stands in its own pages
abbrev pub OwnPagesHoldLog : Type 0
OwnPagesHoldLog =
    (size sysid : ℕ) (es : List Entry) → HavePagesOfLog size sysid (log_pages size sysid es) es

-- an order that ends at address 2 ^ 60 or below reads back, from pages that hold its log, as just
-- its records, and then the log ends
abbrev pub WrittenLogDecodes : Type 0
WrittenLogDecodes =
    (size sysid : ℕ) (pages : Pages) (es : List Entry) → IsSegmentSize size → 0 < sysid → sysid
    < 2 ^ 64 → IsChained size es → end_address_of size (end_position size es) ≤ 2 ^ 60
    → HavePagesOfLog size sysid pages es
    → Decodes size pages size None (found_of size es) (ended size (end_position size es))
