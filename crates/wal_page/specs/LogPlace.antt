-- A log that goes on at a place, or begins there: of what lies below the place nothing is known but
-- its words as they are, and where the last record started. From there on each word is the one that
-- its owner gives (PostgreSQL's xlog.c, StartupXLOG, which goes on behind the last whole record).
-- Everywhere `size` is the size of a segment in bytes.
use Rattle.std.specs.Prelude.{◌≡◌, ℕ, ◌+◌, ◌-◌, ◌/◌, ◌%◌, ◌≤◌, List, [], slice_index, Option, Some, None, nat_lt, if◌then◌else◌}
use Rattle.std.specs.Int.{w64, to_le_bytes}
use Rattle.byte_position.specs.Position.{end_address_of, first_position}
use Rattle.wal_spelling.specs.Spelling.{assembled}
use Rattle.wal_page.specs.Order.{Entry, prev_before, rooms_of}
use Rattle.wal_page.specs.Log.{owner_at}
use Rattle.wal_page.specs.Placed.{entry_word}

-- a place: the byte position at which the next record starts, the address at which the record
-- before starts (0 for none), and the words from segment 1 on up to the place, one behind another
pub record LogPlace : Type 0 where
  pub position : ℕ
  pub prev : ℕ
  pub below : List ℕ

-- a new log's: nothing lies below
abbrev pub new_place : ℕ → LogPlace
new_place size = record { position = first_position size; prev = 0; below = [] }

-- a log may go on there: at a word, and in segment 1 or behind it
pub record IsPlace (size : ℕ) (place : LogPlace) : Type 0 where
  pub whole : place.position % 8 ≡ 0
  pub from : first_position size ≤ place.position

-- the byte position at which entries end that follow each other from a place on
abbrev pub end_from : ℕ → LogPlace → List Entry → ℕ
end_from size place es = place.position + rooms_of size es

-- the word at an address below a place; in segment 0, which no log has, it is 0
abbrev pub word_below : ℕ → LogPlace → ℕ → ℕ
word_below size place address =
    if nat_lt address size then 0 else slice_index place.below ((address - size) / 8)

-- the word at an address whose owner is one of these entries, or nobody; `prev` is the start of the
-- record before the first
abbrev pub word_of_owner : ℕ → ℕ → ℕ → List Entry → ℕ → Option Entry → ℕ
word_of_owner size sysid prev es address None = 0
word_of_owner size sysid prev es address (Some e) = entry_word size sysid (assembled e.value)
    e.start (prev_before size prev es e.start) address

-- the word at an address of a log that goes on at a place with these entries
abbrev pub word_from : ℕ → ℕ → LogPlace → List Entry → ℕ → ℕ
word_from size sysid place es address =
    if nat_lt address (end_address_of size place.position) then word_below size place address
    else word_of_owner size sysid place.prev es address (owner_at size es address)

-- the same as a disk holds it: eight bytes, the lowest first
abbrev pub word_bytes_from : ℕ → ℕ → LogPlace → List Entry → ℕ → List ℕ
word_bytes_from size sysid place es address =
    to_le_bytes w64 (word_from size sysid place es address)
