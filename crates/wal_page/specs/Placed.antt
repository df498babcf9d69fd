-- The words that a record gives the log at its place (PostgreSQL's xlog.c, CopyXLogRecordToWAL).
-- Everywhere `size` is the size of a segment in bytes, and `start` the byte position at which the
-- record `a` starts.
use Rattle.std.specs.Prelude.{◌≡◌, ℕ, ◌+◌, ◌-◌, ◌*◌, ◌/◌, ◌%◌, ◌^◌, ◌<◌, ◌≤◌, false, List, slice_index, nat_lt, if◌then◌else◌, ◌∷◌, ◌++◌, Some}
use Rattle.byte_position.specs.Geometry.{IsSegmentSize}
use Rattle.byte_position.specs.Position.{is_in_header, position_of, end_address_of}
use Rattle.wal_spelling.specs.Spelling.{Assembled, assembled, assembled_room, assembled_size, filled, word_at}
use Rattle.wal_page.specs.Order.{Entry, IsChained, prev_in, assembled_room_at}
use Rattle.wal_page.specs.Page.{page_header}
use Rattle.wal_page.specs.Log.{log_word, owner_at}

-- the byte at an address is the record's: its byte position lies in the record's room; a header's
-- bytes have the position of the page's first other byte, and so the same owner
abbrev pub Owns : ℕ → Assembled → ℕ → ℕ → Type 0
Owns size a start address = (start ≤ position_of size address)
    × (position_of size address < start + assembled_room_at size start a)

-- how many of the record's bytes are still to come at a byte position behind its start; 0 at its
-- start
abbrev pub still_to_come : Assembled → ℕ → ℕ → ℕ
still_to_come a start position =
    if nat_lt start position then start + assembled_size a - position else 0

-- the n-th word of the header that the record gives a page whose first other byte is in its room: 0
-- where the page holds nothing but the zeros behind a switch
abbrev pub header_word : ℕ → ℕ → ℕ → Assembled → ℕ → ℕ → ℕ
header_word size sysid page a start n =
    let position = position_of size (page * 8192) in
    let header = page_header size sysid page (still_to_come a start position) in
    if nat_lt position (start + assembled_room a) then word_at header n else 0

-- the word that the record, behind one that starts at `prev`, gives at an address that it owns: a
-- header's, its own, or 0 behind its bytes
abbrev pub entry_word : ℕ → ℕ → Assembled → ℕ → ℕ → ℕ → ℕ
entry_word size sysid a start prev address =
    let position = position_of size address in
    let header = page_header size sysid (address / 8192) (still_to_come a start position) in
    let own =
    if is_in_header size address then word_at header (address % 8192 / 8)
    else word_at (filled a prev) ((position - start) / 8) in
    if nat_lt position (start + assembled_room a) then own else 0

-- a record at its place as its words are given: its log's segment size and system id, the record,
-- the byte position of its start, the start of the record before (0 for none), and the address of
-- its next word
pub record PlacedState : Type 0 where
  pub size : ℕ
  pub sysid : ℕ
  pub body : Assembled
  pub start : ℕ
  pub prev : ℕ
  pub next : ℕ

-- the word that it gives at an address, and where its last word ends
abbrev pub placed_word : PlacedState → ℕ → ℕ
placed_word p address = entry_word p.size p.sysid p.body p.start p.prev address

abbrev pub placed_end : PlacedState → ℕ
placed_end p = end_address_of p.size (p.start + assembled_room_at p.size p.start p.body)

-- these are the first `count` of the words that it gives from its next one on
abbrev pub HasWordsFrom : PlacedState → ℕ → List ℕ → Type 0
HasWordsFrom p count words =
    (k : ℕ) → k < count → slice_index words k ≡ placed_word p (p.next + 8 * k)

-- a word at an address is the log's: in every chained order that holds the record at this start,
-- behind the one that starts at `prev`, its entry owns the address, and the log has that word there
abbrev pub IsWordOfLog : PlacedState → ℕ → ℕ → Type 0
IsWordOfLog p address word =
    (front back : List Entry) (e : Entry) → IsChained p.size (front ++ e ∷ back)
    → e.start ≡ p.start → assembled e.value ≡ p.body → prev_in p.size (front ++ e ∷ back) e ≡ p.prev
    → (owner_at p.size (front ++ e ∷ back) address ≡ Some e)
    × (word ≡ log_word p.size p.sysid (front ++ e ∷ back) address)

-- its next `count` words lie together on a page, behind the page's header; they are the record's
-- own, and not zeros behind it
pub record LieTogether (p : PlacedState) (count : ℕ) : Type 0 where
  pub outside : is_in_header p.size p.next ≡ false
  pub on_page : p.next % 8192 + 8 * count ≤ 8192
  pub own : position_of p.size p.next + 8 * count ≤ p.start + assembled_room p.body

-- the record takes up `room` bytes, the next word is at `next`, and `passed` of the bytes lie
-- before it
pub record StandsAt (size : ℕ) (a : Assembled) (start room next passed : ℕ) : Type 0 where
  pub valid : IsSegmentSize size
  pub takes_up : room ≡ assembled_room_at size start a
  pub whole_start : start % 8 ≡ 0
  pub within : start + room < 2 ^ 60
  pub whole_next : next % 8 ≡ 0
  pub position : position_of size next ≡ start + passed
  pub passed_within : passed ≤ room
  pub next_within : next ≤ end_address_of size (start + room)
