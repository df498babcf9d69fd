-- The order of the log's records (PostgreSQL's xlog.c, ReserveXLogInsertLocation). Everywhere
-- `size` is the size of a segment in bytes.
use Rattle.std.specs.Prelude.{◌≡◌, ℕ, ◌+◌, ◌-◌, ◌*◌, ◌/◌, List, [], ◌∷◌, Option, sum_by, nat_lt, if◌then◌else◌}
use Rattle.byte_position.specs.Position.{position_of, address_of, end_address_of, first_position}
use Rattle.wal_types.specs.declared.record.Record.{Record}
use Rattle.wal_spelling.specs.Record.{is_switch}
use Rattle.wal_spelling.specs.Spelling.{Assembled, assembled_room, assembled_size, is_assembled_switch, IsLogRecord, room_of, size_of}

-- an entry of the log: the pass that reserved it (none where a restart found it), its record, and
-- the byte position at which it starts
pub record Entry : Type 0 where
  pub pass : Option ℕ
  pub value : Record
  pub start : ℕ

-- the first byte position of the segment behind the one in which a byte position's byte stands
abbrev pub next_segment : ℕ → ℕ → ℕ
next_segment size position = position_of size (size * (address_of size position / size + 1))

-- how many bytes of zeros follow a record that starts at a byte position: behind a switch those
-- that are left of the segment in which its last byte stands, behind another record none
abbrev pub padding_at : ℕ → ℕ → Record → ℕ
padding_at size start value =
    if is_switch value
    then next_segment size (start + size_of value - 1) - (start + room_of value) else 0

-- how many bytes of the log a record takes up that starts at a byte position: its room there, from
-- its start to where the next record starts
abbrev pub room_at : ℕ → ℕ → Record → ℕ
room_at size start value = room_of value + padding_at size start value

-- both of what is assembled
abbrev pub assembled_padding_at : ℕ → ℕ → Assembled → ℕ
assembled_padding_at size start a =
    if is_assembled_switch a
    then next_segment size (start + assembled_size a - 1) - (start + assembled_room a) else 0

abbrev pub assembled_room_at : ℕ → ℕ → Assembled → ℕ
assembled_room_at size start a = assembled_room a + assembled_padding_at size start a

-- the byte position behind an entry
abbrev pub position_behind : ℕ → Entry → ℕ
position_behind size e = e.start + room_at size e.start e.value

-- entries follow each other without a gap from a byte position on
abbrev pub FollowsFrom : ℕ → ℕ → List Entry → Type 0
FollowsFrom size position [] = Unit {0}
FollowsFrom size position (e ∷ es) = (e.start ≡ position) × IsLogRecord e.value
    × FollowsFrom size (position_behind size e) es

-- entries follow each other from the log's first byte position on
abbrev pub IsChained : ℕ → List Entry → Type 0
IsChained size es = FollowsFrom size (first_position size) es

-- how many bytes entries take up together, and the byte position at which an order ends
abbrev pub rooms_of : ℕ → List Entry → ℕ
rooms_of size es = sum_by (λ e. room_at size e.start e.value) es

abbrev pub end_position : ℕ → List Entry → ℕ
end_position size es = first_position size + rooms_of size es

-- how many bytes of the log a record takes up that follows an order
abbrev pub room_behind : ℕ → List Entry → Record → ℕ
room_behind size es value = room_at size (end_position size es) value

-- the address at which the last of some entries starts, and `prev` where there is none: what the
-- next record names as the one before
abbrev pub prev_of : ℕ → ℕ → List Entry → ℕ
prev_of size prev [] = prev
prev_of size prev (e ∷ es) = prev_of size (address_of size e.start) es

-- the address at which the entry before this one of an order starts, 0 where it is the first
abbrev pub prev_before : ℕ → ℕ → List Entry → ℕ → ℕ
prev_before size prev [] start = prev
prev_before size prev (e ∷ es) start =
    if nat_lt e.start start then prev_before size (address_of size e.start) es start else prev

abbrev pub prev_in : ℕ → List Entry → Entry → ℕ
prev_in size es e = prev_before size 0 es e.start

-- the address at which an entry starts, and the one at which it ends
abbrev pub start_of : ℕ → Entry → ℕ
start_of size e = address_of size e.start

abbrev pub finish_of : ℕ → Entry → ℕ
finish_of size e = end_address_of size (position_behind size e)
