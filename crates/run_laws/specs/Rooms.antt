-- How many bytes records take up, and how many a log has for them.
use Rattle.std.specs.Prelude.{ℕ, ◌+◌, ◌*◌, List, [], ◌∷◌}
use Rattle.byte_position.specs.Position.{usable_bytes_in_segment}
use Rattle.wal_spelling.specs.Spelling.{room_of}
use Rattle.run_script.specs.Asked.{Asked, AskedLine, Insert, Commit, Flush, CommitAsync, WriteBehind, Switch}

-- the bytes that the records of a script take up together at most, in segments of this size: what a
-- segment switch takes up depends on where it starts, and is no more than a segment's bytes and the
-- 16 that it may have in the segment before
abbrev pub room_asked : (size : ℕ) → Asked → ℕ
room_asked size (Insert value) = room_of value
room_asked size (Commit value) = room_of value
room_asked size Flush = 0
room_asked size (CommitAsync value) = room_of value
room_asked size WriteBehind = 0
room_asked size Switch = size + 16

abbrev pub rooms_asked : (size : ℕ) → List AskedLine → ℕ
rooms_asked size [] = 0
rooms_asked size (line ∷ lines) = room_asked size line.asked + rooms_asked size lines

abbrev pub all_rooms_asked : (size : ℕ) → List (List AskedLine) → ℕ
all_rooms_asked size [] = 0
all_rooms_asked size (lines ∷ script) = rooms_asked size lines + all_rooms_asked size script

-- how many bytes the records of a log may take up that may fill this many segments
abbrev pub capacity_of : ℕ → ℕ → ℕ
capacity_of size segments = segments * usable_bytes_in_segment size
