-- The lines of a backend.
use Rattle.std.specs.Prelude.{ℕ, ◌+◌, List, [], ◌∷◌, Option, Some, None, IfSome}
use Rattle.wal_spelling.specs.Spelling.{Assembled, RecordOf, assembled_room}
use Rattle.machine_turns.specs.declared.script.PlainLine.{PlainLine}
use Rattle.machine_turns.specs.declared.script.PlainLine.TheVariants.{Insert, Commit, Flush}

-- the record that a line inserts, assembled
abbrev pub body_of : PlainLine → Option Assembled
body_of (Insert body) = Some body
body_of (Commit body) = Some body
body_of Flush = None

-- the record that a line inserts is one that the log may hold
abbrev pub InsertsLogRecord : PlainLine → Type 0
InsertsLogRecord line = IfSome (body_of line) RecordOf

-- how many bytes of the log a line's record takes up, where it ends no segment
abbrev pub room_of_line : PlainLine → ℕ
room_of_line (Insert body) = assembled_room body
room_of_line (Commit body) = assembled_room body
room_of_line Flush = 0

-- and the records of some lines together
abbrev pub rooms_of_lines : List PlainLine → ℕ
rooms_of_lines [] = 0
rooms_of_lines (line ∷ lines) = room_of_line line + rooms_of_lines lines

-- how many lines flush
abbrev pub flushes_of_line : PlainLine → ℕ
flushes_of_line (Insert body) = 0
flushes_of_line (Commit body) = 1
flushes_of_line Flush = 1

abbrev pub flushes_of_lines : List PlainLine → ℕ
flushes_of_lines [] = 0
flushes_of_lines (line ∷ lines) = flushes_of_line line + flushes_of_lines lines
