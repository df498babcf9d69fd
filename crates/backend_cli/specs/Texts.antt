-- What a run prints.
use Rattle.std.specs.Prelude.{ℕ, ◌+◌, ◌-◌, ◌/◌, List, [], ◌∷◌, ◌++◌, length, Option, Some, None, codes, Bool, if◌then◌else◌}
use Rattle.std.specs.Fmt.{decimal}
use Rattle.byte_position.specs.Position.{end_address_of, position_of}
use Rattle.wal_types.specs.LsnText.{lsn_text}
use Rattle.wal_types.specs.declared.lsn.Lsn.{Lsn}
use Rattle.wal_page.specs.Order.{Entry, rooms_of}
use Rattle.wal_reader.specs.declared.found.FoundRecord.{FoundRecord}
use Rattle.written_log_laws.specs.FoundLog.{end_behind}
use Rattle.run_script.specs.Asked.{AskedLine}
use Rattle.waldump_text.specs.Put.{joined}
use Rattle.run_laws.specs.Counts.{all_commits_of}
use Rattle.run_laws.specs.declared.told.Told.{Told}
use Rattle.run_laws.specs.declared.told.Told.TheVariants.{Wrote, Hard, Flushed, Async, Idle, Switched, Stayed, Refused}
use Rattle.wal_types.specs.declared.answers.Cause.{Cause}
use Rattle.wal_types.specs.declared.answers.Cause.TheVariants.{Full, Disk, Down}

-- where a refused line reserved a record all the same
abbrev pub reserved_text : Option Lsn → List (List ℕ)
reserved_text None = codes "\n" ∷ []
reserved_text (Some start) = codes " reserved " ∷ lsn_text start.0 ∷ codes "\n" ∷ []

abbrev pub cause_text : Cause → Option Lsn → List (List ℕ)
cause_text (Full free) reserved = codes " full " ∷ decimal free ∷ codes "\n" ∷ []
cause_text (Disk faults) reserved = codes " disk " ∷ decimal faults ∷ reserved_text reserved
cause_text (Down faults) reserved = codes " down " ∷ decimal faults ∷ reserved_text reserved

-- what was told, behind the numbers of its backend and line
abbrev pub answer_text : Told → List (List ℕ)
answer_text (Wrote start end) =
    codes " wrote " ∷ lsn_text start.0 ∷ codes " " ∷ lsn_text end.0 ∷ codes "\n" ∷ []
answer_text (Hard start end moment) =
    codes " hard " ∷ lsn_text start.0 ∷ codes " " ∷ lsn_text end.0 ∷ codes " " ∷ decimal moment ∷
    codes "\n" ∷ []
answer_text (Flushed upto moment) =
    codes " flushed " ∷ lsn_text upto.0 ∷ codes " " ∷ decimal moment ∷ codes "\n" ∷ []
answer_text (Async start end) =
    codes " async " ∷ lsn_text start.0 ∷ codes " " ∷ lsn_text end.0 ∷ codes "\n" ∷ []
answer_text (Idle upto) = codes " idle " ∷ lsn_text upto.0 ∷ codes "\n" ∷ []
answer_text (Switched start end) =
    codes " switched " ∷ lsn_text start.0 ∷ codes " " ∷ lsn_text end.0 ∷ codes "\n" ∷ []
answer_text (Stayed end) = codes " stayed " ∷ lsn_text end.0 ∷ codes "\n" ∷ []
answer_text (Refused cause reserved) = cause_text cause reserved

-- a told line: backend, line, and what was told
abbrev pub told_line : ℕ → ℕ → Told → List ℕ
told_line backend line told = joined (decimal backend ∷ codes " " ∷ decimal line ∷ answer_text told)

-- the told lines of a backend, and of all backends from a number on
abbrev pub told_lines_of : ℕ → List AskedLine → List Told → List ℕ
told_lines_of backend [] told = []
told_lines_of backend (line ∷ lines) [] = []
told_lines_of backend (line ∷ lines) (told ∷ others) =
    told_line backend line.number told ++ told_lines_of backend lines others

abbrev pub told_lines_from : ℕ → List (List AskedLine) → List (List Told) → List ℕ
told_lines_from backend [] told = []
told_lines_from backend (lines ∷ script) [] = []
told_lines_from backend (lines ∷ script) (told ∷ others) =
    told_lines_of backend lines told ++ told_lines_from (backend + 1) script others

-- how many segments hold a byte of a log that ends at an address: those from segment 1 up to that
-- of its last byte; none where it ends where segment 1 starts
abbrev pub segments_upto : ℕ → ℕ → ℕ
segments_upto size end = (end - 1) / size

-- the summary of an order that was reserved from a byte position on: its records, durable commits,
-- bytes that its records take up; and of the whole log its end, and segments
abbrev pub summary_text : (size from : ℕ) → List Entry → ℕ → List ℕ
summary_text size from order commits =
    let end = end_address_of size (from + rooms_of size order) in
    joined (codes "records " ∷ decimal (length order) ∷ codes " commits " ∷ decimal commits ∷
    codes " bytes " ∷ decimal (rooms_of size order) ∷ codes " end " ∷ lsn_text end ∷
    codes " segments " ∷ decimal (segments_upto size end) ∷ codes "\n" ∷ [])

-- all that a run prints whose order goes on from a byte position: the told lines where they are
-- asked for, then the summary
abbrev pub run_text : ℕ → Bool → (from : ℕ) → List (List AskedLine) → List (List Told)
    → List Entry → List ℕ
run_text size list from script told order =
    (if list then told_lines_from 0 script told else [])
    ++ summary_text size from order (all_commits_of told)

-- the byte position at which a log goes on behind records that were found
abbrev pub position_behind_found : ℕ → List FoundRecord → ℕ
position_behind_found size found = position_of size (end_behind size found)

-- what was found of a log that is gone on with: how many records, and where they end
abbrev pub found_text : ℕ → List FoundRecord → List ℕ
found_text size found =
    joined (codes "found " ∷ decimal (length found) ∷ codes " end " ∷
    lsn_text (end_behind size found) ∷ codes "\n" ∷ [])

-- all that a run prints that goes on with a log: first what was found
abbrev pub append_text : ℕ → Bool → List FoundRecord → List (List AskedLine) → List (List Told)
    → List Entry → List ℕ
append_text size list found script told order =
    found_text size found ++ run_text size list (position_behind_found size found) script told order
