-- The record at a place, computed: what the code's own contracts and the proofs go by. That it is
-- the relation by which `Decodes` reads, `ReadsAt`, is proved for all pages (proofs/ReadAtLaws).
use Rattle.std.specs.Prelude.{◌≡◌, ℕ, ◌/◌, List, [], ◌∷◌, Option, Some, None, Result, Ok, Err, if◌then◌else◌}
use Rattle.std.specs.Int.{w32, w64}
use Rattle.byte_position.specs.Position.{address_of}
use Rattle.wal_types.specs.declared.record.Record.{Record}
use Rattle.wal_spelling.specs.Numbers.{number_at}
use Rattle.wal_record.specs.Reading.{reading_of}
use Rattle.wal_record.specs.declared.fault.RecErr.{RecErr}
use Rattle.wal_record.specs.declared.fault.RecErr.TheVariants.{Memory, Malformed, Compressed}
use Rattle.wal_page.specs.Page.{first_fault}
use Rattle.wal_reader.specs.declared.found.FoundRecord.{FoundRecord}
use Rattle.wal_reader.specs.declared.found.Answer.{Answer}
use Rattle.wal_reader.specs.declared.found.DamageKind.TheVariants as kinds
use Rattle.wal_reader.specs.declared.record_place.RecordPlace.{RecordPlace}
use Rattle.wal_reader.specs.Decodes.{compressed, damaged, ended, found_record, is_at_end, place_behind, record_rows}
use Rattle.wal_reader.specs.Pages.{Pages, bytes_from}

-- what a reading of a record's bytes is told as; a reading never runs out of memory
abbrev pub found_or : ℕ → RecordPlace → ℕ → ℕ → Result Record RecErr → Result FoundRecord Answer
found_or size place total prev (Ok value) = Ok (found_record size place total prev value)
found_or size place total prev (Err Memory) =
    Err (damaged (address_of size place.position) kinds.Malformed)
found_or size place total prev (Err (Malformed at kind)) =
    Err (damaged (address_of size place.position) kinds.Malformed)
found_or size place total prev (Err (Compressed block)) =
    Err (compressed (address_of size place.position))

-- the first row that holds, or else what the record's bytes say
abbrev pub answer_or : ℕ → Pages → RecordPlace → Option Answer → Result FoundRecord Answer
answer_or size pages place (Some answer) = Err answer
answer_or size pages place None =
    let header = bytes_from size pages 24 place.position in
    let total = number_at w32 header 0 in
    found_or size place total (number_at w64 header 8)
    (reading_of (bytes_from size pages total place.position))

abbrev pub read_in : ℕ → Pages → Option ℕ → RecordPlace → Option (List ℕ)
    → Result FoundRecord Answer
read_in size pages end place None = Err (ended size place.position)
read_in size pages end place (Some bytes) =
    answer_or size pages place (first_fault (record_rows size pages end place bytes))

-- the record at a place, or what stands there instead; at an end that was given nothing is read
unfoldable pub read_at : ℕ → Pages → Option ℕ → RecordPlace → Result FoundRecord Answer
read_at size pages end place =
    if is_at_end end (address_of size place.position) then Err (ended size place.position)
    else read_in size pages end place (pages (address_of size place.position / 8192))

-- from a place on these records are read, one behind another, and then this answer comes
abbrev pub ReadsComputed : ℕ → Pages → Option ℕ → RecordPlace → List FoundRecord → Answer
    → Type 0
ReadsComputed size pages end place [] answer = read_at size pages end place ≡ Err answer
ReadsComputed size pages end place (found ∷ others) answer =
    (read_at size pages end place ≡ Ok found)
    × ReadsComputed size pages end (place_behind size pages place found) others answer
