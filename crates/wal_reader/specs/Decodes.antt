-- What a log's pages decode to (PostgreSQL's xlogreader.c): records one behind another, and the
-- first thing that is no record.
use Rattle.std.specs.Prelude.{◌≡◌, ℕ, zero, suc, ◌+◌, ◌-◌, ◌*◌, ◌/◌, ◌%◌, ◌^◌, Bool, true, false, ◌&&◌, not, List, [], ◌∷◌, ◌++◌, take, drop, filter, map, slice_index, Option, Some, None, Result, Ok, Err, ◌==◌, nat_lt, nat_le, if◌then◌else◌}
use Rattle.std.specs.Bool.{MatchBool}
use Rattle.std.specs.List.{flat_map, range_with_len}
use Rattle.std.specs.Int.{w32, w64}
use Rattle.byte_position.specs.Position.{position_of, address_of, end_address_of}
use Rattle.wal_types.specs.declared.lsn.Lsn.{Lsn}
use Rattle.wal_types.specs.declared.record.Record.{Record}
use Rattle.wal_crc32c.specs.Crc32c.{crc32c}
use Rattle.wal_spelling.specs.Record.{is_free_manager, is_switch}
use Rattle.wal_spelling.specs.Numbers.{number_at}
use Rattle.wal_record.specs.Fails.{FailsAt}
use Rattle.wal_record.specs.Spells.{Spells}
use Rattle.wal_record.specs.declared.fault.RecErr.TheVariants.{Malformed, Compressed}
use Rattle.wal_record.specs.declared.fault.RecKind.{RecKind}
use Rattle.wal_page.specs.Order.{next_segment}
use Rattle.wal_page.specs.Page.{header_size, timeline_of, remaining_of, is_continued, is_overwritten, first_fault, page_rows}
use Rattle.wal_reader.specs.declared.found.FoundRecord.{FoundRecord}
use Rattle.wal_reader.specs.declared.found.Answer.{Answer}
use Rattle.wal_reader.specs.declared.found.Answer.TheVariants as answers
use Rattle.wal_reader.specs.declared.found.Stopped.TheVariants as stopped
use Rattle.wal_reader.specs.declared.found.DamageKind.{DamageKind}
use Rattle.wal_reader.specs.declared.found.DamageKind.TheVariants as kinds
use Rattle.wal_reader.specs.declared.record_place.RecordPlace.{RecordPlace}
use Rattle.wal_reader.specs.Pages.{Pages, bytes_from}

abbrev pub damaged : ℕ → DamageKind → Answer
damaged at kind = answers.Stopped (stopped.Damaged (record { 0 = at }) kind)

abbrev pub compressed : ℕ → Answer
compressed at = answers.Stopped (stopped.Compressed (record { 0 = at }))

abbrev pub ended : ℕ → ℕ → Answer
ended size position = answers.End (record { 0 = end_address_of size position })

-- whether the first eight bytes are zero
abbrev pub is_zero_word : List ℕ → Bool
is_zero_word bytes = number_at w64 bytes 0 == 0

-- whether a byte position is a page's first
abbrev pub opens_page : ℕ → ℕ → Bool
opens_page size position =
    let address = address_of size position in address % 8192 == header_size size (address / 8192)

-- a page's checks, each told at the page's address
abbrev pub page_answers : ℕ → ℕ → List ℕ → ℕ → List (Bool × Answer)
page_answers size page bytes timeline =
    map (λ row. (row.0, damaged (page * 8192) (kinds.Page row.1)))
    (page_rows size page bytes timeline)

-- a page's timeline, or one told before where it is not there
abbrev pub timeline_or : Option (List ℕ) → ℕ → ℕ
timeline_or None timeline = timeline
timeline_or (Some bytes) timeline = timeline_of bytes

-- the checks of a page into which a record continues: it is there, its own checks, it is no page
-- that was overwritten, it says that a record continues, and with how many bytes
abbrev pub continuation_rows_of : ℕ → ℕ → ℕ → ℕ → ℕ → Option (List ℕ) → List (Bool × Answer)
continuation_rows_of size page timeline start owed None = (true, damaged start kinds.Missing) ∷ []
continuation_rows_of size page timeline start owed (Some bytes) =
    page_answers size page bytes timeline
    ++ (is_overwritten bytes, answers.Stopped (stopped.Overwritten (record { 0 = start })))
    ∷ (not (is_continued bytes), damaged start kinds.NoContinuation)
    ∷ (not (remaining_of bytes == owed), damaged start (kinds.RemLen (remaining_of bytes))) ∷ []

abbrev pub continuation_rows : ℕ → Pages → RecordPlace → ℕ → ℕ → List (Bool × Answer)
continuation_rows size pages place total page =
    continuation_rows_of size page (timeline_or (pages (page - 1)) place.timeline)
    (address_of size place.position) (place.position + total - position_of size (page * 8192))
    (pages page)

-- the page in which the n-th byte of a record lies
abbrev pub page_of_byte : ℕ → ℕ → ℕ → ℕ
page_of_byte size position n = address_of size (position + n - 1) / 8192

-- the rows of the pages behind one up to another
abbrev pub rows_of_pages : ℕ → Pages → RecordPlace → ℕ → ℕ → ℕ → List (Bool × Answer)
rows_of_pages size pages place total from upto =
    flat_map (continuation_rows size pages place total) (range_with_len (from + 1) (upto - from))

-- whether what a header names as the record before is right: the one read before it, or for the
-- first one read anything below its own start
abbrev pub is_right_prev : Option Lsn → ℕ → ℕ → Bool
is_right_prev (Some before) start prev = prev == before.0
is_right_prev None start prev = nat_lt prev start

-- whether an end was given and an address is not below it
abbrev pub is_at_end : Option ℕ → ℕ → Bool
is_at_end None address = false
is_at_end (Some end) address = nat_le end address

-- ---- the checks of a record and of the pages that it needs, in their order

-- of the page in which it starts, whose bytes these are
abbrev pub opening_rows : ℕ → RecordPlace → List ℕ → List (Bool × Answer)
opening_rows size place bytes =
    ((opens_page size place.position && is_zero_word bytes, ended size place.position) ∷ [])
    ++ page_answers size (address_of size place.position / 8192) bytes place.timeline
    ++ (
      opens_page size place.position && is_continued bytes,
      damaged
          (address_of size place.position) kinds.Claims,
    ) ∷ []

abbrev pub opening_fault : ℕ → RecordPlace → Option (List ℕ) → Option Answer
opening_fault size place None = Some (ended size place.position)
opening_fault size place (Some bytes) = first_fault (opening_rows size place bytes)

-- of its first word, and of its size
abbrev pub size_rows : ℕ → Option ℕ → ℕ → Bool → ℕ → List (Bool × Answer)
size_rows size end position no_record total =
    (no_record, ended size position)
    ∷ (nat_lt total 24, damaged (address_of size position) kinds.Length)
    ∷ (is_at_end end (address_of size (position + total - 1)), ended size position)
    ∷ []

-- of its header
abbrev pub header_rows : ℕ → Option Lsn → List ℕ → List (Bool × Answer)
header_rows start prev header =
    (is_free_manager (slice_index header 17), damaged start kinds.Rmgr)
    ∷ (
      not (is_right_prev prev start (number_at w64 header 8)),
      damaged start
          (kinds.Prev (record { 0 = number_at w64 header 8 })),
    ) ∷ []

-- of all its bytes
abbrev pub crc_rows : ℕ → List ℕ → List (Bool × Answer)
crc_rows start whole = (
  not (crc32c (drop 24 whole
      ++ take 20 whole) == number_at w32 whole 20),
  damaged start kinds.Crc,
) ∷ []

-- of the pages that its header needs, of its header, of the further pages that it needs, and of all
-- its bytes
abbrev pub rest_rows : ℕ → Pages → RecordPlace → ℕ → List (Bool × Answer)
rest_rows size pages place total =
    let start = address_of size place.position in
    let header_page = page_of_byte size place.position 24 in
    rows_of_pages size pages place total (start / 8192) header_page
    ++ header_rows start place.prev (bytes_from size pages 24 place.position)
    ++ rows_of_pages size pages place total header_page (page_of_byte size place.position total)
    ++ crc_rows start (bytes_from size pages total place.position)

-- all of them; `bytes` are those of the page in which it starts
abbrev pub record_rows : ℕ → Pages → Option ℕ → RecordPlace → List ℕ → List (Bool × Answer)
record_rows size pages end place bytes =
    let total = number_at w32 (bytes_from size pages 8 place.position) 0 in
    let no_record = is_zero_word (bytes_from size pages 24 place.position) in
    opening_rows size place bytes
    ++ (size_rows size end place.position no_record total ++ rest_rows size pages place total)

-- where the next record starts behind one of so many bytes: behind its rounding, or after a segment
-- switch with the segment behind the one in which the switch's last byte stands
unfoldable pub next_position : ℕ → ℕ → ℕ → Record → ℕ
next_position size position total value =
    if is_switch value then next_segment size (position + total - 1)
    else position + (total + 7) / 8 * 8

-- a record as it is found at a place
abbrev pub found_record : ℕ → RecordPlace → ℕ → ℕ → Record → FoundRecord
found_record size place total prev value = record {
  head = record {
    start = record { 0 = address_of size place.position };
    end = record { 0 = end_address_of size (next_position size place.position total value) };
    prev = record { 0 = prev };
    total = total;
  };
  value = value;
}

-- what a record's bytes say: the record that they spell, or the first check of theirs that fails,
-- which is told as a malformed record or as a compressed image
pub data Says (size : ℕ) (place : RecordPlace) (total prev : ℕ) (bytes : List ℕ)
    : Result FoundRecord Answer → Type 0 where
  spelled : (value : Record) → Spells bytes value
      → Says size place total prev bytes (Ok (found_record size place total prev value))
  malformed : (at : ℕ) (kind : RecKind) → FailsAt bytes (Malformed at kind)
      → Says size place total prev bytes
      (Err (damaged (address_of size place.position) kinds.Malformed))
  has_compressed : (block : ℕ) → FailsAt bytes (Compressed block)
      → Says size place total prev bytes (Err (compressed (address_of size place.position)))

-- the first row that holds, or else what the record's bytes say
abbrev pub TellsOrSays : ℕ → Pages → RecordPlace → Option Answer → Result FoundRecord Answer
    → Type 0
TellsOrSays size pages place (Some answer) result = result ≡ Err answer
TellsOrSays size pages place None result =
    let header = bytes_from size pages 24 place.position in
    let total = number_at w32 header 0 in
    Says size place total (number_at w64 header 8) (bytes_from size pages total place.position)
    result

abbrev pub ReadsIn : ℕ → Pages → Option ℕ → RecordPlace → Option (List ℕ)
    → Result FoundRecord Answer → Type 0
ReadsIn size pages end place None result = result ≡ Err (ended size place.position)
ReadsIn size pages end place (Some bytes) result =
    TellsOrSays size pages place (first_fault (record_rows size pages end place bytes)) result

-- the record at a place, or what stands there instead; at an end that was given nothing is read
unfoldable pub ReadsAt : ℕ → Pages → Option ℕ → RecordPlace → Result FoundRecord Answer → Type 0
ReadsAt size pages end place result =
    let address = address_of size place.position in
    MatchBool (is_at_end end address) (result ≡ Err (ended size place.position))
    (ReadsIn size pages end place (pages (address / 8192)) result)

-- the place behind a record
abbrev pub place_behind : ℕ → Pages → RecordPlace → FoundRecord → RecordPlace
place_behind size pages place found = record {
  position = next_position size place.position found.head.total found.value;
  prev = Some found.head.start;
  timeline = timeline_or (pages (page_of_byte size place.position found.head.total)) place.timeline;
}

-- from a place on these records are read, one behind another, and then this answer comes
abbrev pub ReadsRecords : ℕ → Pages → Option ℕ → RecordPlace → List FoundRecord → Answer → Type 0
ReadsRecords size pages end place [] answer = ReadsAt size pages end place (Err answer)
ReadsRecords size pages end place (found ∷ others) answer =
    ReadsAt size pages end place (Ok found)
    × ReadsRecords size pages end (place_behind size pages place found) others answer

-- the first place of a page that a record may start at: behind what is continued there, which may
-- reach over whole pages; `turns` bounds how many
abbrev pub begin_in : (ℕ → ℕ → Result RecordPlace Answer) → ℕ → ℕ → ℕ → Option (List ℕ)
    → Result RecordPlace Answer
begin_in next size page timeline None = Err (ended size (position_of size (page * 8192)))
begin_in next size page timeline (Some bytes) =
    let first = position_of size (page * 8192) in
    let skipped = (remaining_of bytes + 7) / 8 * 8 in
    let from : ℕ → Result RecordPlace Answer = λ position.
    Ok (record { position = position; prev = None; timeline = timeline_of bytes }) in
    let behind_continued =
    if nat_le (8192 - header_size size page) skipped then next (page + 1) (timeline_of bytes)
    else from (first + skipped) in
    if is_zero_word bytes then Err (ended size first)
    else begun (first_fault (page_answers size page bytes timeline))
    (if is_continued bytes then behind_continued else from first)
  where
    begun : Option Answer → Result RecordPlace Answer → Result RecordPlace Answer
    begun (Some answer) place = Err answer
    begun None place = place

unfoldable pub begin_at : ℕ → ℕ → Pages → ℕ → ℕ → Result RecordPlace Answer
begin_at zero size pages page timeline = Err (ended size (position_of size (page * 8192)))
begin_at (suc turns) size pages page timeline =
    begin_in (begin_at turns size pages) size page timeline (pages page)

-- where reading begins: on the page that holds the start
abbrev pub beginning : ℕ → Pages → ℕ → Result RecordPlace Answer
beginning size pages start = begin_at (2 ^ 47) size pages (start / 8192) 0

-- from where reading begins these records are read, and then this answer comes
abbrev pub ReadsFrom : ℕ → Pages → Option ℕ → Result RecordPlace Answer → List FoundRecord → Answer
    → Type 0
ReadsFrom size pages end (Err told) found answer = (found ≡ []) × (answer ≡ told)
ReadsFrom size pages end (Ok place) found answer = ReadsRecords size pages end place found answer

-- what pages decode to: the records that start at or behind `start`, and the first thing that is no
-- record
pub record Decodes (size : ℕ) (pages : Pages) (start : ℕ) (end : Option ℕ)
    (found : List FoundRecord) (answer : Answer) : Type 0 where
  pub read : List FoundRecord
  pub reads : ReadsFrom size pages end (beginning size pages start) read answer
  pub given : found ≡ filter (λ f. nat_le start f.head.start.0) read
