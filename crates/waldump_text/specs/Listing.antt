-- The listing of records, a line each, in the form of pg_waldump.
use Rattle.std.specs.Prelude.{ℕ, ◌-◌, ◌/◌, ◌%◌, ◌≤◌, ℤ, Bool, ◌&&◌, nat_le, map, IsTrue, not, List, [], ◌∷◌, ◌++◌, length, take, filter, codes, slice_index_or, All, Option, Some, None, IsSomeAnd, ◌==◌, if◌then◌else◌}
use Rattle.std.specs.Fmt.{decimal}
use Rattle.std.specs.Int.{cast_signed, from_le_bytes, w64}
use Rattle.std.specs.List.{flat_map}
use Rattle.std.specs.Option.{option_map_or}
use Rattle.wal_types.specs.LsnText.{lsn_text}
use Rattle.wal_types.specs.declared.record.Block.{Block}
use Rattle.wal_types.specs.declared.record.Image.{Image}
use Rattle.wal_types.specs.declared.record.Record.{Record}
use Rattle.wal_types.specs.declared.record.Rel.{Rel}
use Rattle.waldump_text.specs.TimeText.{time_text}
use Rattle.wal_spelling.specs.Record.{is_free_manager}
use Rattle.wal_reader.specs.declared.found.FoundRecord.{FoundRecord}
use Rattle.waldump_filter.specs.declared.Filter.{Filter}
use Rattle.waldump_filter.specs.declared.listed.Listed.{Listed}
use Rattle.waldump_filter.specs.Keeping.{keeps}
use Rattle.waldump_text.specs.Put.{joined, padded_left, padded_right}
use Rattle.waldump_text.specs.Sums.{images_len}
use Rattle.waldump_text.specs.Statistics.{stats_text}
use Rattle.waldump_filter.specs.Names.{fork_names}
use Rattle.waldump_text.specs.Names.{manager_name, record_word, hexadecimal}

-- the main data in hexadecimal, or `-` for none
abbrev pub main_text : List ℕ → List ℕ
main_text main = if length main == 0 then codes "-" else hexadecimal main

-- when a transaction committed, by a record that tells it: a commit, by its manager and bits 4 to 6
-- of its info, whose main data begins with the time, a signed number of 8 bytes
abbrev pub commit_time_of : Record → Option ℤ
commit_time_of value =
    if value.rmid == 1 && value.info / 16 % 8 == 0 && nat_le 8 (length value.main)
    then Some (cast_signed w64 (from_le_bytes w64 (take 8 value.main))) else None

-- its text, where times are asked for
abbrev pub commit_time_text : Bool → Record → List ℕ
commit_time_text times value =
    if times then option_map_or time_text (commit_time_of value) [] else []

-- the data of a record, and behind it when it committed
abbrev pub data_text : Bool → Record → List ℕ
data_text times value = main_text value.main ++ commit_time_text times value

-- the pieces of a record's line before its data: manager, size without and with images,
-- transaction, its start, that of the record before and its word
abbrev pub head_pieces : Listed → List (List ℕ)
head_pieces r =
    codes "rmgr: " ∷ padded_right 11 (manager_name r.value.rmid) ∷ codes " len (rec/tot): "
    ∷ padded_left 6 (decimal (r.total - images_len r.value.blocks)) ∷ codes "/"
    ∷ padded_left 6 (decimal r.total) ∷ codes ", tx: " ∷ padded_left 10 (decimal r.value.xid.0)
    ∷ codes ", lsn: " ∷ lsn_text r.start.0 ∷ codes ", prev " ∷ lsn_text r.prev.0 ∷ codes ", desc: "
    ∷ record_word r.value.rmid r.value.info ∷ codes " data " ∷ []

-- a relation: its tablespace, its database and its own number
abbrev pub relation_text : Rel → List ℕ
relation_text rel =
    joined (decimal rel.spc ∷ codes "/" ∷ decimal rel.db ∷ codes "/" ∷ decimal rel.rel ∷ [])

-- a fork other than the main one is named
abbrev pub fork_text : ℕ → List ℕ
fork_text fork = if fork == 0 then [] else codes " fork " ++ slice_index_or fork_names fork []

-- an image is told, and whether it is for redo or for verification alone
abbrev pub image_text : Option Image → List ℕ
image_text None = []
image_text (Some image) = if image.apply then codes " FPW" else codes " FPW for WAL verification"

-- a reference to a block: its number in the record, its relation and fork, its own number, and its
-- image
abbrev pub block_pieces : Block → List (List ℕ)
block_pieces b =
    codes ", blkref #" ∷ decimal b.id ∷ codes ": rel " ∷ relation_text b.rel ∷ fork_text b.fork
    ∷ codes " blk " ∷ decimal b.blk ∷ image_text b.image ∷ []

abbrev pub blocks_text : List Block → List ℕ
blocks_text blocks = flat_map (λ b. joined (block_pieces b)) blocks

-- a record's line: its head, its data and its block references
abbrev pub line_text : Bool → Listed → List ℕ
line_text times r =
    joined
    (head_pieces r ++ data_text times r.value ∷ blocks_text r.value.blocks ∷ codes "\n" ∷ [])

-- a record that has a line: its manager and its forks have names, and its images are no more than
-- all of it
pub record IsListable (r : Listed) : Type 0 where
  pub manager : IsTrue (not (is_free_manager r.value.rmid))
  pub forks : All (λ b. b.fork ≤ 3) r.value.blocks
  pub images : images_len r.value.blocks ≤ r.total

-- a record as it is listed
abbrev pub listed_of : FoundRecord → Listed
listed_of f =
    record { start = f.head.start; prev = f.head.prev; total = f.head.total; value = f.value }

-- those of a log's records that a filter keeps
abbrev pub kept_by : Filter → List FoundRecord → List FoundRecord
kept_by by found = filter (λ f. keeps by (listed_of f)) found

-- the front of a list up to a limit, where there is one
abbrev pub up_to : Option ℕ → List FoundRecord → List FoundRecord
up_to None found = found
up_to (Some limit) found = take limit found

-- the records that a filter lists: those that it keeps, up to its limit
abbrev pub listed_by : Filter → List FoundRecord → List FoundRecord
listed_by by found = up_to by.limit (kept_by by found)

-- a filter's limit is listed: it has one, and keeps no fewer records
abbrev pub IsLimitListed : Filter → List FoundRecord → Type 0
IsLimitListed by found = IsSomeAnd by.limit (λ limit. limit ≤ length (kept_by by found))

-- the lines of records, one behind another
abbrev pub line_texts : Bool → List FoundRecord → List ℕ
line_texts times found = flat_map (λ f. line_text times (listed_of f)) found

-- the listing of a log's records by a filter: the lines of those that it lists, or their
-- statistics, or nothing where it is quiet
abbrev pub listing : Filter → List FoundRecord → List ℕ
listing by found =
    if by.quiet then []
    else (if by.stats then stats_text (map listed_of (listed_by by found))
    else line_texts by.times (listed_by by found))

-- what is put of a listing while the log is read: lines as they come, and no statistics
abbrev pub listing_in_reading : Filter → List FoundRecord → List ℕ
listing_in_reading by found = if by.stats then [] else listing by found
