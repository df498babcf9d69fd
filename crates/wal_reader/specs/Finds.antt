-- What a reader finds in a log's pages: the records that `Decodes` lists, without what is told
-- where they end.
use Rattle.std.specs.Prelude.{◌≡◌, ◌≢◌, ◌↔◌, ◌⊎◌, ℕ, ◌+◌, ◌-◌, ◌*◌, ◌/◌, ◌%◌, ◌<◌, ◌≤◌, not, IsTrue, List, [], ◌∷◌, ◌++◌, take, drop, slice_index, filter, nat_le, Some, None, ◌==◌}
use Rattle.std.specs.Int.{w16, w32, w64}
use Rattle.std.specs.Option.{MatchOption}
use Rattle.byte_position.specs.Geometry.{IsSegmentSize}
use Rattle.byte_position.specs.Position.{address_of, end_address_of, position_of}
use Rattle.segment_disk.specs.DiskImage.{DiskImage}
use Rattle.wal_crc32c.specs.Crc32c.{crc32c}
use Rattle.wal_spelling.specs.Numbers.{number_at}
use Rattle.wal_spelling.specs.Record.{is_free_manager}
use Rattle.wal_record.specs.Spells.{Spells}
use Rattle.wal_page.specs.Page.{info_of, is_continued, is_first_page, remaining_of, timeline_of}
use Rattle.wal_reader.specs.declared.found.Answer.{Answer}
use Rattle.wal_reader.specs.declared.found.FoundRecord.{FoundRecord}
use Rattle.wal_reader.specs.declared.record_place.RecordPlace.{RecordPlace}
use Rattle.wal_reader.specs.Beginning.{skipped_in}
use Rattle.wal_reader.specs.Decodes.{Decodes, next_position, page_of_byte, place_behind, timeline_or}
use Rattle.wal_reader.specs.Pages.{Pages, bytes_from, pages_in}

-- a page's header is sound: the magic number; no flag above 8; flag 2, a long header, in a
-- segment's first page and in no other, where it names the sizes of segments and pages and a system
-- id that is not 0; the page's own address; no timeline below that of the page before
pub record IsSoundPage (size page timeline : ℕ) (bytes : List ℕ) : Type 0 where
  pub magic : number_at w16 bytes 0 ≡ 0xD113
  pub flags : info_of bytes ≤ 15
  pub long : (info_of bytes / 2 % 2 == 1) ≡ is_first_page size page
  pub sizes : IsTrue (is_first_page size page)
      → (number_at w32 bytes 32 ≡ size) × (number_at w32 bytes 36 ≡ 8192)
  pub system : IsTrue (is_first_page size page) → number_at w64 bytes 24 ≢ 0
  pub address : number_at w64 bytes 8 ≡ page * 8192
  pub no_earlier : timeline ≤ timeline_of bytes

-- a record of `total` bytes that starts at a place goes on in a page: the page is there and sound,
-- does not say that the record was overwritten (flag 8), and says that a record goes on in it, with
-- as many bytes as are still to come
pub record GoesOnIn (size : ℕ) (pages : Pages) (place : RecordPlace) (total page : ℕ)
    : Type 0 where
  pub bytes : List ℕ
  pub is_there : pages page ≡ Some bytes
  pub sound : IsSoundPage size page (timeline_or (pages (page - 1)) place.timeline) bytes
  pub kept : info_of bytes / 8 % 2 ≡ 0
  pub continued : IsTrue (is_continued bytes)
  pub to_come : remaining_of bytes ≡ place.position + total - position_of size (page * 8192)

-- a record stands at a place
pub record IsRecordAt (size : ℕ) (pages : Pages) (place : RecordPlace) (found : FoundRecord)
    : Type 0 where
  -- it starts there, and its end is that of the position at which the next one starts; its header
  -- says how many bytes it has, 24 at least, and where the record before it starts
  pub start_is : found.head.start.0 ≡ address_of size place.position
  pub end_is : found.head.end.0
      ≡ end_address_of size (next_position size place.position found.head.total found.value)
  pub total_is : found.head.total ≡ number_at w32 (bytes_from size pages 24 place.position) 0
  pub has_header : 24 ≤ found.head.total
  pub prev_is : found.head.prev.0 ≡ number_at w64 (bytes_from size pages 24 place.position) 8
  -- that is the one that was read before it; the first one read names any that starts before it
  pub right_prev :
      MatchOption place.prev (found.head.prev.0 < found.head.start.0)
      (λ before. found.head.prev.0 ≡ before.0)
  -- the page in which it starts is there and sound; if it starts right behind the page's header, no
  -- record goes on in that page
  pub page : List ℕ
  pub is_there : pages (found.head.start.0 / 8192) ≡ Some page
  pub sound : IsSoundPage size (found.head.start.0 / 8192) place.timeline page
  pub opens : place.position ≡ position_of size (found.head.start.0 / 8192 * 8192)
      → IsTrue (not (is_continued page))
  -- it goes on in each page behind that one, up to the page of its last byte
  pub goes_on : (n : ℕ) → found.head.start.0 / 8192 < n
      → n ≤ page_of_byte size place.position found.head.total
      → GoesOnIn size pages place found.head.total n
  -- there is a manager of its number; its CRC is that of its bytes, those behind the header and
  -- then the first 20, and they spell it
  pub manager : IsTrue (not (is_free_manager
      (slice_index (bytes_from size pages 24 place.position) 17)))
  pub right_crc :
      let whole = bytes_from size pages found.head.total place.position in
      crc32c (drop 24 whole ++ take 20 whole) ≡ number_at w32 whole 20
  pub spells : Spells (bytes_from size pages found.head.total place.position) found.value

-- from a place on these records stand one behind another, and none behind the last
abbrev pub FindsFrom : ℕ → Pages → RecordPlace → List FoundRecord → Type 0
FindsFrom size pages place [] = (found : FoundRecord) → IsRecordAt size pages place found → ⊥
FindsFrom size pages place (found ∷ others) =
    IsRecordAt size pages place found
    × FindsFrom size pages (place_behind size pages place found) others

-- from a page on, where the page read before has this timeline (0: none was read), reading begins
-- at a place: behind the header of the page, which is there and sound, or behind the record that
-- goes on in it, which may fill that page and further ones
pub data BeginsAt (size : ℕ) (pages : Pages) : ℕ → ℕ → RecordPlace → Type 0 where
  on_page : {page timeline : ℕ} (bytes : List ℕ) → pages page ≡ Some bytes
      → IsSoundPage size page timeline bytes
      → position_of size (page * 8192) + skipped_in bytes < position_of size ((page + 1) * 8192)
      → BeginsAt size pages page timeline (record {
        position = position_of size (page * 8192) + skipped_in bytes;
        prev = None;
        timeline = timeline_of bytes;
      })
  behind_page : {page timeline : ℕ} {place : RecordPlace} (bytes : List ℕ) → pages page ≡ Some bytes
      → IsSoundPage size page timeline bytes
      → position_of size ((page + 1) * 8192) ≤ position_of size (page * 8192) + skipped_in bytes
      → BeginsAt size pages (page + 1) (timeline_of bytes) place
      → BeginsAt size pages page timeline place

-- the records that a reader finds in pages and that start at `start` or behind it: those from where
-- reading begins on, from the page that holds the start, and none where it cannot begin
pub record FindsRecords (size : ℕ) (pages : Pages) (start : ℕ) (found : List FoundRecord)
    : Type 0 where
  pub read : List FoundRecord
  pub reads :
      ((place : RecordPlace)
      × BeginsAt size pages (start / 8192) 0 place × FindsFrom size pages place read)
      ⊎ (((place : RecordPlace) → BeginsAt size pages (start / 8192) 0 place → ⊥) × (read ≡ []))
  pub given : found ≡ filter (λ f. nat_le start f.head.start.0) read

-- they are just those that the pages decode to, whatever is told where they end
abbrev pub FindingIsDecoding : Type 0
FindingIsDecoding =
    (size : ℕ) (image : DiskImage) (start : ℕ) → IsSegmentSize size → (found : List FoundRecord)
    → FindsRecords size (pages_in size image) start found
    ↔ ((answer : Answer) × Decodes size (pages_in size image) start None found answer)
